-- What a forged message does, by the check that ended it, from what the code knows then.
use Rattle.std.proofs.Common.{cond, take, set, length, Some, ◌+◌, ◌≤◌, ◌≡◌, ◌&&◌, ◌||◌, ℕ, Bool, true, false, not, List, [], ◌∷◌, None, Ok, Err, Option, sym, refl, ap, ◌∙◌}
use Rattle.std.specs.Result.{IsErrAnd}
use Rattle.trust.specs.Trust.{Trust}
use Rattle.trust.specs.declared.refusal.Refusal.{Refusal}
use Rattle.trust.specs.declared.refusal.Refusal.TheVariants.{RollSize, NoSuch, WrongParty, Unfit, RollFull}
use Rattle.trust.specs.Refusals.{first_of}
use Rattle.protocol.specs.Hearing.{absent}
use Rattle.protocol.specs.declared.message.Place.{Place}
use Rattle.protocol.specs.declared.record.Heard.{Heard}
use Rattle.protocol.specs.declared.record.Heard.TheVariants.{Ignored}
use Rattle.protocol.specs.declared.slot.Slot.{Slot}
use Rattle.runs.specs.declared.call.Outcome.TheVariants.{Stepped}
use Rattle.runs.specs.declared.call.Call.TheVariants.{Forge}
use Rattle.runs.specs.Values.{Values}
use Rattle.runs.specs.Calls.{World, State, Answer, known_in, correct, kind, message?, roll_size, roll_full, place_of, entered, heeds_in, hears_in, stepped, forge}
use Rattle.panel.specs.Broadcasts.{IsRouteOf}
use Rattle.panel.specs.declared.board.index.SlotIndex.{SlotIndex}
use Rattle.panel.specs.declared.board.index.Route.{Route}
use Rattle.panel.specs.declared.panel.Panel.{Panel}
use Rattle.panel.specs.Views.{world_of, state_of, Carries, Does}
use Rattle.panel.proofs.Refusing.{fails}
use Rattle.panel.proofs.Answering.{known_is, refuses, unchanged, enters}

turned : (a b : Bool) → (a || not b) ≡ not (not a && b)
turned true b = refl
turned false b = refl

module _ {V : Type 0} (w : World) (places : ℕ) (x : State V) (n s i k : ℕ) (v : V) (fit : Bool) (known : Option Place) where
  abbrev IsAnswered : Answer → State V → Type 0
  IsAnswered a y = forge w places x n s i k v fit known ≡ (a, y)

  roll_unfit : roll_size x.used places ≡ true → IsAnswered (Err RollSize) x
  roll_unfit e = rw e refl

  module _ (roll : None ≡ first_of ((roll_size x.used places, RollSize) ∷ [])) where
    roll_fits : roll_size x.used places ≡ false
    roll_fits = fails (roll_size x.used places) RollSize roll

    no_message : not (message? w n s i k) ≡ true → IsAnswered (Err NoSuch) x
    no_message e = rw (roll_fits, e) refl

    module _ (message : None ≡ first_of ((not (message? w n s i k), NoSuch) ∷ [])) (slot : SlotIndex) (route : Route) (same : IsRouteOf n s i k slot route) where
      named : not (message? w n s i k) ≡ false
      named = fails (not (message? w n s i k)) NoSuch message

      goes : (b : Bool) → b ≡ (not (correct w route.from.node.0) && correct w route.to.node.0) → (correct w i || not (correct w k)) ≡ not b
      goes b e = turned (correct w i) (correct w k) ∙ ap not (rw (← same.same_from, ← same.same_to) (sym e))

      wrong_party : false ≡ (not (correct w route.from.node.0) && correct w route.to.node.0) → IsAnswered (Err WrongParty) x
      wrong_party e = rw (roll_fits, named, goes false e) refl

      module _ (party : true ≡ (not (correct w route.from.node.0) && correct w route.to.node.0)) where
        unfit : false ≡ fit → IsAnswered (Err Unfit) x
        unfit e = rw (roll_fits, named, goes true party, ← e) refl

        module _ (fits : true ≡ fit) where
          abbrev Heeds : Bool → Type 0
          Heeds b = b ≡ heeds_in w x.board slot.number route.kind route.from.node.0 route.to.node.0

          heeded : (b : Bool) → Heeds b → heeds_in w x.board s (kind n) i k ≡ b
          heeded b e = rw (← same.same_kind, ← same.same_slot, ← same.same_from, ← same.same_to) (sym e)

          ignored : Heeds false → IsAnswered (Ok (Stepped Ignored)) x
          ignored e = rw (roll_fits, named, goes true party, ← fits, heeded false e) refl

          module _ (heeds : Heeds true) where
            full : roll_full x.used places known ≡ true → IsAnswered (Err RollFull) x
            full e = rw (roll_fits, named, goes true party, ← fits, heeded true heeds, e) refl

            hears : None ≡ first_of ((roll_full x.used places known, RollFull) ∷ []) → (r : Heard × List Slot)
                → hears_in w x.board slot.number route.kind route.from.node.0 route.to.node.0 (place_of x.used known) ≡ r
                → IsAnswered (Ok (Stepped r.0)) (entered x v known r.1)
            hears e r is =
                let there : hears_in w x.board s (kind n) i k (place_of x.used known) ≡ r = rw (← same.same_kind, ← same.same_slot, ← same.same_from, ← same.same_to) is in
                let goes_on : forge w places x n s i k v fit known ≡ stepped x v known (hears_in w x.board s (kind n) i k (place_of x.used known)) =
                rw (roll_fits, named, goes true party, ← fits, heeded true heeds, fails (roll_full x.used places known) RollFull e) refl in
                goes_on ∙ ap (stepped x v known) there

module _ {R V : Type 0} (values : Values V) (meaning : R → Trust) (p : Panel R) (roll : List V) (n s i k : ℕ) (v : V) where
  abbrev w : World
  w = world_of meaning p

  abbrev places : ℕ
  places = length roll

  abbrev Ends : Answer → Panel R → List V → Type 0
  Ends a q after = Does values meaning p roll (Forge n s i k v) a q after

  pub ends_roll : (e : Refusal) (a : Answer) → Some e ≡ first_of ((roll_size p.board.used places, RollSize) ∷ []) → IsErrAnd a (λ d. d ≡ e) → Ends a p roll
  ends_roll e a checked ended = refuses values meaning p roll _ _ _ e a p roll refl refl refl refl checked ended (λ out row carries. roll_unfit w places (state_of p row) n s i k v _ _ out)

  module _ (fits_roll : None ≡ first_of ((roll_size p.board.used places, RollSize) ∷ [])) where
    pub ends_message : (e : Refusal) (a : Answer) → Some e ≡ first_of ((not (message? w n s i k), NoSuch) ∷ []) → IsErrAnd a (λ d. d ≡ e) → Ends a p roll
    ends_message e a checked ended =
        refuses values meaning p roll _ _ _ e a p roll refl refl refl refl checked ended (λ out row carries. no_message w places (state_of p row) n s i k v _ _ fits_roll out)

    module _ (message : None ≡ first_of ((not (message? w n s i k), NoSuch) ∷ [])) (slot : SlotIndex) (route : Route) (same : IsRouteOf n s i k slot route) where
      pub ends_party : false ≡ (not (correct w route.from.node.0) && correct w route.to.node.0) → Ends (Err WrongParty) p roll
      ends_party e = unchanged values meaning p roll _ _ (λ row carries. wrong_party w places (state_of p row) n s i k v _ _ fits_roll message slot route same e)

      module _ (party : true ≡ (not (correct w route.from.node.0) && correct w route.to.node.0)) where
        pub ends_unfit : false ≡ values.fit (values.meaning v) → Ends (Err Unfit) p roll
        ends_unfit e = unchanged values meaning p roll _ _ (λ row carries. unfit w places (state_of p row) n s i k v _ _ fits_roll message slot route same party e)

        module _ (fit : true ≡ values.fit (values.meaning v)) where
          pub ends_ignored : false ≡ heeds_in w p.board.slots slot.number route.kind route.from.node.0 route.to.node.0 → Ends (Ok (Stepped Ignored)) p roll
          ends_ignored e = unchanged values meaning p roll _ _ (λ row carries. ignored w places (state_of p row) n s i k v _ _ fits_roll message slot route same party fit e)

          module _ (heeds : true ≡ heeds_in w p.board.slots slot.number route.kind route.from.node.0 route.to.node.0)
              (le : p.board.used ≤ places) (known : Option Place) (found : known ≡ known_in values (take p.board.used roll) v)
              (q : Panel R) (after : List V) (same_world : world_of meaning q ≡ w) where
            by_known : (row : List V) → Carries p.board.used row roll
                → forge w places (state_of p row) n s i k v (values.fit (values.meaning v)) (known_in values row v) ≡ forge w places (state_of p row) n s i k v (values.fit (values.meaning v)) known
            by_known row carries = ap (forge w places (state_of p row) n s i k v _) (known_is values p.board.used row roll v known carries le found)

            pub ends_full : q.board.used ≡ p.board.used → q.board.slots ≡ p.board.slots → after ≡ roll
                → (e : Refusal) (a : Answer) → Some e ≡ first_of ((roll_full p.board.used places known, RollFull) ∷ []) → IsErrAnd a (λ d. d ≡ e) → Ends a q after
            ends_full u b r e a checked ended =
                refuses values meaning p roll _ _ _ e a q after same_world u b r checked ended (λ out row carries.
                by_known row carries ∙ full w places (state_of p row) n s i k v _ known fits_roll message slot route same party fit heeds out)

            pub ends_heard : q.board.used ≡ cond (absent known) (p.board.used + 1) p.board.used → after ≡ cond (absent known) (set roll p.board.used v) roll
                → None ≡ first_of ((roll_full p.board.used places known, RollFull) ∷ []) → (h : Heard)
                → hears_in w p.board.slots slot.number route.kind route.from.node.0 route.to.node.0 (place_of p.board.used known) ≡ (h, q.board.slots) → Ends (Ok (Stepped h)) q after
            ends_heard u r free h heard =
                enters values meaning p roll _ _ v known q.board.slots q after same_world u refl r le (fails (roll_full p.board.used places known) RollFull free) (λ row carries.
                by_known row carries ∙ hears w places (state_of p row) n s i k v _ known fits_roll message slot route same party fit heeds free _ heard)
