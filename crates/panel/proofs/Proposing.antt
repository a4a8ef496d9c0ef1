-- What a proposal does, by the check that ended it, from what the code knows then.
use Rattle.std.proofs.Common.{eqb, cond, take, set, length, List, ◌+◌, ◌≤◌, ◌≡◌, ℕ, Bool, true, false, not, [], ◌∷◌, Some, None, Ok, Err, Option, sym, refl, ap, ◌∙◌}
use Rattle.std.specs.Result.{IsErrAnd}
use Rattle.std.specs.Option.{option_eq}
use Rattle.trust.specs.Trust.{Trust}
use Rattle.trust.specs.declared.refusal.Refusal.{Refusal}
use Rattle.trust.specs.declared.refusal.Refusal.TheVariants.{RollSize, NoSuch, WrongParty, Unfit, OtherProposal, RollFull}
use Rattle.trust.specs.Refusals.{first_of}
use Rattle.protocol.specs.Hearing.{absent, is}
use Rattle.protocol.specs.declared.slot.Slot.{Slot}
use Rattle.protocol.proofs.Recording.{is_entry}
use Rattle.protocol.specs.declared.message.Place.{Place}
use Rattle.broadcast.proofs.Places.{is_some}
use Rattle.runs.specs.declared.call.Outcome.TheVariants.{Proposed, Already}
use Rattle.runs.specs.declared.call.Call.TheVariants.{Propose}
use Rattle.runs.specs.Values.{Values}
use Rattle.runs.specs.Calls.{World, State, Answer, known_in, sender, correct, slot_at, slot?, roll_size, roll_full, place_of, entered, with_proposal, propose}
use Rattle.panel.specs.declared.panel.Panel.{Panel}
use Rattle.panel.specs.Views.{world_of, state_of, Carries, Does}
use Rattle.panel.proofs.Refusing.{fails}
use Rattle.panel.proofs.Answering.{known_is, refuses, unchanged, enters}

module _ {V : Type 0} (w : World) (places : ℕ) (x : State V) (s : ℕ) (v : V) (fit : Bool) (known : Option Place) where
  abbrev IsAnswered : Answer → State V → Type 0
  IsAnswered a y = propose w places x s v fit known ≡ (a, y)

  roll_unfit : roll_size x.used places ≡ true → IsAnswered (Err RollSize) x
  roll_unfit e = rw e refl

  module _ (roll : None ≡ first_of ((roll_size x.used places, RollSize) ∷ [])) where
    roll_fits : roll_size x.used places ≡ false
    roll_fits = fails (roll_size x.used places) RollSize roll

    no_slot : not (slot? w s) ≡ true → IsAnswered (Err NoSuch) x
    no_slot e = rw (roll_fits, e) refl

    module _ (slot : None ≡ first_of ((not (slot? w s), NoSuch) ∷ [])) (at : ℕ) (same : at ≡ s) where
      in_slots : not (slot? w s) ≡ false
      in_slots = fails (not (slot? w s)) NoSuch slot

      sends : (b : Bool) → b ≡ correct w (sender w at) → correct w (sender w s) ≡ b
      sends b e = ap (λ t. correct w (sender w t)) (sym same) ∙ sym e

      faulty_sender : false ≡ correct w (sender w at) → IsAnswered (Err WrongParty) x
      faulty_sender e = rw (roll_fits, in_slots, sends false e) refl

      module _ (party : true ≡ correct w (sender w at)) where
        unfit : false ≡ fit → IsAnswered (Err Unfit) x
        unfit e = rw (roll_fits, in_slots, sends true party, ← e) refl

        module _ (fits : true ≡ fit) where
          there : (o : Option Place) → (slot_at x.board at).proposal ≡ o → (slot_at x.board s).proposal ≡ o
          there o e = ap (λ t. (slot_at x.board t).proposal) (sym same) ∙ e

          other : (p : Place) → (slot_at x.board at).proposal ≡ Some p → false ≡ is p known → IsAnswered (Err OtherProposal) x
          other p e d = rw (roll_fits, in_slots, sends true party, ← fits, there (Some p) e, ← d) refl

          again : (p : Place) → (slot_at x.board at).proposal ≡ Some p → true ≡ is p known → IsAnswered (Ok Already) x
          again p e d = rw (roll_fits, in_slots, sends true party, ← fits, there (Some p) e, ← d, is_some p known (sym d)) refl

          module _ (none : (slot_at x.board at).proposal ≡ None) where
            full : roll_full x.used places known ≡ true → IsAnswered (Err RollFull) x
            full e = rw (roll_fits, in_slots, sends true party, ← fits, there None none, e) refl

            proposes : None ≡ first_of ((roll_full x.used places known, RollFull) ∷ []) → IsAnswered (Ok Proposed) (entered x v known (with_proposal x.board at (place_of x.used known)))
            proposes e = rw (same, roll_fits, in_slots, sends true party, ← fits, there None none, fails (roll_full x.used places known) RollFull e) refl

module _ {R V : Type 0} (values : Values V) (meaning : R → Trust) (p : Panel R) (roll : List V) (s : ℕ) (v : V) where
  abbrev w : World
  w = world_of meaning p

  abbrev n : ℕ
  n = length roll

  abbrev Ends : Answer → Panel R → List V → Type 0
  Ends a q after = Does values meaning p roll (Propose s v) a q after

  pub ends_roll : (e : Refusal) (a : Answer) → Some e ≡ first_of ((roll_size p.board.used n, RollSize) ∷ []) → IsErrAnd a (λ d. d ≡ e) → Ends a p roll
  ends_roll e a checked ended = refuses values meaning p roll _ _ _ e a p roll refl refl refl refl checked ended (λ out row carries. roll_unfit w n (state_of p row) s v _ _ out)

  module _ (fits_roll : None ≡ first_of ((roll_size p.board.used n, RollSize) ∷ [])) where
    pub ends_slot : (e : Refusal) (a : Answer) → Some e ≡ first_of ((not (slot? w s), NoSuch) ∷ []) → IsErrAnd a (λ d. d ≡ e) → Ends a p roll
    ends_slot e a checked ended = refuses values meaning p roll _ _ _ e a p roll refl refl refl refl checked ended (λ out row carries. no_slot w n (state_of p row) s v _ _ fits_roll out)

    module _ (slot : None ≡ first_of ((not (slot? w s), NoSuch) ∷ [])) (at : ℕ) (same : at ≡ s) where
      pub ends_sender : false ≡ correct w (sender w at) → Ends (Err WrongParty) p roll
      ends_sender e = unchanged values meaning p roll _ _ (λ row carries. faulty_sender w n (state_of p row) s v _ _ fits_roll slot at same e)

      module _ (party : true ≡ correct w (sender w at)) where
        pub ends_unfit : false ≡ values.fit (values.meaning v) → Ends (Err Unfit) p roll
        ends_unfit e = unchanged values meaning p roll _ _ (λ row carries. unfit w n (state_of p row) s v _ _ fits_roll slot at same party e)

        module _ (fit : true ≡ values.fit (values.meaning v)) (le : p.board.used ≤ n) (known : Option Place) (found : known ≡ known_in values (take p.board.used roll) v)
            (here : Slot) (is_here : here ≡ slot_at p.board.slots at) where
          by_known : (row : List V) → Carries p.board.used row roll → propose w n (state_of p row) s v (values.fit (values.meaning v)) (known_in values row v) ≡ propose w n (state_of p row) s v (values.fit (values.meaning v)) known
          by_known row carries = ap (propose w n (state_of p row) s v _) (known_is values p.board.used row roll v known carries le found)

          stands : (o : Option Place) → here.proposal ≡ o → (slot_at p.board.slots at).proposal ≡ o
          stands o e = ap (λ z. z.proposal) (sym is_here) ∙ e

          pub ends_other : (q : Place) → here.proposal ≡ Some q → false ≡ option_eq (λ a b. eqb a.0 b.0) known (Some q) → Ends (Err OtherProposal) p roll
          ends_other q e d =
              unchanged values meaning p roll _ _ (λ row carries. by_known row carries ∙ other w n (state_of p row) s v _ known fits_roll slot at same party fit q (stands (Some q) e) (d ∙ is_entry known q))

          pub ends_again : (q : Place) → here.proposal ≡ Some q → true ≡ option_eq (λ a b. eqb a.0 b.0) known (Some q) → Ends (Ok Already) p roll
          ends_again q e d =
              unchanged values meaning p roll _ _ (λ row carries. by_known row carries ∙ again w n (state_of p row) s v _ known fits_roll slot at same party fit q (stands (Some q) e) (d ∙ is_entry known q))

          module _ (none : here.proposal ≡ None) (q : Panel R) (after : List V) (same_world : world_of meaning q ≡ w) where
            pub ends_full : q.board.used ≡ p.board.used → q.board.slots ≡ p.board.slots → after ≡ roll
                → (e : Refusal) (a : Answer) → Some e ≡ first_of ((roll_full p.board.used n known, RollFull) ∷ []) → IsErrAnd a (λ d. d ≡ e) → Ends a q after
            ends_full u b r e a checked ended =
                refuses values meaning p roll _ _ _ e a q after same_world u b r checked ended (λ out row carries.
                by_known row carries ∙ full w n (state_of p row) s v _ known fits_roll slot at same party fit (stands None none) out)

            pub ends_proposed : q.board.used ≡ cond (absent known) (p.board.used + 1) p.board.used → q.board.slots ≡ with_proposal p.board.slots at (place_of p.board.used known)
                → after ≡ cond (absent known) (set roll p.board.used v) roll → None ≡ first_of ((roll_full p.board.used n known, RollFull) ∷ []) → Ends (Ok Proposed) q after
            ends_proposed u b r free =
                enters values meaning p roll _ _ v known _ q after same_world u b r le (fails (roll_full p.board.used n known) RollFull free) (λ row carries.
                by_known row carries ∙ proposes w n (state_of p row) s v _ known fits_roll slot at same party fit (stands None none) free)
