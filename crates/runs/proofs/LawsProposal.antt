-- A slot's proposal is the value of the one call that proposed it, and used places have different values. Assumes nothing.
use Rattle.std.proofs.Common.{◌≡◌, ℕ, cond, eqb, List, [], ◌∷◌, ◌++◌, Some, None, Option, sym, refl, ap, ◌∙◌, ap₂, Err}
use Rattle.std.proofs.lemmas.Bool.{eq-eqb, ne_eqb}
use Rattle.trust.specs.declared.refusal.Refusal.{Refusal}
use Rattle.protocol.specs.Fresh.{fresh_slot}
use Rattle.protocol.specs.declared.message.Place.{Place}
use Rattle.protocol.specs.declared.slot.Slot.{Slot}
use Rattle.runs.specs.declared.call.Call.{Call}
use Rattle.runs.specs.declared.call.Call.TheVariants.{Propose, Forge, Hand}
use Rattle.runs.specs.Values.{Values}
use Rattle.runs.specs.Calls.{World, State, no_slot, slot_at, entered, with_proposal, answer, Answer}
use Rattle.runs.specs.Readings.{meant_at}
use Rattle.runs.specs.Promise.{History, CameAbout, opened, called, offered}
use Rattle.runs.specs.Laws.{proposed_by, proposed_in, as_list, ProposalLaw, PlaceLaw}
use Rattle.runs.proofs.Moves.{Moves, refuses, repeats, offers, ignores, forges, hands, answered, known, placed}
use Rattle.runs.proofs.Boards.{entered_board}
use Rattle.runs.proofs.Rows.{Grows, grows, grows_keeps, entered_means}
use Rattle.runs.proofs.Standing.{Each, replicate_each}
use Rattle.runs.proofs.Invariants.{Opens, opens, Stored, Reached, reached, within}
use Rattle.runs.proofs.LawsSteps.{on_slot}

refused_proposes : {V : Type 0} (values : Values V) (s : ℕ) (c : Call V) (n : Refusal) → proposed_by values s c (Err n) ≡ []
refused_proposes values s (Propose t v) n = refl
refused_proposes values s (Forge m t i k v) n = refl
refused_proposes values s (Hand m t i k) n = refl

module _ {V : Type 0} (values : Values V) (w : World) (o : Opens w) (h : History V) (x : State V) (r : Reached values w h x) where
  abbrev old : ℕ → Slot
  old s = slot_at x.board s

  -- what was offered means the same in a longer row
  offered_kept : {n : ℕ} {row : List V} → Grows values x n row → (s : ℕ) → offered values x s ≡ meant_at values row (old s).proposal
  offered_kept {n} {row} g s = go (old s).proposal (r.stored s).proposal
    where
      go : (q : Option Place) → Each (Stored values x.row) q → meant_at values x.row q ≡ meant_at values row q
      go None each = refl
      go (Some p) each = let (m, means, _) = each p refl in means ∙ sym (grows_keeps values g p m means)

  -- a call that leaves the proposals
  other_call : (b : List Slot) {n : ℕ} {row : List V} → Grows values x n row → (s : ℕ) → (slot_at b s).proposal ≡ (old s).proposal
      → as_list (offered values x s) ≡ as_list (meant_at values row (slot_at b s).proposal)
  other_call b {n} {row} g s same = ap as_list (offered_kept g s ∙ ap (meant_at values row) (sym same))

  proposal_step : (s : ℕ) {c : Call V} {a : Answer} {y : State V} → Moves values w x c a y → (proposed_by values s c a ++ as_list (offered values x s)) ≡ as_list (offered values y s)
  proposal_step s (refuses c n) = ap (λ l. l ++ as_list (offered values x s)) (refused_proposes values s c n)
  proposal_step s (repeats t v p _ _ _ _ _) = refl
  proposal_step s (ignores n t i k v _ _ _ _) = refl
  proposal_step s (offers t v in_slots ok fit free) =
      let b = with_proposal x.board t (placed values x v) in
      let row = (entered x v (known values x v) b).row in
      let g = grows values w x (offers t v in_slots ok fit free) in
      on_slot (λ q z. (cond (eqb t q) (values.meaning v ∷ []) [] ++ as_list (offered values x q)) ≡ as_list (meant_at values row z.proposal)) x.board t s _ (within values w o h x r t in_slots)
      (ap₂ (λ e p. cond e (values.meaning v ∷ []) [] ++ as_list (meant_at values x.row p)) (eq-eqb t t refl) free ∙ ap as_list (sym (entered_means values x v b r.rowed)))
      (λ ne. ap (λ e. cond e (values.meaning v ∷ []) [] ++ as_list (offered values x s)) (ne_eqb t s ne) ∙ ap as_list (offered_kept g s))
      ∙ ap (λ z. as_list (meant_at values row (slot_at z s).proposal)) (sym (entered_board x v (known values x v) b))
  proposal_step s {c} {a} {y} (forges n t i k v named parties fit heeded) =
      other_call y.board (grows values w x (forges n t i k v named parties fit heeded)) s
      (ap (λ z. (slot_at z s).proposal) (entered_board x v (known values x v) _) ∙ on_slot (λ q z. z.proposal ≡ (old q).proposal) x.board t s _ (within values w o h x r t named.1) refl (λ _. refl))
  proposal_step s {c} {a} {y} (hands n t i k p named e) =
      other_call y.board (grows values w x (hands n t i k p named e)) s
      (on_slot (λ q z. z.proposal ≡ (old q).proposal) x.board t s _ (within values w o h x r t named.1) refl (λ _. refl))

proposals : {V : Type 0} (values : Values V) (w : World) {h : History V} {x : State V} → CameAbout values w h x → (s : ℕ) → proposed_in values s h ≡ as_list (offered values x s)
unfolding proposed_in
proposals values w (opened places few e) s =
    sym (ap (λ q. as_list (meant_at values [] q)) (replicate_each (λ z. z.proposal ≡ None) 16 fresh_slot s no_slot refl refl))
proposals values w (called {h} {x} places c before) s =
    ap (λ l. proposed_by values s c (answer values w places x c).0 ++ l) (proposals values w before s)
    ∙ proposal_step values w (opens values w before) h x (reached values w before) s (answered values w x places c)

pub proposal_law : {V : Type 0} (values : Values V) → ProposalLaw values
proposal_law values w h x came = proposals values w came

pub place_law : {V : Type 0} (values : Values V) → PlaceLaw values
place_law values w h x came = let rowed = (reached values w came).rowed in (rowed.full, rowed.apart)
