-- Correct nodes, and what is known where a message waits. Assumes nothing.
use Rattle.std.proofs.Common.{◌≡◌, ℕ, ◌≤◌, Bool, true, false, cond, not, ◌&&◌, eqb, Some, None, Option, refl}
use Rattle.std.proofs.lemmas.Bool.{and_parts, both_ways, not-true}
use Rattle.sets.specs.Sets.{node?, has}
use Rattle.protocol.specs.Hearing.{absent, taken, may_say, heeds}
use Rattle.protocol.specs.declared.message.Place.{Place}
use Rattle.protocol.specs.declared.message.Kind.{Kind}
use Rattle.protocol.specs.declared.message.Kind.TheVariants.{Send, Echo, Ready}
use Rattle.protocol.specs.declared.slot.Slot.{Slot}
use Rattle.broadcast.specs.Slots.{Setting, correct?, faulty?, record_at, said, waiting}
use Rattle.broadcast.proofs.Places.{none_not_some}
use Rattle.broadcast.proofs.Entries.{node_bounds}
use Rattle.broadcast.proofs.Hearing.{heeds_from}

pub correct_node : (w : Setting) (i : ℕ) → correct? w i ≡ true → node? w.trust.size i ≡ true
correct_node w i e = (and_parts (node? w.trust.size i) (not (has w.faulty i)) e).0

pub correct_bounds : (w : Setting) (i : ℕ) → correct? w i ≡ true → (1 ≤ i) × (i ≤ w.trust.size)
correct_bounds w i e = node_bounds w.trust.size i (correct_node w i e)

pub faulty_not_correct : (w : Setting) (i : ℕ) → faulty? w i ≡ true → correct? w i ≡ true → ⊥
faulty_not_correct w i a b =
    both_ways (has w.faulty i) (not-true _ (and_parts (node? w.trust.size i) _ b).1) (and_parts (node? w.trust.size i) _ a).1

module _ (w : Setting) (s : Slot) (m : Kind) (i k : ℕ) (v : Place) (waits : waiting w s m i k ≡ Some v) where
  pub waiting_parts : (correct? w i ≡ true) × (correct? w k ≡ true) × (taken w.sender (record_at s k) m i ≡ None) × (said w s m i ≡ Some v)
  waiting_parts = go (correct? w i) (correct? w k) (taken w.sender (record_at s k) m i) waits
    where
      go : (a b : Bool) (o : Option Place) → cond (a && b && absent o) (said w s m i) None ≡ Some v → (a ≡ true) × (b ≡ true) × (o ≡ None) × (said w s m i ≡ Some v)
      go true true None e = (refl, refl, refl, e)
      go true true (Some u) e = absurd (none_not_some e)
      go true false o e = absurd (none_not_some e)
      go false b o e = absurd (none_not_some e)

  -- the node that it waits for does not ignore it
  pub waiting_heeded : heeds w.trust.size w.sender (record_at s k) m i ≡ true
  waiting_heeded =
      let (i_correct, _, free, says) = waiting_parts in
      heeds_from w.trust.size w.sender i (record_at s k) m (correct_node w i i_correct) (may m says) free
    where
      only : (b : Bool) → cond b s.proposal None ≡ Some v → b ≡ true
      only true e = refl
      only false e = absurd (none_not_some e)

      may : (n : Kind) → said w s n i ≡ Some v → may_say w.sender n i ≡ true
      may Send e = only (eqb i w.sender) e
      may Echo e = refl
      may Ready e = refl
