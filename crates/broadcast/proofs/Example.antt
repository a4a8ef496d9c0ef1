-- Four nodes, of which each trusts any three and tolerates the loss of any one. Node 4 is faulty. Assumes nothing.
use Rattle.std.proofs.Common.{◌≡◌, ℕ, true, List, [], ◌∷◌, refl, ap, arith}
use Rattle.sets.specs.Sets.{inside, any_below, all_below, nodes_with}
use Rattle.sets.specs.Lists.{any_of, listed?}
use Rattle.trust.specs.Trust.{Trust, holds_quorum, holds_kernel, tolerates, consistent, available, sound}
use Rattle.trust.specs.Sorting.{guild?, union_below}
use Rattle.protocol.specs.Fresh.{fresh_slot}
use Rattle.protocol.specs.declared.message.Place.{Place}
use Rattle.protocol.specs.declared.message.Kind.{Kind}
use Rattle.protocol.specs.declared.message.Kind.TheVariants.{Send, Echo, Ready}
use Rattle.broadcast.specs.Slots.{Setting}
use Rattle.broadcast.specs.Events.{Event, propose, forge, hand, run}
use Rattle.broadcast.specs.Counts.{sum, waiting_count}
use Rattle.broadcast.specs.Theorems.{Delivery}
use Rattle.broadcast.proofs.Counting.{quiet_if_none_wait}

abbrev four : Trust
four = record {
  size = 4;
  quorum = λ _ q. listed? (7 ∷ 11 ∷ 13 ∷ 14 ∷ []) q;
  tolerated = λ _ s. any_of (1 ∷ 2 ∷ 4 ∷ 8 ∷ []) (λ x. inside s x);
}

abbrev w : Setting
w = record { trust = four; faulty = 8; sender = 1 }

-- each of the three correct nodes hands a message over to each
abbrev round : Kind → List Event → List Event
round m es =
    hand m 1 1 ∷ hand m 1 2 ∷ hand m 1 3 ∷ hand m 2 1 ∷ hand m 2 2 ∷ hand m 2 3 ∷ hand m 3 1 ∷ hand m 3 2 ∷ hand m 3 3 ∷ es

abbrev place : ℕ → Place
place n = record { 0 = n }

abbrev events : List Event
events = propose (place 0) ∷ forge Echo 4 1 (place 1) ∷ forge Ready 4 2 (place 1) ∷ round Send (round Echo (round Ready []))

is_sound : sound four ≡ true
unfolding sound consistent available any_below all_below
is_sound = refl

nothing_waits : waiting_count w (run w fresh_slot events) ≡ 0
unfolding holds_quorum holds_kernel any_below all_below nodes_with sum
nothing_waits = refl

pub delivery : Delivery
unfolding holds_quorum holds_kernel tolerates any_below all_below nodes_with guild? union_below
delivery = record {
  setting = w;
  few = omega arith;
  is_sound = is_sound;
  in_range = omega arith;
  is_faulty = refl;
  events = events;
  value = place 0;
  other = place 1;
  apart = λ e. let z : ◌≡◌ {A = ℕ} 0 1 = ap (λ p. p.0) e in omega arith;
  lied = refl;
  quiet = quiet_if_none_wait w (run w fresh_slot events) nothing_waits;
  node = 3;
  in_guild = refl;
  delivered = refl;
}
