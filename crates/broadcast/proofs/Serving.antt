-- A sound trust gives the argument what it assumes, of the wise nodes and the maximal guild. Assumes nothing.
use Rattle.std.proofs.Common.{◌≡◌, ℕ, ◌^◌, ◌<◌, true, not}
use Rattle.std.proofs.lemmas.Bool.{and_from, not_from_false}
use Rattle.sets.specs.Sets.{node?, has}
use Rattle.trust.specs.Trust.{sound}
use Rattle.trust.specs.Sorting.{wise_mask, max_guild}
use Rattle.trust.specs.Serving.{Correct}
use Rattle.trust.proofs.Serving.{sound_serves}
use Rattle.broadcast.specs.Slots.{Setting, correct?}
use Rattle.broadcast.specs.Claims.{Assumed}
use Rattle.broadcast.specs.Theorems.{GuildIsServed}
use Rattle.broadcast.proofs.Argument.{slot_is_reliable}

module _ (w : Setting) where
  correct_from : (i : ℕ) → Correct w.trust w.faulty i → correct? w i ≡ true
  correct_from i (node, out) = and_from (node? w.trust.size i) (not (has w.faulty i)) node (not_from_false (has w.faulty i) out)

  pub sound_assumed : sound w.trust ≡ true → w.faulty < 2 ^ w.trust.size → Assumed w (wise_mask w.trust w.faulty) (max_guild w.trust w.faulty)
  sound_assumed is_sound low =
      let sides = sound_serves w.trust w.faulty is_sound low in
      record {
        safe_correct = λ i wise. correct_from i (sides.wise_correct i wise).0;
        shared = λ i j a b i_wise j_wise h e. let (c, ok, in_a, in_b) = sides.shared i j a b i_wise j_wise h e in (c, correct_from c ok, in_a, in_b);
        live_safe = sides.guild_wise;
        live_quorum = sides.guild_quorum;
      }

pub guild_is_served : GuildIsServed
guild_is_served w few is_sound low = slot_is_reliable w _ _ few (sound_assumed w is_sound low)
