use Rattle.std.proofs.Common.{◌-◌, true, ◌&&◌, ltb, refl, ap, ◌∙◌, arith}
use lib.Count.{ones, ones_in}
use Rattle.sets.specs.Sets.{any_below, all_below, nodes_with}
use Rattle.sets.specs.Lists.{any_of, all_of}
use Rattle.trust.specs.Trust.{holds_quorum, tolerates}
use Rattle.trust.specs.Sorting.{guild?, union_below}
use Rattle.trust.specs.Judging.{b3, first_node, first_pair}
use Rattle.trust.specs.ThresholdQuestions.{holds_kernel_is}
use Rattle.trust.proofs.ThresholdSoundness.{sound_is}
use Rattle.runs.specs.Readings.{count_below}
use Rattle.samples.specs.Samples.{Samples}
use Rattle.samples.proofs.sample_count.Goals as goal

table : Samples
unfolding any_below all_below nodes_with holds_quorum tolerates b3 guild? union_below first_node first_pair ones ones_in count_below
table = record {
  s1 = record { wise_is = refl; naive_is = refl; guild_is = refl };
  s2 = record { wise_is = refl; naive_is = refl; guild_is = refl };
  s3 = record { wise_is = refl; naive_is = refl; guild_is = refl };
  s4 = record { wise_is = refl; naive_is = refl; guild_is = refl };
  s5 = record { wise_is = refl; naive_is = refl; guild_is = refl };
  s6 = record { wise_is = refl; naive_is = refl; guild_is = refl };
  s7 = record { wise_is = refl; naive_is = refl; guild_is = refl };
  s8 = (sound_is 4 1 3 (omega arith), sound_is 3 1 2 (omega arith));
  s9 = λ i e. (
    holds_kernel_is 4 1 3 i 3 ∙ ap (λ b. (b && true) && ltb (4 - ones 3) 3) e,
    holds_kernel_is 4 1 3 i 1 ∙ ap (λ b. (b && true) && ltb (4 - ones 1) 3) e,
  );
  s10 = refl;
  s11 = (refl, refl, refl);
  s12 = refl;
}

pub returns : goal.returns
returns c = record { table = table; total = refl }
