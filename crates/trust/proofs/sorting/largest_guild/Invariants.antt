use Rattle.std.proofs.Common.{◌≡◌, ℕ}
use Rattle.trust.specs.Keeping.{keep}
use Rattle.trust.specs.Sorting.{wise_mask}
use Rattle.trust.proofs.Guilds.{Narrows}
use Rattle.trust.proofs.sorting.largest_guild.Given as goal

abbrev pub invariant-loop-guild : goal.invariant-loop-guild
invariant-loop-guild g l =
    let t = g.R.TrustRule.meaning l.rule in
    (l.next.0 ≡ keep t l.guild.0) × ((f : ℕ) → l.initial.guild.0 ≡ wise_mask t f → Narrows t f l.guild.0)

abbrev pub decreases-loop-guild : goal.decreases-loop-guild
decreases-loop-guild g l = l.guild.0
