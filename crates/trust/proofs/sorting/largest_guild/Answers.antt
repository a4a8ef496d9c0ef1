use Rattle.std.proofs.Common.{sym, ◌∙◌, subst, arith}
use Rattle.std.proofs.lemmas.Bool.Decides.{nat_tests}
use Rattle.sets.proofs.Sets.{inside_le}
use Rattle.trust.specs.Keeping.{keep}
use Rattle.trust.proofs.Guilds.{Narrows, keep_inside, narrows_wise, narrows_keep, largest_guild}
use Rattle.trust.proofs.sorting.largest_guild.Goals as goal

pub loop-guild-init : goal.loop-guild-init
loop-guild-init g c =
    let t = g.R.TrustRule.meaning c.args.rule.now in
    (c.kept-next.ensures, λ f e. subst (Narrows t f) (sym e) (narrows_wise t f))

pub loop-guild-smaller : goal.loop-guild-smaller
loop-guild-smaller g c =
    let t = g.R.TrustRule.meaning c.args.rule.now in
    let m = c.loop-guild.guild.0 in
    let le = inside_le (keep t m) m (keep_inside t m) in
    grind (arith, nat_tests, le, c.loop-guild.invariant.0, c.loop-guild-test.ensures)

pub loop-guild-preserved : goal.loop-guild-preserved
loop-guild-preserved g c =
    let t = g.R.TrustRule.meaning c.args.rule.now in
    let i = c.loop-guild.invariant in
    (c.kept-next-in-loop-guild.ensures, λ f e. subst (Narrows t f) (sym i.0) (narrows_keep t f c.loop-guild.guild.0 (i.1 f e)))

pub returns : goal.returns
returns g c =
    let t = g.R.TrustRule.meaning c.args.rule.now in
    let i = c.loop-guild.invariant in
    λ f e. largest_guild t f c.loop-guild.guild.0 (i.1 f e) (sym i.0 ∙ grind (arith, nat_tests, c.loop-guild-test.ensures))
