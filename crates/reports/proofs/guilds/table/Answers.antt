use Rattle.std.proofs.Common.{◌≡◌, ◌<◌, ◌+◌, ◌*◌, ◌^◌, ap, ◌∙◌, arith}
use lib.Pow.{pow-lt}
use Rattle.std.proofs.lemmas.Bool.{lt-ltb}
use Rattle.std.proofs.lemmas.Nat.{pow_pos}
use Rattle.sets.specs.Sets.{set?}
use Rattle.sets.proofs.Members.{with_next}
use Rattle.reports.proofs.guilds.table.Goals as goal

pub add_row-requires-in-loop-k : goal.add_row-requires-in-loop-k
add_row-requires-in-loop-k g c =
    let n = (g.R.TrustRule.meaning c.args.rule.now).size in
    let k = c.loop-k.k in
    let low : k < 16 = omega (arith, c.size-k-end.ensures, (g.met.R.TrustRule.sized c.args.rule.now).1) in
    let alone : 0 + 1 * 2 ^ k ≡ 2 ^ k = omega arith in
    ap (set? n) (c.with.ensures.value ∙ with_next 0 k low (pow_pos k) ∙ alone) ∙ lt-ltb (2 ^ k) (2 ^ n) (pow-lt (omega (arith, c.size-k-end.ensures)))
