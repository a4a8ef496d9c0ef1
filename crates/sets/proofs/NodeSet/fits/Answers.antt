use Rattle.std.proofs.Common.{◌≡◌, ◌^◌, ltb, leb, sym, ap, ◌∙◌, arith, pow_mono}
use Rattle.std.proofs.lemmas.Nat.{one_shl}
use Rattle.std.proofs.lemmas.Bool.{lt-ltb, le-leb}
use Rattle.std.proofs.lemmas.Bool.Decides.{Decides-at}
use Rattle.sets.specs.Sets.{set?}
use Rattle.sets.proofs.Members.{set_is}
use Rattle.sets.proofs.NodeSet.fits.Goals as goal

pub returns-then-n-ge16 : goal.returns-then-n-ge16
returns-then-n-ge16 c =
    let n = c.args.n in
    let s = c.args.self.0 in
    let e : leb 16 n ≡ set? n s = le-leb 16 n (omega arith) ∙ sym (lt-ltb s (2 ^ n) (omega (arith, pow_mono c.if-n-ge16.true))) in
    record { value = e; members = Decides-at _ _ e (set_is 16 n s (omega arith)) }

pub returns-else-n-ge16 : goal.returns-else-n-ge16
returns-else-n-ge16 c =
    let n = c.args.n in
    let s = c.args.self.0 in
    let e = ap (ltb s) (one_shl n 32 (omega arith)) in
    record { value = e; members = Decides-at _ _ e (set_is 16 n s (omega arith)) }
