use Rattle.std.proofs.Common.{refl}
use Rattle.std.proofs.lemmas.Bool.{lt-ltb, le-ltb}
use Rattle.trust.specs.Guards.{then_guard, else_guard}
use Rattle.trust.proofs.ThresholdSoundness.{sound_is}
use Rattle.trust.proofs.threshold.ThresholdTrustRule.sound.Goals as goal

pub returns-then-self : goal.returns-then-self
returns-then-self c =
    let x = c.args.self.now in
    then_guard _ _ _ _ refl (lt-ltb _ _ c.if-self.true) (sound_is x.n x.f x.q x.ok.0)

pub returns-else-self : goal.returns-else-self
returns-else-self c =
    let x = c.args.self.now in
    else_guard _ _ _ _ refl (le-ltb _ _ c.if-self.false) (sound_is x.n x.f x.q x.ok.0)
