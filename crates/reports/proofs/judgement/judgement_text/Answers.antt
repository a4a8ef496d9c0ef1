use Rattle.std.proofs.Common.{◌≡◌, ℕ, List, [], ◌∷◌, codes, string_bytes, refl, ap, ◌∙◌, ap₂, subst}
use Rattle.std.specs.Prelude.{Some, None, Option, IfOk, IfSome, decimal}
use Rattle.std.specs.Fmt.{◌++?◌}
use Rattle.std.proofs.lemmas.Result.{IfOk-weaker}
use Rattle.sets.specs.declared.Node.{Node}
use Rattle.reports.specs.Judgements.{verdict_words, pair_bytes, node_bytes, yes_bytes, judgement_bytes}
use Rattle.reports.proofs.judgement.judgement_text.Goals as goal

-- the four lines, of three verdicts and an answer
abbrev lines : Option (List ℕ) → Option (List ℕ) → Option (List ℕ) → List ℕ → Option (List ℕ)
lines b3 consistency availability answer =
    Some (codes "B3: ") ++? (b3 ++? (Some (10 ∷ codes "consistency: ") ++? (consistency ++? (Some (10 ∷ codes "availability: ")
    ++? (availability ++? (Some (10 ∷ codes "sound: ") ++? (Some answer ++? Some (10 ∷ []))))))))

node_words : (v : Option Node) → verdict_words (λ (node : Node). Some (decimal node.0)) v ≡ Some (node_bytes v)
node_words None = refl
node_words (Some i) = refl

pub returns : goal.returns
unfolding judgement_bytes
returns c =
    let j = c.judge-judgement.result in
    let nodes = verdict_words (λ (node : Node). Some (decimal node.0)) j.availability in
    let words = ap₂ (λ b3 consistency. lines b3 consistency nodes c.yes_or_no-sound.result.now) c.pairs-b3.ensures c.pairs-consistency.ensures
    ∙ ap₂ (λ availability answer. lines (Some (pair_bytes j.b3)) (Some (pair_bytes j.consistency)) availability answer) (node_words j.availability) (c.yes_or_no-sound.ensures ∙ ap yes_bytes c.sound.ensures) in
    IfOk-weaker c.format.result _ _ (λ out is. (j, c.judge-judgement.ensures, is))
    (subst (λ (o : Option (List ℕ)). IfOk c.format.result (λ out. IfSome o (λ bs. string_bytes out ≡ bs))) words c.format.ensures.ok)
