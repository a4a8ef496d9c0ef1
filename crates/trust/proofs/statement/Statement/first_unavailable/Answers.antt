use Rattle.std.proofs.Common.{◌≡◌, ℕ, suc, ◌<◌, true, false, get_or, sym, ap, ◌∙◌, rules}
use Rattle.std.proofs.lemmas.Iterator.{YieldsList-from_slice, IsFirst-from_position}
use Rattle.std.proofs.lemmas.List.{get_or-take}
use borrow.Author.Tests.{tests}
use Rattle.trust.specs.declared.node_trust.NodeTrust.{NodeTrust}
use Rattle.trust.specs.NodeTrusts.{nothing}
use Rattle.trust.specs.ByLists.{misses?}
use Rattle.trust.specs.Statements.{meant}
use Rattle.trust.specs.Trust.{available}
use Rattle.trust.proofs.Firsts.{place_says, only_node}
use Rattle.trust.proofs.Meanings.{available_is}
use Rattle.trust.proofs.statement.Statement.first_unavailable.Goals as goal

pub returns : goal.returns
returns c =
    let x = c.args.self.now in
    let ts = c.stated.result.now in
    let q : NodeTrust → _ = λ t. misses? t.fails t.quorums in
    let same : (k : ℕ) → k < x.nodes → available (meant x) (suc k) ≡ q (get_or ts k nothing) = λ k l. available_is x k l ∙ ap q (sym (ap (λ l. get_or l k nothing) c.stated.ensures.list ∙ get_or-take x.nodes x.trust k nothing l)) in
    let says = place_says ts nothing q x.nodes (available (meant x)) c.stated.ensures.all same c.position.result
    (IsFirst-from_position _ _ c.position.result (λ t. q t ≡ false) (λ t. q t ≡ true) c.position.ensures.ran (YieldsList-from_slice ts cc) (λ x q k. search (rules, tests)) (λ x q k. search (rules, tests))) in
    (search rules) ∙ only_node x.nodes (available (meant x)) _ says
