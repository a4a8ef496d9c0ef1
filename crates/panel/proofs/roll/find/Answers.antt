use Rattle.std.proofs.Common.{◌≡◌, ap, ◌∙◌, rules}
use Rattle.std.specs.Option.{option_map}
use Rattle.std.proofs.lemmas.Iterator.{YieldsList-from_slice}
use Rattle.std.proofs.lemmas.Iterator.Adapters.{position_from-zero}
use Rattle.std.proofs.lemmas.Iterator.Search.{position_from_yields_List}
use Rattle.panel.proofs.Finding.{same_as, place_at, known_is_position}
use Rattle.panel.proofs.roll.find.Goals as goal

pub returns : goal.returns
returns g c =
    let values = g.V.ValueKind.values in
    let v = c.args.value.now in
    let row = c.args.row.now in
    let found = position_from_yields_List (same_as values v) _ _ c.position.result c.position.ensures.ran (YieldsList-from_slice row cc) (λ u b q k. search rules) in
    let there : c.map.result ≡ option_map (place_at values v) c.position.result = search rules in
    there ∙ ap (option_map (place_at values v)) (found ∙ position_from-zero (same_as values v) row) ∙ known_is_position values v 0 row
