use Rattle.std.proofs.Common.{ℕ, List, [], ◌^◌, ◌-◌, false, ap, ◌∙◌, subst, arith}
use Rattle.std.specs.Prelude.{Some, Option}
use Rattle.std.specs.Option.{option_map}
use Rattle.std.specs.Fmt.{DisplaysOnOk, styled_digits_output, padded_integral, format_spec}
use Rattle.reports.proofs.Hex.{hex_mask}
use Rattle.reports.proofs.written.MaskDisplay.fmt.Goals as goal

pub returns-clause-writes : goal.returns-clause-writes
returns-clause-writes g c = λ plain ok.
    let m = c.args.self.now.0.0 in
    let shown = ap (λ s. styled_digits_output c.in_radix.result s) c.laid_out.ensures ∙ ap (option_map (padded_integral (format_spec 32 0 4 4 (2 ^ 64 - 1)) false [])) c.in_radix.ensures ∙ ap Some (hex_mask m (omega arith)) in
    subst (λ (o : Option (List ℕ)). DisplaysOnOk {W = g.row.W.Denot} g.W.Write.write_str_gives c.args.f.now c.write.result o c.write.new.self)
    shown c.write.ensures.writes plain ok
