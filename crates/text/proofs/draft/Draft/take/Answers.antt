use Rattle.std.proofs.Common.{◌≡◌, Some, sym, ap, ◌∙◌, rules}
use Rattle.std.specs.Result.{result_ok}
use Rattle.text.proofs.Keeping.{misplaced_is, line_comes_to, taken_err, taken_by}
use Rattle.text.proofs.draft.Draft.take.Goals as goal

pub returns-in_err-check : goal.returns-in_err-check
returns-in_err-check c = λ before kept.
    let d = c.args.self.now in
    let r = c.in_ok-next.next in
    let e = c.in_err-check.field-0.0 in
    let is : Some r ≡ _ = sym (c.ok_or.ensures.ok_part ∙ ap result_ok c.in_ok-next.was) ∙ c.read_record.ensures in
    let says = line_comes_to before c.args.line.bytes.now c.args.line.ended r (Some e) c.if-not-line.false is (misplaced_is d before kept r e (sym c.check.ensures ∙ c.in_err-check.was)) in
    taken_err before (record { bytes = c.args.line.bytes.now; ended = c.args.line.ended }) d c.from_residual-in_err-check.result e (search rules) says kept

pub returns : goal.returns
returns c = λ before kept.
    let r = c.in_ok-next.next in
    let is : Some r ≡ _ = sym (c.ok_or.ensures.ok_part ∙ ap result_ok c.in_ok-next.was) ∙ c.read_record.ensures in
    taken_by c.args.self.now c.note.new.self before r c.args.line.bytes.now c.args.line.ended kept c.if-not-line.false is (sym c.check.ensures ∙ c.in_ok-check.was)
    c.note.result c.note.ensures.room c.note.ensures.noted c.note.ensures.full
