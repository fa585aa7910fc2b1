-- The length first; then each rule that concerns no block gives way to the next.
use mathlib.Core.Path.{sym, ◌∙◌}
use borrow.Author.Rules.{rules}
use Rattle.std.proofs.lemmas.Result.{err_from_is_err_and}
use Rattle.format.specs.Format.{first_edition}
use Rattle.blocks.specs.Rules.{check_wrong, label_wrong}
use Rattle.blocks.proofs.Order.{check_refused, labels_decide}
use Rattle.blocks.proofs.check_shape.Goals as goal

pub returns-in_err-refuse : goal.returns-in_err-refuse
returns-in_err-refuse c =
    let file = c.args.file.now in
    let e = err_from_is_err_and c.from_residual.result c.from_residual.ensures.1 in
    rw (e.1, e.2) (check_refused first_edition file (sym c.if-length_wrong.ensures) (c.in_err-refuse.ensures (check_wrong file) (λ b told l h. search rules)))

pub returns : goal.returns
returns c =
    let file = c.args.file.now in
    c.refuse-2.ensures (label_wrong first_edition file) (λ b told l h. search rules)
    ∙ labels_decide first_edition file (sym c.if-length_wrong.ensures) c.in_ok-refuse.field-0 (c.in_ok-refuse.ensures (check_wrong file) (λ b told l h. search rules))
