-- What one list of rules turns down comes before what the next one does.
use mathlib.Core.Path.{sym, ◌∙◌}
use native.Mathlib.Omega.{arith}
use Rattle.std.proofs.lemmas.Result.{err_from_is_err_and}
use Rattle.format.specs.Format.{first_edition}
use Rattle.format.specs.Held.{held}
use Rattle.blocks.proofs.Accepted.{shape_accepted, counts_accepted}
use Rattle.blocks.proofs.Order.{shape_turns_down, counts_turn_down, content_decides}
use Rattle.blocks.proofs.check_blocks.Goals as goal

pub returns-in_err-check_shape : goal.returns-in_err-check_shape
returns-in_err-check_shape c =
    let e = err_from_is_err_and c.from_residual.result c.from_residual.ensures.1 in
    rw (e.1, e.2) (shape_turns_down first_edition c.args.file.now c.check_shape.ensures c.in_err-check_shape.was)

pub two-nodes-requires : goal.two-nodes-requires
two-nodes-requires c =
    let shape = shape_accepted first_edition c.args.file.now (sym c.check_shape.ensures ∙ c.in_ok-check_shape.was) in
    omega (arith, shape.some_byte, shape.whole_blocks)

pub two-arcs-requires : goal.two-arcs-requires
two-arcs-requires c =
    let shape = shape_accepted first_edition c.args.file.now (sym c.check_shape.ensures ∙ c.in_ok-check_shape.was) in
    omega (arith, shape.some_byte, shape.whole_blocks)

pub returns-in_err-check_counts : goal.returns-in_err-check_counts
returns-in_err-check_counts c =
    let file = c.args.file.now in
    let e = err_from_is_err_and c.from_residual-in_err-check_counts.result c.from_residual-in_err-check_counts.ensures.1 in
    rw (e.1, e.2) (counts_turn_down first_edition file c.check_shape.ensures c.in_ok-check_shape.was
    (c.check_counts.ensures (held first_edition file) (sym c.two-nodes.ensures.0) (sym c.two-arcs.ensures.0)) c.in_err-check_counts.was)

pub check_content-requires : goal.check_content-requires
check_content-requires c =
    let file = c.args.file.now in
    let shape = shape_accepted first_edition file (sym c.check_shape.ensures ∙ c.in_ok-check_shape.was) in
    let counts = counts_accepted (held first_edition file)
    (sym (c.check_counts.ensures (held first_edition file) (sym c.two-nodes.ensures.0) (sym c.two-arcs.ensures.0)) ∙ c.in_ok-check_counts.was) in
    (omega (arith, shape.not_longer), omega (arith, counts.nodes_fit, c.two-nodes.ensures.0), omega (arith, counts.arcs_fit, c.two-arcs.ensures.0))

pub returns : goal.returns
returns c =
    let file = c.args.file.now in
    content_decides first_edition file c.check_shape.ensures c.in_ok-check_shape.was
    (c.check_counts.ensures (held first_edition file) (sym c.two-nodes.ensures.0) (sym c.two-arcs.ensures.0)) c.in_ok-check_counts.was
    (rw (c.two-nodes.ensures.0, c.two-arcs.ensures.0) at c.check_content.ensures)
