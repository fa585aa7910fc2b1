-- Each list of rules that turns nothing down gives way to the next; then the plan of the file stands in the lent lists.
use mathlib.Core.Path.{refl, sym, ◌∙◌}
use native.Mathlib.Omega.{arith}
use Rattle.std.proofs.lemmas.Result.{err_from_is_err_and}
use Rattle.plan.specs.Verdict.{lists_short}
use Rattle.plan.proofs.Checked.{lists_told}
use Rattle.format.specs.Format.{first_edition}
use Rattle.format.specs.Held.{held}
use Rattle.blocks.proofs.Accepted.{sound_accepted, sound_long}
use Rattle.blocks.proofs.Order.{blocks_turn_down, buffers_turn_down, limits_decide}
use Rattle.reading.proofs.read.Goals as goal

pub returns-in_err-size : goal.returns-in_err-size
returns-in_err-size c =
    let a = c.args in
    let e = err_from_is_err_and c.from_residual.result c.from_residual.ensures.1 in
    rw (e.1, e.2) (record { says = (blocks_turn_down first_edition a.file.now (lists_short (held first_edition a.file.now) a.supplies.now a.arcs.now) refl c.in_err-size.ensures, refl, refl) })

pub returns-then-too_short : goal.returns-then-too_short
returns-then-too_short c =
    let a = c.args in
    let p = held first_edition a.file.now in
    let (sound, nodes, arcs) = c.in_ok-size.ensures in
    let lent = lists_told p a.supplies.now a.arcs.now nodes arcs c.too_short.ensures ∙ c.if-too_short.true in
    rw c.whole.ensures (record { says = (buffers_turn_down first_edition a.file.now (lists_short p a.supplies.now a.arcs.now) refl (sound_accepted first_edition a.file.now sound) lent, refl, refl) })

pub returns-in_err-check_held : goal.returns-in_err-check_held
returns-in_err-check_held c =
    let a = c.args in
    let p = held first_edition a.file.now in
    let (sound, nodes, arcs) = c.in_ok-size.ensures in
    let lent = lists_told p a.supplies.now a.arcs.now nodes arcs c.too_short.ensures ∙ c.if-too_short.false in
    let e = err_from_is_err_and c.from_residual-in_err-check_held.result c.from_residual-in_err-check_held.ensures.1 in
    rw (e.1, e.2) (record { says = (limits_decide first_edition a.file.now (lists_short p a.supplies.now a.arcs.now) refl (sound_accepted first_edition a.file.now sound) lent (sym c.in_err-check_held.was ∙ c.check_held.ensures), refl, refl) })

pub fill_arcs-requires-clause-file : goal.fill_arcs-requires-clause-file
fill_arcs-requires-clause-file c =
    let (sound, nodes, arcs) = c.in_ok-size.ensures in
    (omega (arith, sound.counts.arcs_fit, arcs), omega (arith, sound_long first_edition c.args.file.now sound, arcs))

pub returns : goal.returns
returns c =
    let a = c.args in
    let p = held first_edition a.file.now in
    let (sound, nodes, arcs) = c.in_ok-size.ensures in
    let lent = lists_told p a.supplies.now a.arcs.now nodes arcs c.too_short.ensures ∙ c.if-too_short.false in
    record {
      says = (
        limits_decide first_edition a.file.now (lists_short p a.supplies.now a.arcs.now) refl (sound_accepted first_edition a.file.now sound) lent (sym c.in_ok-check_held.was ∙ c.check_held.ensures),
        nodes,
        arcs,
        c.fill_supplies.ensures,
        c.fill_arcs.ensures,
      );
    }
