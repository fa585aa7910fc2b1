-- Blocks that are accepted are sound, so that there is a head to read the counts in.
use mathlib.Core.Path.{sym, ◌∙◌}
use native.Mathlib.Omega.{arith}
use Rattle.std.proofs.lemmas.Result.{err_from_is_err_and}
use Rattle.format.specs.Format.{first_edition}
use Rattle.blocks.proofs.Accepted.{blocks_accepted}
use Rattle.reading.proofs.sound_size.Goals as goal

pub returns-in_err-check_blocks : goal.returns-in_err-check_blocks
returns-in_err-check_blocks c =
    let e = err_from_is_err_and c.from_residual.result c.from_residual.ensures.1 in
    rw (e.1, e.2) (sym c.check_blocks.ensures ∙ c.in_err-check_blocks.was)

pub two-requires : goal.two-requires
two-requires c =
    let sound = blocks_accepted first_edition c.args.file.now (sym c.check_blocks.ensures ∙ c.in_ok-check_blocks.was) in
    omega (arith, sound.shape.some_byte, sound.shape.whole_blocks)

pub two-requires-2 : goal.two-requires-2
two-requires-2 c =
    let sound = blocks_accepted first_edition c.args.file.now (sym c.check_blocks.ensures ∙ c.in_ok-check_blocks.was) in
    omega (arith, sound.shape.some_byte, sound.shape.whole_blocks)

pub returns : goal.returns
returns c = (blocks_accepted first_edition c.args.file.now (sym c.check_blocks.ensures ∙ c.in_ok-check_blocks.was), c.two.ensures.0, c.two-2.ensures.0)
