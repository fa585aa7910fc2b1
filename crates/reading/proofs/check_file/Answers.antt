-- The blocks come first, then the plan that the file holds.
use mathlib.Core.Path.{refl, sym}
use mathlib.Core.Bool.{false}
use Rattle.std.proofs.Common.{rules}
use Rattle.std.proofs.lemmas.Result.{err_from_is_err_and}
use Rattle.format.specs.Format.{first_edition}
use Rattle.blocks.specs.Sound.{Sound}
use Rattle.blocks.proofs.Accepted.{sound_accepted}
use Rattle.blocks.proofs.Order.{blocks_turn_down, limits_decide}
use Rattle.reading.proofs.check_file.Goals as goal

pub returns-in_err-held : goal.returns-in_err-held
returns-in_err-held c =
    let e = err_from_is_err_and c.from_residual.result c.from_residual.ensures.1 in
    rw (e.1, e.2) (sym (blocks_turn_down first_edition c.args.file.now false refl (search rules)))

pub returns : goal.returns
returns c =
    let sound : Sound first_edition c.args.file.now = search rules in
    sym (limits_decide first_edition c.args.file.now false refl (sound_accepted first_edition c.args.file.now sound) refl c.check_held.ensures)
