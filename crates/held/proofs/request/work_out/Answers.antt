-- A new desk holds zeros. Where there is no flow, asking tells how much lacks.
use mathlib.Core.Path.{refl}
use Rattle.std.proofs.lemmas.Result.{err_from_is_err_and}
use Rattle.stand.proofs.Desks.{new_desk}
use Rattle.held.proofs.request.work_out.Goals as goal

pub ask-requires : goal.ask-requires
ask-requires c = new_desk c.requires.plan

pub returns-in_err-ask : goal.returns-in_err-ask
returns-in_err-ask c =
    let e = err_from_is_err_and c.from_residual.result c.from_residual.ensures.1 in
    rw (e.1, e.2) ((_, c.in_err-ask.ensures.asked.lacks _ refl), refl)
