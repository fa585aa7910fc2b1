-- A new desk holds zeros.
use mathlib.Core.Path.{◌≡◌, refl}
use borrow.Author.Rules.{rules}
use Rattle.std.specs.Prelude.{Err}
use Rattle.stand.proofs.Desks.{new_desk}
use Rattle.reason.proofs.request.work_out.Goals as goal

pub ask-asked-requires : goal.ask-asked-requires
ask-asked-requires c = new_desk c.requires.plan

pub returns-in_default : goal.returns-in_default
returns-in_default c =
    let e : c.map.result ≡ Err c.in_default.field-0 = search rules in
    rw e ((_, c.ask-asked.ensures.asked.lacks _ c.in_default.is), refl, refl)
