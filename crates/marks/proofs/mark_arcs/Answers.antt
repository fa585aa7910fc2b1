-- An arc past the last is left out: before it the marks of a low end are those of a "no".
use native.Mathlib.Omega.{arith}
use Rattle.words.specs.Word.{holds}
use Rattle.plan.specs.Plan.{meant}
use Rattle.lists.proofs.Writing.{written_alike}
use Rattle.marks.proofs.Marking.{low_marks_before}
use Rattle.marks.proofs.mark_arcs.Goals as goal

pub returns : goal.returns
returns c =
    written_alike (λ j l. low_marks_before (meant c.args.network) (holds c.args.set) _ j (omega (arith, l, c.size-no_arc.ensures.1))) c.mark_arcs_for.ensures
