-- The loop goes by a node a turn.
use Rattle.text.specs.Texts.{texts}
use Rattle.text.specs.Page.{PrintedOn}
use Rattle.lines.specs.Lines.{member}
use Rattle.lines.specs.Rows.{marked}
use Rattle.lines.proofs.print_set.Given as goal

abbrev pub invariant-loop-v : goal.invariant-loop-v
invariant-loop-v l = PrintedOn (texts l.v (member (marked l.marks))) l.initial.page l.page
