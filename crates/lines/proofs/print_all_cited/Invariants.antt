-- The loop goes by an arc a turn.
use Rattle.text.specs.Texts.{texts}
use Rattle.text.specs.Page.{PrintedOn}
use Rattle.lines.specs.Rows.{cited_row}
use Rattle.lines.proofs.print_all_cited.Given as goal

abbrev pub invariant-loop-k : goal.invariant-loop-k
invariant-loop-k l = PrintedOn (texts l.k (cited_row l.arcs l.marks)) l.initial.page l.page
