-- The loop prints one field a turn.
use lib.ListN.{get_or}
use Rattle.text.specs.Texts.{texts, field}
use Rattle.text.specs.Page.{PrintedOn}
use Rattle.text.proofs.Page.print_fields.Given as goal

abbrev pub invariant-loop-x : goal.invariant-loop-x
invariant-loop-x l = PrintedOn (texts l.x-index (λ k. field (get_or l.fn.numbers k 0))) l.initial.self l.self
