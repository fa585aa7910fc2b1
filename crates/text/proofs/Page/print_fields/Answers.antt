-- The loop prints one field a turn.
use Rattle.text.proofs.Printing.{then_printed_on, first_printable, then_printable, none_printed, next_printable, next_printed_on}
use Rattle.text.proofs.Page.print_fields.Goals as goal

pub loop-x-init : goal.loop-x-init
loop-x-init c = none_printed _

pub print_word-requires : goal.print_word-requires
print_word-requires c = first_printable _ (next_printable _ _ c.requires c.loop-x-test.true c.loop-x.invariant)

pub print_number-requires : goal.print_number-requires
print_number-requires c = then_printable (next_printable _ _ c.requires c.loop-x-test.true c.loop-x.invariant) c.print_word.ensures

pub loop-x-preserved : goal.loop-x-preserved
loop-x-preserved c = next_printed_on _ c.loop-x.invariant (then_printed_on c.print_word.ensures c.print_number.ensures)
