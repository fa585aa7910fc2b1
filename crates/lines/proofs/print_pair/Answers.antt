-- A word and a field, then a line of the other two.
use Rattle.text.proofs.Printing.{then_printed_on}
use Rattle.lines.proofs.print_pair.Goals as goal

pub returns : goal.returns
returns c = then_printed_on (then_printed_on c.print_word.ensures c.print_fields.ensures) c.print_line.ensures
