-- A word, then fields, then a line feed.
use Rattle.text.proofs.Printing.{then_printed_on}
use Rattle.text.proofs.Page.print_line.Goals as goal

pub returns : goal.returns
returns c = then_printed_on (then_printed_on c.print_word.ensures c.print_fields.ensures) c.print_word-2.ensures
