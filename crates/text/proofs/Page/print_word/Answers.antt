-- The word takes the place of as many bytes.
use mathlib.Core.Path.{refl}
use Rattle.text.proofs.Printing.{part_printed}
use Rattle.text.proofs.Page.print_word.Goals as goal

pub returns : goal.returns
returns c = record { printed = part_printed c.requires c.copy_from_slice.ensures.after; same_loan = refl }
