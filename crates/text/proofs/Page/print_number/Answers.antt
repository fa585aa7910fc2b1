-- The kit's digits are as few as hold the number, and so its decimal.
use mathlib.Core.Path.{◌≡◌, ◌∙◌}
use lib.ListN.{take}
use Rattle.text.specs.Decimal.{decimal}
use Rattle.text.proofs.Decimals.{fewest_decimal}
use Rattle.text.proofs.Page.print_number.Goals as goal
use Rattle.text.proofs.Page.print_number.Goals.{After-decimal-count}

spelled : (c : After-decimal-count) → take c.decimal-count.result c.decimal-count.new.out ≡ decimal c.args.x
spelled c = c.decimal-count.ensures.digits ∙ fewest_decimal c.decimal-count.result c.args.x c.decimal-count.ensures.len

pub print_word-requires : goal.print_word-requires
print_word-requires c = rw (spelled (goal.at.print_word-requires c).After-decimal-count) c.requires

pub returns : goal.returns
returns c = rw (spelled (goal.at.returns c).After-decimal-count) at c.print_word.ensures
