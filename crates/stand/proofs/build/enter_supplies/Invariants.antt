-- The nodes passed have their parts written. A turn writes one node's.
use mathlib.Core.Path.{◌≡◌}
use lib.IntN.{pos}
use lib.ListN.{length, get_or}
use Rattle.numbers.specs.Parts.{plus, minus}
use Rattle.lists.specs.Written.{Written}
use Rattle.stand.proofs.build.enter_supplies.Given as goal

abbrev pub invariant-loop-v : goal.invariant-loop-v
invariant-loop-v l =
    (length l.over ≡ length l.initial.over) × (length l.under ≡ length l.initial.under)
    × Written (λ i. plus (get_or l.supplies i (pos 0))) l.v l.initial.over l.over
    × Written (λ i. minus (get_or l.supplies i (pos 0))) l.v l.initial.under l.under
