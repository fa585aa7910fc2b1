-- Between both ends some flow has the count.
use borrow.Author.Rules.{rules}
use Rattle.held.proofs.Answering.{count_possible}
use Rattle.held.proofs.request.out_of_range.Goals as goal

pub returns-else-count-low-clause-possible : goal.returns-else-count-low-clause-possible
returns-else-count-low-clause-possible c =
    let low = c.end_for-low.ensures.end in
    let high = c.end_for-high.ensures.end in
    λ most. count_possible low high c.requires.ready.plan c.requires.arc c.if-count-low.false (search rules)
