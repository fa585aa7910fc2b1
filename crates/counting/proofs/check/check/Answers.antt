-- Each rule that concerns no place gives way to the next.
use mathlib.Core.Path.{◌∙◌}
use borrow.Author.Rules.{rules}
use Rattle.std.proofs.lemmas.Result.{err_from_is_err_and}
use Rattle.counting.specs.Counting.{counting_of}
use Rattle.counting.specs.Rules.{names_beyond, count_wrong}
use Rattle.counting.proofs.Refused.{value_beyond, too_many_arcs, ranges_decide}
use Rattle.counting.proofs.check.check.Goals as goal

pub returns-in_err-refuse : goal.returns-in_err-refuse
returns-in_err-refuse c =
    let d = c.args.domains.now in
    let p = counting_of d c.args.counts.now in
    let e = err_from_is_err_and c.from_residual.result c.from_residual.ensures.1 in
    rw (e.1, e.2) (value_beyond d p c.if-v-w-ge-MOST_NODES.false (c.in_err-refuse.ensures (names_beyond d p.values) (λ i told l h. search rules)))

pub returns-then-w-v-gt-MOST_ARCS : goal.returns-then-w-v-gt-MOST_ARCS
returns-then-w-v-gt-MOST_ARCS c =
    let d = c.args.domains.now in
    let p = counting_of d c.args.counts.now in
    rw c.whole-then-w-v-gt-MOST_ARCS.ensures (too_many_arcs d p c.if-v-w-ge-MOST_NODES.false c.in_ok-refuse.field-0 (c.in_ok-refuse.ensures (names_beyond d p.values) (λ i told l h. search rules)) c.if-w-v-gt-MOST_ARCS.true)

pub returns : goal.returns
returns c =
    let d = c.args.domains.now in
    let p = counting_of d c.args.counts.now in
    c.refuse-2.ensures (count_wrong p) (λ j told l h. search rules) ∙ ranges_decide d p c.if-v-w-ge-MOST_NODES.false c.in_ok-refuse.field-0 (c.in_ok-refuse.ensures (names_beyond d p.values) (λ i told l h. search rules)) c.if-w-v-gt-MOST_ARCS.false
