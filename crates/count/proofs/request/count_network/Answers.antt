-- What is accepted has a network within the limits, and what is turned down is not drawn.
use mathlib.Core.Path.{refl, sym, ◌∙◌}
use Rattle.std.proofs.lemmas.Result.{err_from_is_err_and}
use Rattle.plan.specs.declared.Fault.TheVariants.{Buffer}
use Rattle.plan.specs.Verdict.{lists_short}
use Rattle.plan.proofs.Refusals.{last_refused, last_wrong, last_passes}
use Rattle.counting.specs.Counting.{counting_of}
use Rattle.counting.specs.Network.{network}
use Rattle.counting.specs.Rules.{counting_rules}
use Rattle.count.proofs.request.count_network.Goals as goal

pub returns-in_err-check : goal.returns-in_err-check
returns-in_err-check c =
    let domains = c.args.domains.now in
    let plan = counting_of c.args.domains.now c.args.counts.now in
    let e = err_from_is_err_and c.from_residual.result c.from_residual.ensures.1 in
    rw (e.1, e.2) (record {
      answer_is = last_refused (counting_rules domains plan) Buffer (lists_short (network plan) c.args.supplies.now c.args.arcs.now) (sym c.check.ensures ∙ c.in_err-check.was);
      handed = (refl, refl);
    })

pub returns-then-too_short : goal.returns-then-too_short
returns-then-too_short c =
    let domains = c.args.domains.now in
    let plan = counting_of c.args.domains.now c.args.counts.now in
    rw c.whole.ensures (record {
      answer_is = last_wrong (counting_rules domains plan) Buffer (lists_short (network plan) c.args.supplies.now c.args.arcs.now) (sym c.check.ensures ∙ c.in_ok-check.was) (sym c.too_short.ensures ∙ c.if-too_short.true);
      handed = (refl, refl);
    })

pub returns : goal.returns
returns c =
    let domains = c.args.domains.now in
    let plan = counting_of c.args.domains.now c.args.counts.now in
    record {
      answer_is = last_passes (counting_rules domains plan) Buffer (lists_short (network plan) c.args.supplies.now c.args.arcs.now) (sym c.check.ensures ∙ c.in_ok-check.was) (sym c.too_short.ensures ∙ c.if-too_short.false);
      handed = (c.draw_supplies.ensures plan refl refl, c.draw_arcs.ensures);
    }
