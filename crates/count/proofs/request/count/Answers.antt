-- The verdict is the definition's: 15 to 18 by the check, then 3; and what is accepted is worked out.
use mathlib.Core.Path.{refl, sym, ◌∙◌}
use Rattle.std.proofs.lemmas.Result.{err_from_is_err_and}
use Rattle.plan.specs.declared.Fault.TheVariants.{Buffer}
use Rattle.plan.proofs.Refusals.{last_refused, last_wrong, last_passes}
use Rattle.counting.specs.Counting.{counting_of}
use Rattle.counting.specs.Rules.{counting_rules}
use Rattle.count.specs.Answer.{Buffers, buffers_short}
use Rattle.count.proofs.request.count.Goals as goal

pub returns-in_err-check : goal.returns-in_err-check
returns-in_err-check c =
    let b : Buffers = record { domains = c.args.new_domains.now; lows = c.args.lows.now; highs = c.args.highs.now } in
    let plan = counting_of c.args.domains.now c.args.counts.now in
    let e = err_from_is_err_and c.from_residual.result c.from_residual.ensures.1 in
    rw (e.1, e.2) (record {
      says = (last_refused (counting_rules c.args.domains.now plan) Buffer (buffers_short plan b) (sym c.check.ensures ∙ c.in_err-check.was), refl);
      domains_length = refl;
      lows_length = refl;
      highs_length = refl;
    })

pub returns-then-buffers_short : goal.returns-then-buffers_short
returns-then-buffers_short c =
    let b : Buffers = record { domains = c.args.new_domains.now; lows = c.args.lows.now; highs = c.args.highs.now } in
    let plan = counting_of c.args.domains.now c.args.counts.now in
    rw c.whole.ensures (record {
      says = (last_wrong (counting_rules c.args.domains.now plan) Buffer (buffers_short plan b) (sym c.check.ensures ∙ c.in_ok-check.was) (sym c.buffers_short.ensures ∙ c.if-buffers_short.true), refl);
      domains_length = refl;
      lows_length = refl;
      highs_length = refl;
    })

pub work_out-requires : goal.work_out-requires
work_out-requires c =
    let b : Buffers = record { domains = c.args.new_domains.now; lows = c.args.lows.now; highs = c.args.highs.now } in
    let plan = counting_of c.args.domains.now c.args.counts.now in
    last_passes (counting_rules c.args.domains.now plan) Buffer (buffers_short plan b) (sym c.check.ensures ∙ c.in_ok-check.was) (sym c.buffers_short.ensures ∙ c.if-buffers_short.false)
