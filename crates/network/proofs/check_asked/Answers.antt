-- What the network is turned down for comes first; then 8.
use mathlib.Core.Path.{sym, ◌∙◌}
use Rattle.std.proofs.lemmas.Result.{err_from_is_err_and}
use Rattle.plan.specs.Plan.{meant}
use Rattle.plan.specs.declared.Fault.TheVariants.{Missing}
use Rattle.plan.specs.Verdict.{network_rules}
use Rattle.plan.proofs.Refusals.{last_refused, last_wrong, last_passes}
use Rattle.network.proofs.check_asked.Goals as goal

pub returns-in_err-check : goal.returns-in_err-check
returns-in_err-check c =
    let e = err_from_is_err_and c.from_residual.result c.from_residual.ensures.1 in
    rw (e.1, e.2) (sym (last_refused (network_rules (meant c.args.network) c.args.short) Missing c.args.missing (sym c.check.ensures ∙ c.in_err-check.was)))

pub returns-then-missing : goal.returns-then-missing
returns-then-missing c =
    rw c.whole.ensures (sym (last_wrong (network_rules (meant c.args.network) c.args.short) Missing c.args.missing (sym c.check.ensures ∙ c.in_ok-check.was) c.if-missing.true))

pub returns : goal.returns
returns c =
    sym (last_passes (network_rules (meant c.args.network) c.args.short) Missing c.args.missing (sym c.check.ensures ∙ c.in_ok-check.was) c.if-missing.false)
