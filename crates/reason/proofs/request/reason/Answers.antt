-- What the check accepts is well-formed, and the arc is there.
use mathlib.Core.Path.{◌≡◌, sym, ◌∙◌}
use mathlib.Core.Bool.{false}
use borrow.Author.Rules.{rules}
use Rattle.plan.specs.Plan.{meant}
use Rattle.plan.specs.declared.Fault.TheVariants.{Missing}
use Rattle.plan.specs.Verdict.{verdict, network_rules, Accepted}
use Rattle.plan.proofs.Refusals.{last_accepted, accepted_well_formed}
use Rattle.reason.proofs.request.reason.Goals as goal
use Rattle.reason.proofs.request.reason.Goals.{In_ok-check_asked, then-size-k, else-size-k}

accepted : (c : In_ok-check_asked)
    → (verdict (network_rules (meant c.args.network) c.too_short-short.result) ≡ Accepted) × (c.if-size-k.missing ≡ false)
accepted c =
    let rules = network_rules (meant c.args.network) c.too_short-short.result in
    last_accepted rules Missing c.if-size-k.missing (sym c.check_asked.ensures ∙ c.in_ok-check_asked.was)

pub work_out-requires-clause-plan : goal.work_out-requires-clause-plan
work_out-requires-clause-plan c =
    let on = accepted (goal.at.work_out-requires-clause-plan c).In_ok-check_asked in
    accepted_well_formed (meant c.args.network) c.too_short-short.result on.0

pub work_out-requires-clause-arc : goal.work_out-requires-clause-arc
work_out-requires-clause-arc c =
    let there = (accepted (goal.at.work_out-requires-clause-arc c).In_ok-check_asked).1 in
    elim c.if-size-k.branch [ then-size-k w ↦ search rules | else-size-k w ↦ search rules ]
