-- What acceptance says of a request.
use Prim.Native.Nat.{ℕ, ◌≤◌, ◌<◌}
use mathlib.Core.Path.{◌≡◌}
use mathlib.Core.List.{List}
use lib.Dec.{leb, ltb}
use lib.ListN.{length}
use borrow.Author.Tests.{leb-false}
use Rattle.plan.specs.Plan.{Plan, WellFormed}
use Rattle.plan.specs.declared.Fault.TheVariants.{Missing}
use Rattle.plan.specs.Verdict.{network_rules, lent_short, Accepted}
use Rattle.plan.proofs.Refusals.{last_accepted, neither}
use Rattle.plan.proofs.Checked.{accepted_plan, first_fits, second_fits}
use Rattle.reason.specs.Answer.{missing, judged}

module _ (p : Plan) (arc end : ℕ) (arcs nodes : List ℕ) where
  pub request_accepted : judged p arc end arcs nodes ≡ Accepted
      → WellFormed p × ((arc < p.arcs) × ((p.arcs ≤ length arcs) × (p.nodes ≤ length nodes)))
  request_accepted e =
      let rules = network_rules p (lent_short arcs p.arcs nodes p.nodes) in
      let (accepted, there) = last_accepted rules Missing (missing p arc end) e in (
        accepted_plan p arcs nodes p.arcs p.nodes accepted,
        (
          leb-false p.arcs arc (neither (leb p.arcs arc) (ltb 1 end) there).0,
          (first_fits p arcs nodes p.arcs p.nodes accepted, second_fits p arcs nodes p.arcs p.nodes accepted),
        ),
      )
