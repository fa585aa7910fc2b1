-- What a count within the narrowed range is, and what acceptance says of a request.
use Prim.Native.Nat.{ℕ, ◌≤◌, ◌<◌}
use mathlib.Core.Path.{◌≡◌}
use mathlib.Core.List.{List}
use native.Mathlib.Omega.{arith}
use lib.Dec.{leb, ltb}
use lib.ListN.{length}
use borrow.Author.Tests.{ltb-false, leb-false}
use Rattle.plan.specs.Plan.{Plan, WellFormed}
use Rattle.plan.specs.Flow.{Smallest, Largest}
use Rattle.plan.specs.declared.Fault.TheVariants.{Missing}
use Rattle.plan.specs.Verdict.{network_rules, Accepted}
use Rattle.plan.proofs.Between.{between_occurs}
use Rattle.plan.proofs.Refusals.{last_accepted, accepted_well_formed, accepted_buffers_fit}
use Rattle.one_arc.specs.Standing.{Possible}
use Rattle.held.specs.Answer.{judged}

-- a count between both ends of the narrowed range, which some flow has
pub count_possible : {p : Plan} {k low high count : ℕ} → Smallest p k low → Largest p k high → WellFormed p → k < p.arcs
    → low ≤ count → count ≤ high → Possible p k count
count_possible {p} {k} {low} {high} {count} s g w l least most = record {
  least = omega (arith, least, s.occurs.flow.within.least k l, s.occurs.there);
  most = omega (arith, most, g.occurs.flow.within.most k l, g.occurs.there);
  occurs = between_occurs p w k l s.occurs g.occurs count least most;
}

module _ (p : Plan) (arc : ℕ) (arcs : List ℕ) where
  pub request_accepted : judged p arc arcs ≡ Accepted → WellFormed p × ((arc < p.arcs) × (p.arcs ≤ length arcs))
  request_accepted e =
      let (accepted, there) = last_accepted (network_rules p (ltb (length arcs) p.arcs)) Missing (leb p.arcs arc) e in (
        accepted_well_formed p (ltb (length arcs) p.arcs) accepted,
        (leb-false p.arcs arc there, ltb-false (length arcs) p.arcs (accepted_buffers_fit p (ltb (length arcs) p.arcs) accepted)),
      )
