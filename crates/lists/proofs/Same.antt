-- The entries that a plan was written to are that plan; and plans that agree are written alike.
use Prim.Native.Nat.{ℕ, ◌+◌, ◌*◌, ◌/◌, ◌≤◌, ◌<◌}
use mathlib.Core.Path.{◌≡◌, ◌∙◌}
use mathlib.Core.List.{List}
use native.Mathlib.Omega.{arith}
use lib.IntN.{ℤ, pos}
use lib.ListN.{length, get_or, take}
use lib.Seq.{length-take-le, get_or-take}
use Rattle.plan.specs.Limits.{arc_entries}
use Rattle.plan.specs.Plan.{Plan, plan_of}
use Rattle.plan.specs.Keeping.{SamePlan}
use Rattle.plan.specs.Verdict.{verdict, limit_rules, Verdict}
use Rattle.plan.proofs.Alike.{limits_alike}
use Rattle.lists.specs.Written.{ArcsWritten, SuppliesWritten}

module _ {p : Plan} {arcs arcs' : List ℕ} {supplies supplies' : List ℤ}
    (a : ArcsWritten p p.arcs arcs arcs') (s : SuppliesWritten p p.nodes supplies supplies')
    (arcs_fit : p.arcs * arc_entries ≤ length arcs') (supplies_fit : p.nodes ≤ length supplies') where
  abbrev part : List ℕ
  part = take (p.arcs * arc_entries) arcs'

  nodes_are : length (take p.nodes supplies') ≡ p.nodes
  nodes_are = length-take-le p.nodes supplies' supplies_fit

  arcs_are : length part / arc_entries ≡ p.arcs
  arcs_are = omega (arith, length-take-le (p.arcs * arc_entries) arcs' arcs_fit)

  entry : (i : ℕ) → i < p.arcs * arc_entries → get_or part i 0 ≡ get_or arcs' i 0
  entry i = get_or-take (p.arcs * arc_entries) arcs' i 0

  pub written_plan : SamePlan (plan_of (take (p.arcs * arc_entries) arcs') (take p.nodes supplies')) p
  written_plan = record {
    network = record {
      nodes = nodes_are;
      arcs = arcs_are;
      supply = λ v l. let small : v < p.nodes = omega (arith, nodes_are) in
          get_or-take p.nodes supplies' v (pos 0) small ∙ s.there v small;
      from = λ k l. entry (k * arc_entries) (omega (arith, arcs_are)) ∙ a.from_is k (omega (arith, arcs_are));
      to = λ k l. entry (k * arc_entries + 1) (omega (arith, arcs_are)) ∙ a.to_is k (omega (arith, arcs_are));
    };
    low = λ k l. entry (k * arc_entries + 2) (omega (arith, arcs_are)) ∙ a.low_is k (omega (arith, arcs_are));
    high = λ k l. entry (k * arc_entries + 3) (omega (arith, arcs_are)) ∙ a.high_is k (omega (arith, arcs_are));
  }

  -- so what is said of those entries is said of the plan
  pub written_limits : {v : Verdict} → v ≡ verdict (limit_rules (plan_of (take (p.arcs * arc_entries) arcs') (take p.nodes supplies')))
      → v ≡ verdict (limit_rules p)
  written_limits is = is ∙ limits_alike written_plan

module _ {p q : Plan} (same : SamePlan p q) where
  pub supplies_alike : {n : ℕ} {supplies supplies' : List ℤ} → n ≡ p.nodes
      → SuppliesWritten p n supplies supplies' → SuppliesWritten q q.nodes supplies supplies'
  supplies_alike e s = let all = e ∙ same.network.nodes in record {
    same_length = s.same_length;
    there = λ v l. s.there v (omega (arith, all)) ∙ same.network.supply v (omega (arith, all, e));
    past = λ v l. s.past v (omega (arith, all));
  }

  pub arcs_alike : {m : ℕ} {arcs arcs' : List ℕ} → m ≡ p.arcs
      → ArcsWritten p m arcs arcs' → ArcsWritten q q.arcs arcs arcs'
  arcs_alike e a = let all = e ∙ same.network.arcs in record {
    same_length = a.same_length;
    from_is = λ k l. a.from_is k (omega (arith, all)) ∙ same.network.from k (omega (arith, all, e));
    to_is = λ k l. a.to_is k (omega (arith, all)) ∙ same.network.to k (omega (arith, all, e));
    low_is = λ k l. a.low_is k (omega (arith, all)) ∙ same.low k (omega (arith, all, e));
    high_is = λ k l. a.high_is k (omega (arith, all)) ∙ same.high k (omega (arith, all, e));
    past = λ i l. a.past i (omega (arith, all));
  }
