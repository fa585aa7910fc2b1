-- What the network's flows tell of the assignments, by the bridge of Assigned: a variable can take a value exactly if the largest
-- count of their arc is at least 1, and the smallest and largest counts of a value's arc are the fewest and the most of its uses.
use Prim.Native.Nat.{ℕ, ◌+◌, ◌*◌, ◌≤◌, ◌<◌}
use mathlib.Core.Path.{◌≡◌, refl, ap, sym, ◌∙◌}
use mathlib.Core.Bool.{Bool, true, false}
use mathlib.Core.Logic.{◌↔◌}
use native.Mathlib.Omega.{arith}
use native.Mathlib.Nat.{add-zero}
use lib.Dec.{eqb}
use lib.IntN.{pos, nat_abs, neg_ℤ}
use borrow.Author.Tests.{eq-eqb, eqb-true}
use Rattle.numbers.specs.Sums.{sum, sumℤ, only}
use Rattle.numbers.specs.Parts.{plus, minus}
use Rattle.numbers.proofs.Parts.{whole, neg_plus, neg_minus, magnitude}
use Rattle.numbers.proofs.Sums.{sum_same, sum_zero, sumℤ_parts}
use Rattle.plan.specs.Limits.{most_nodes, most_arcs, most_supply, widest_high}
use Rattle.plan.specs.Plan.{WellFormed}
use Rattle.plan.specs.Flow.{HasFlow, Smallest, Largest}
use Rattle.counting.specs.Counting.{Counting, Assignment, Taken, FewestUses, MostUses}
use Rattle.counting.specs.Network.{pairs, last, network}
use Rattle.counting.proofs.Grid.{only_most, sum_split, sum_ones}
use Rattle.counting.proofs.Assigned.{node_cases, variable_supply, value_supply, last_supply}
use Rattle.counting.proofs.Assigned.{arc_cases, pair_from, pair_to, pair_low, pair_high, pair_flow}
use Rattle.counting.proofs.Assigned.{end_from, end_to, end_low, end_high, end_flow}
use Rattle.counting.proofs.Assigned.{flow_of, value_at, assignment_flows, flow_assigns, pair_counts, end_counts}

-- ---- the network is well-formed

-- a sum over the nodes: over the variables, over the values, and the last node
sum_nodes : (c : Counting) (g : ℕ → ℕ)
    → sum (network c).nodes g ≡ sum c.variables g + sum c.values (λ j. g (c.variables + j)) + g (last c)
sum_nodes c g =
    omega (arith, sum_split (last c) 1 g, sum_split c.variables c.values g, ap g (add-zero (last c)))

-- each variable supplies 1, and the last node takes it all
network_even : (c : Counting) → sumℤ (network c).nodes (network c).supply ≡ pos 0
network_even c = omega (
  whole,
  sumℤ_parts (network c).nodes (network c).supply,
  sum_nodes c (λ v. plus ((network c).supply v)),
  sum_nodes c (λ v. minus ((network c).supply v)),
  sum_same c.variables (λ i. plus ((network c).supply i)) (λ i. 1) (λ i l. ap plus (variable_supply c i l)),
  sum_ones c.variables,
  sum_zero c.variables (λ i. minus ((network c).supply i)) (λ i l. ap minus (variable_supply c i l)),
  sum_zero c.values (λ j. plus ((network c).supply (c.variables + j))) (λ j l. ap plus (value_supply c j l)),
  sum_zero c.values (λ j. minus ((network c).supply (c.variables + j))) (λ j l. ap minus (value_supply c j l)),
  ap minus (last_supply c) ∙ neg_minus (pos c.variables),
  ap plus (last_supply c) ∙ neg_plus (pos c.variables),
)

pub network_well_formed : (c : Counting) → c.variables + c.values + 1 ≤ most_nodes → c.values * (c.variables + 1) ≤ most_arcs
    → ((j : ℕ) → j < c.values → c.low j ≤ c.high j) → ((j : ℕ) → j < c.values → c.high j ≤ widest_high)
    → WellFormed (network c)
network_well_formed c nodes_fit arcs_fit uncrossed high_fits = record {
  some_node = omega arith;
  nodes_fit = nodes_fit;
  arcs_fit = omega arith;
  from_node = arc_cases c (λ k. (network c).from k < (network c).nodes)
      (λ i j l m. omega (arith, pair_from c i j l m)) (λ j m. omega (arith, end_from c j));
  to_node = arc_cases c (λ k. (network c).to k < (network c).nodes)
      (λ i j l m. omega (arith, pair_to c i j l m)) (λ j m. omega (arith, end_to c j));
  uncrossed = arc_cases c (λ k. (network c).low k ≤ (network c).high k)
      (λ i j l m. omega (arith, pair_low c i j l m)) (λ j m. omega (arith, end_low c j, end_high c j, uncrossed j m));
  high_fits = arc_cases c (λ k. (network c).high k ≤ widest_high)
      (λ i j l m. omega (arith, pair_high c i j l m, only_most (c.allowed i j)))
      (λ j m. omega (arith, end_high c j, high_fits j m));
  supply_fits = node_cases c (λ v. nat_abs ((network c).supply v) ≤ most_supply)
      (λ i l. omega (arith, ap nat_abs (variable_supply c i l)))
      (λ j l. omega (arith, ap nat_abs (value_supply c j l)))
      (omega (
        arith,
        ap nat_abs (last_supply c),
        magnitude (neg_ℤ (pos c.variables)),
        neg_minus (pos c.variables),
        neg_plus (pos c.variables),
      ));
  supplies_even = network_even c;
}

-- ---- flows and assignments

-- what counts at least 1 where two numbers are equal shows that they are
counted_equal : (i j : ℕ) → 1 ≤ only (eqb i j) 1 → i ≡ j
counted_equal i j = by (eqb i j) refl
  where
    by : (t : Bool) → eqb i j ≡ t → 1 ≤ only t 1 → i ≡ j
    by true e l = eqb-true i j e
    by false e l = absurd (omega arith)

-- there is an assignment exactly if there is a flow
pub assignment_exactly_if_flow : (c : Counting) → ((a : ℕ → ℕ) × Assignment c a) ↔ HasFlow (network c)
assignment_exactly_if_flow c = (
  λ s. record { counts = flow_of c s.0; flow = assignment_flows c s.0 s.1 },
  λ h. (value_at c h.counts, flow_assigns c h.counts h.flow),
)

-- a variable can take a value exactly if the largest count of their arc is at least 1
pub taken_exactly : (c : Counting) (i j : ℕ) → i < c.variables → j < c.values → {high : ℕ}
    → Largest (network c) (i * c.values + j) high → Taken c i j ↔ (1 ≤ high)
taken_exactly c i j l m h = (
  λ s. omega (
    arith,
    h.largest (flow_of c s.values) (assignment_flows c s.values s.assignment),
    pair_flow c i j l m s.values,
    ap (λ t. only t 1) (eq-eqb (s.values i) j s.there),
  ),
  λ some. let f = h.occurs.counts in let s = h.occurs.flow in record {
    values = value_at c f;
    assignment = flow_assigns c f s;
    there = counted_equal (value_at c f i) j (omega (arith, pair_counts c f s i j l m, h.occurs.there));
  },
)

-- the smallest count of a value's arc is the fewest of its uses
pub fewest_uses : (c : Counting) (j low : ℕ) → j < c.values → Smallest (network c) (pairs c + j) low → FewestUses c j low
fewest_uses c j low m h = record {
  values = value_at c h.occurs.counts;
  assignment = flow_assigns c h.occurs.counts h.occurs.flow;
  there = sym (end_counts c h.occurs.counts h.occurs.flow j m) ∙ h.occurs.there;
  fewest = λ a s. omega (arith, h.smallest (flow_of c a) (assignment_flows c a s), end_flow c j a);
}

-- the largest count is the most of its uses
pub most_uses : (c : Counting) (j high : ℕ) → j < c.values → Largest (network c) (pairs c + j) high → MostUses c j high
most_uses c j high m h = record {
  values = value_at c h.occurs.counts;
  assignment = flow_assigns c h.occurs.counts h.occurs.flow;
  there = sym (end_counts c h.occurs.counts h.occurs.flow j m) ∙ h.occurs.there;
  most = λ a s. omega (arith, h.largest (flow_of c a) (assignment_flows c a s), end_flow c j a);
}
