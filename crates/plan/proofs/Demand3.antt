-- Demand 3: a stated reason outlives the plan it was given for. A flow of the second plan balances the first plan's supplies,
-- and keeps to the bounds in the first plan's sum: the cited ones are kept, and an uncited one stands at the widest end, which
-- no flow passes. So weak duality holds of it, in the first plan and with the first plan's set.
use Prim.Native.Nat.{ℕ, ◌≤◌, ◌<◌}
use mathlib.Core.Path.{◌≡◌, ap, ◌∙◌}
use mathlib.Core.Bool.{true, false, not}
use mathlib.Mathlib.Data.Bool.Basic.{and_elim_left, eq-false_of_not-eq-true}
use mathlib.Core.Logic.{by_cases}
use native.Mathlib.Omega.{arith}
use native.Mathlib.Decide.{ℕ_discrete}
use lib.Dec.{eqb}
use lib.IntN.{pos}
use lib.Signed.{◌<ℤ◌}
use borrow.Author.Tests.{ne_eqb}
use Rattle.numbers.specs.Sums.{only, sum_in}
use Rattle.numbers.specs.Parts.{plus, minus}
use Rattle.numbers.proofs.Parts.{whole}
use Rattle.numbers.proofs.Sums.{sum_same}
use Rattle.plan.specs.Limits.{widest_low, widest_high}
use Rattle.plan.specs.Plan.{Plan, Set, WellFormed}
use Rattle.plan.specs.Flow.{total, Flow, Occurs, Narrowed}
use Rattle.plan.specs.Shortage.{leaves, enters, shortfall}
use Rattle.plan.specs.Reason.{others, mark, no_marks, low_marks, high_marks, LowReason, HighReason}
use Rattle.plan.specs.Keeping.{SameNetwork, Keeps, RangesWithin}
use Rattle.plan.proofs.Cut.{crosses_one_way, Joined, Balanced, flow_balance, balance_flow, wider_within, KeepsTo, balance_leaves_no_shortfall}
use Rattle.plan.proofs.Ends.{smallest_least, largest_most, balance_has_what_is_forced, balance_keeps_to_what_is_allowed}

module _ (p q : Plan) (same : SameNetwork p q) where
  -- counts come to the same over the arcs at a node
  same_total : (f : ℕ → ℕ) (A B : Set) → ((k : ℕ) → k < p.arcs → A k ≡ B k) → total p f A ≡ total q f B
  same_total f A B h =
      sum_same p.arcs (λ k. only (A k) (f k)) (λ k. only (B k) (f k)) (λ k l. ap (λ t. only t (f k)) (h k l))
      ∙ ap (λ n. sum_in n B f) same.arcs

  -- and balance the same supplies
  same_balance : {f : ℕ → ℕ} → Flow q f → Balanced p f
  same_balance {f} c v l = omega (
    arith,
    flow_balance c v (omega arith),
    ap plus (same.supply v l),
    ap minus (same.supply v l),
    same_total f (λ k. eqb (p.from k) v) (λ k. eqb (q.from k) v) (λ k l'. ap (λ u. eqb u v) (same.from k l')),
    same_total f (λ k. eqb (p.to k) v) (λ k. eqb (q.to k) v) (λ k l'. ap (λ u. eqb u v) (same.to k l')),
  )

-- nor does an arc other than k both leave a set and enter it
others_cross_one_way : (p : Plan) (k : ℕ) (S : Set) (j : ℕ) → others k (leaves p S) j ≡ true → enters p S j ≡ true → ⊥
others_cross_one_way p k S j leaving = crosses_one_way p S j (and_elim_left (leaves p S j) (not (eqb j k)) leaving)

-- what is kept goes by the marks of the plan's arcs alone
pub keeps_alike : {p q : Plan} {marks marks' : ℕ → ℕ} → ((j : ℕ) → j < p.arcs → marks j ≡ marks' j)
    → Keeps p q marks → Keeps p q marks'
keeps_alike same kept = record {
  low_kept = λ j l cited. kept.low_kept j l (same j l ∙ cited);
  high_kept = λ j l cited. kept.high_kept j l (same j l ∙ cited);
}

module _ (p q : Plan) (wq : WellFormed q) (same : SameNetwork p q) where
  same_joined : Joined p
  same_joined = record {
    from_node = λ k l. omega (arith, same.from k l, wq.from_node k (omega arith));
    to_node = λ k l. omega (arith, same.to k l, wq.to_node k (omega arith));
  }

  -- where a sum uses the highs of A and the lows of B, no arc in both, and q keeps what the sum cites, q's flows keep to both
  kept_to : {f : ℕ → ℕ} {A B : Set} → ((k : ℕ) → A k ≡ true → B k ≡ true → ⊥) → Keeps p q (mark p A B) → Flow q f
      → KeepsTo p f A B
  kept_to {f} {A} {B} apart kept c = record {
    most = λ k l a. by_cases (ℕ_discrete (p.high k) widest_high)
        (λ e. omega (arith, c.within.most k (omega arith), wq.high_fits k (omega arith)))
        (λ ne. omega (arith, c.within.most k (omega arith), kept.high_kept k l (rw (a, ne_eqb (p.high k) widest_high ne))));
    least = λ k l b. by_cases (ℕ_discrete (p.low k) widest_low)
        (λ e. omega arith)
        (λ ne. let a : A k ≡ false = eq-false_of_not-eq-true (λ a. apart k a b) in
        omega (arith, c.within.least k (omega arith), kept.low_kept k l (rw (a, b, ne_eqb (p.low k) widest_low ne))));
  }

  -- if the second plan keeps every limit cited by a "no" at least as tight, it is a "no" too
  pub demand_3_no : (S : Set) → pos 0 <ℤ shortfall p S → Keeps p q (no_marks p S) → (f : ℕ → ℕ) → Flow q f → ⊥
  demand_3_no S short kept f c = omega (
    whole,
    short,
    balance_leaves_no_shortfall p same_joined f (same_balance p q same c) S (kept_to (crosses_one_way p S) kept c),
  )

  -- if it keeps every limit cited for an end that moved, none of its flows passes that narrowed end
  pub demand_3_low : (k : ℕ) → k < p.arcs → (low : ℕ) (S : Set) → LowReason p k low S → Keeps p q (low_marks p k S)
      → (f : ℕ → ℕ) → Flow q f → low ≤ f k
  demand_3_low k l low S r kept f c = omega (
    whole,
    r.set.gives,
    balance_has_what_is_forced p same_joined k l S r.set.separates f (same_balance p q same c)
        (kept_to (others_cross_one_way p k S) kept c),
  )

  pub demand_3_high : (k : ℕ) → k < p.arcs → (high : ℕ) (S : Set) → HighReason p k high S → Keeps p q (high_marks p k S)
      → (f : ℕ → ℕ) → Flow q f → f k ≤ high
  demand_3_high k l high S r kept f c = omega (
    whole,
    r.set.gives,
    balance_keeps_to_what_is_allowed p same_joined k l S r.set.separates f (same_balance p q same c)
        (kept_to (λ j entering leaving. others_cross_one_way p k S j leaving entering) kept c),
  )

module _ (p q : Plan) (same : SameNetwork p q) (inside : RangesWithin p q) where
  -- a flow of a plan whose ranges lie within another's is a flow of that other
  pub flow_of_the_wider : (f : ℕ → ℕ) → Flow q f → Flow p f
  flow_of_the_wider f c = balance_flow (wider_within same.arcs inside c.within) (same_balance p q same c)

  wider_occurs : {k count : ℕ} → Occurs q k count → Occurs p k count
  wider_occurs o = record { counts = o.counts; flow = flow_of_the_wider o.counts o.flow; there = o.there }

  -- if all its ranges lie within the first's and both have flows, so do its narrowed ranges
  pub demand_3_ranges : (k low high low' high' : ℕ) → Narrowed p k low high → Narrowed q k low' high' → (low ≤ low') × (high' ≤ high)
  demand_3_ranges k low high low' high' a b = (
    smallest_least a.low_end (wider_occurs b.low_end.occurs),
    largest_most a.high_end (wider_occurs b.high_end.occurs),
  )
