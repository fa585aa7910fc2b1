-- Two plans that agree on all that is below their counts: what is said of the one holds of the other, and they are turned down alike.
use Prim.Native.Nat.{ℕ, zero, suc, ◌<◌}
use mathlib.Core.Path.{◌≡◌, ap, sym, ◌∙◌}
use mathlib.Core.Bool.{Bool, cond}
use native.Mathlib.Omega.{arith}
use lib.IntN.{ℤ}
use Rattle.numbers.specs.Sums.{only, onlyℤ, sum_in, sumℤ, sum_inℤ}
use Rattle.numbers.proofs.Sums.{sum_same, sumℤ_same}
use Rattle.plan.specs.Plan.{Plan, Set, WellFormed}
use Rattle.plan.specs.Flow.{total, Flow, FirstFlow, HasFlow, Occurs, Smallest, Largest, Narrowed}
use Rattle.plan.specs.Shortage.{leaves, enters, supplies, shortfall, ShortBy}
use Rattle.plan.specs.Reason.{no_marks}
use Rattle.plan.specs.Keeping.{SamePlan}
use Rattle.plan.specs.declared.Fault.{Fault}
use Rattle.plan.specs.declared.Fault.TheVariants.{ArcEnd, ArcRange, Supply, SupplySum}
use Rattle.plan.specs.Verdict.{lowest, verdict, count_rules, limit_rules, end_wrong, range_wrong, supply_wrong, sum_wrong, Verdict, Accepted, Refused}
use Rattle.plan.proofs.Demand3.{flow_of_the_wider}

pub alike_back : {p q : Plan} → SamePlan p q → SamePlan q p
alike_back a = record {
  network = record {
    nodes = sym a.network.nodes;
    arcs = sym a.network.arcs;
    supply = λ v l. sym (a.network.supply v (omega (arith, a.network.nodes)));
    from = λ k l. sym (a.network.from k (omega (arith, a.network.arcs)));
    to = λ k l. sym (a.network.to k (omega (arith, a.network.arcs)));
  };
  low = λ k l. sym (a.low k (omega (arith, a.network.arcs)));
  high = λ k l. sym (a.high k (omega (arith, a.network.arcs)));
}

-- flows, and the counts that occur in them

pub alike_flow : {p q : Plan} → SamePlan p q → {f : ℕ → ℕ} → Flow q f → Flow p f
alike_flow {p} {q} a {f} =
    flow_of_the_wider p q a.network
    (record { low_within = λ k l. omega (arith, a.low k l); high_within = λ k l. omega (arith, a.high k l) }) f

pub alike_has_flow : {p q : Plan} → SamePlan p q → HasFlow q → HasFlow p
alike_has_flow a h = record { counts = h.counts; flow = alike_flow a h.flow }

pub alike_occurs : {p q : Plan} → SamePlan p q → {k count : ℕ} → Occurs q k count → Occurs p k count
alike_occurs a o = record { counts = o.counts; flow = alike_flow a o.flow; there = o.there }

pub alike_smallest : {p q : Plan} → SamePlan p q → {k count : ℕ} → Smallest q k count → Smallest p k count
alike_smallest a s = record { occurs = alike_occurs a s.occurs; smallest = λ g c. s.smallest g (alike_flow (alike_back a) c) }

pub alike_largest : {p q : Plan} → SamePlan p q → {k count : ℕ} → Largest q k count → Largest p k count
alike_largest a s = record { occurs = alike_occurs a s.occurs; largest = λ g c. s.largest g (alike_flow (alike_back a) c) }

pub alike_narrowed : {p q : Plan} → SamePlan p q → {k low high : ℕ} → Narrowed q k low high → Narrowed p k low high
alike_narrowed a n = record { low_end = alike_smallest a n.low_end; high_end = alike_largest a n.high_end }

pub alike_first_flow : {p q : Plan} → SamePlan p q → {f : ℕ → ℕ} → FirstFlow q f → FirstFlow p f
alike_first_flow a c = record {
  flow = alike_flow a c.flow;
  first = λ g flows i l. c.first g (alike_flow (alike_back a) flows) i (omega (arith, a.network.arcs));
}

-- shortfalls, and the shortage set

module _ {p q : Plan} (a : SamePlan p q) where
  alike_total : (f g : ℕ → ℕ) (A B : Set) → ((k : ℕ) → k < p.arcs → f k ≡ g k) → ((k : ℕ) → k < p.arcs → A k ≡ B k)
      → total p f A ≡ total q g B
  alike_total f g A B same same_set =
      sum_same p.arcs (λ k. only (A k) (f k)) (λ k. only (B k) (g k)) (λ k l. rw (same k l, same_set k l))
      ∙ ap (λ n. sum_in n B g) a.network.arcs

  alike_supplies : (S : Set) → supplies p S ≡ supplies q S
  unfolding supplies
  alike_supplies S =
      sumℤ_same p.nodes (λ v. onlyℤ (S v) (p.supply v)) (λ v. onlyℤ (S v) (q.supply v))
      (λ v l. rw (a.network.supply v l))
      ∙ ap (λ n. sum_inℤ n S q.supply) a.network.nodes

  pub alike_shortfall : (S : Set) → shortfall p S ≡ shortfall q S
  unfolding shortfall
  alike_shortfall S = rw (
    alike_supplies S,
    alike_total p.high q.high (leaves p S) (leaves q S) a.high (λ k l. rw (a.network.from k l, a.network.to k l)),
    alike_total p.low q.low (enters p S) (enters q S) a.low (λ k l. rw (a.network.from k l, a.network.to k l)),
  )

  pub alike_short_by : {value : ℤ} {S : Set} → ShortBy q value S → ShortBy p value S
  alike_short_by {value} {S} s = record {
    shortage = record {
      greatest = λ R. rw (alike_shortfall R, alike_shortfall S) (s.shortage.greatest R);
      least = λ R e. record {
        inside = λ v l. (s.shortage.least R (sym (alike_shortfall R) ∙ e ∙ alike_shortfall S)).inside v (omega (arith, a.network.nodes));
      };
    };
    value_is = alike_shortfall S ∙ s.value_is;
    positive = s.positive;
  }

-- the bounds that a "no" cites
pub alike_no_marks : {p q : Plan} → SamePlan p q → (S : Set) (k : ℕ) → k < p.arcs → no_marks p S k ≡ no_marks q S k
alike_no_marks a S k l = rw (a.network.from k l, a.network.to k l, a.low k l, a.high k l)

-- well-formed plans, and what turns a plan down

alike_sum : {p q : Plan} → SamePlan p q → sumℤ p.nodes p.supply ≡ sumℤ q.nodes q.supply
alike_sum {p} {q} a =
    sumℤ_same p.nodes p.supply q.supply a.network.supply ∙ ap (λ n. sumℤ n q.supply) a.network.nodes

pub alike_well_formed : {p q : Plan} → SamePlan p q → WellFormed q → WellFormed p
alike_well_formed {p} {q} a w = record {
  some_node = omega (arith, a.network.nodes, w.some_node);
  nodes_fit = omega (arith, a.network.nodes, w.nodes_fit);
  arcs_fit = omega (arith, a.network.arcs, w.arcs_fit);
  from_node = λ k l. omega (arith, a.network.nodes, a.network.arcs, a.network.from k l, w.from_node k (omega (arith, a.network.arcs)));
  to_node = λ k l. omega (arith, a.network.nodes, a.network.arcs, a.network.to k l, w.to_node k (omega (arith, a.network.arcs)));
  uncrossed = λ k l. omega (arith, a.low k l, a.high k l, w.uncrossed k (omega (arith, a.network.arcs)));
  high_fits = λ k l. omega (arith, a.high k l, w.high_fits k (omega (arith, a.network.arcs)));
  supply_fits = λ v l. rw (a.network.supply v l) (w.supply_fits v (omega (arith, a.network.nodes)));
  supplies_even = alike_sum a ∙ w.supplies_even;
}

-- a rule that concerns the same places, before the same verdict
lowest_same : (fault : Fault) (f g : ℕ → Bool) (n : ℕ) {u v : Verdict} → ((i : ℕ) → i < n → f i ≡ g i) → u ≡ v
    → lowest fault f n u ≡ lowest fault g n v
lowest_same fault f g zero same e = e
lowest_same fault f g (suc n) {u} {v} same e =
    lowest_same fault f g n (λ i l. same i (omega arith)) (rw (same n (omega arith), e))

pub counts_alike : {p q : Plan} → SamePlan p q → verdict (count_rules p) ≡ verdict (count_rules q)
counts_alike a = rw (a.network.nodes, a.network.arcs)

pub limits_alike : {p q : Plan} → SamePlan p q → verdict (limit_rules p) ≡ verdict (limit_rules q)
limits_alike {p} {q} a =
    lowest_same ArcEnd (end_wrong p) (end_wrong q) p.arcs (λ k l. rw (a.network.nodes, a.network.from k l, a.network.to k l))
    (lowest_same ArcRange (range_wrong p) (range_wrong q) p.arcs (λ k l. rw (a.low k l, a.high k l))
    (lowest_same Supply (supply_wrong p) (supply_wrong q) p.nodes (λ v l. rw (a.network.supply v l))
    (rw (alike_sum a))
    ∙ ap (λ n. lowest Supply (supply_wrong q) n (after_supplies q)) a.network.nodes)
    ∙ ap (λ n. lowest ArcRange (range_wrong q) n (after_ranges q)) a.network.arcs)
    ∙ ap (λ n. lowest ArcEnd (end_wrong q) n (after_ends q)) a.network.arcs
  where
    after_supplies : Plan → Verdict
    after_supplies r = cond (sum_wrong r) (Refused SupplySum 0) Accepted

    after_ranges : Plan → Verdict
    after_ranges r = lowest Supply (supply_wrong r) r.nodes (after_supplies r)

    after_ends : Plan → Verdict
    after_ends r = lowest ArcRange (range_wrong r) r.arcs (after_ranges r)
