-- A well-formed plan that has a flow has a first flow, and each of its arcs has a narrowed range. Whether a count occurs on an
-- arc is decided by Hoffman's theorem in the plan with the arc held at it, so the smallest and the largest can be looked for.
use Prim.Native.Nat.{ℕ, zero, suc, ◌+◌, ◌-◌, ◌≤◌, ◌<◌}
use mathlib.Core.Path.{◌≡◌, refl, ◌∙◌}
use mathlib.Core.Logic.Dec
use mathlib.Core.Logic.{◌⊎◌, inl, inr, ⊎_elim, by_cases}
use native.Mathlib.Omega.{arith}
use native.Mathlib.Nat.{eq-or-lt_of_le}
use native.Mathlib.Decide.{dec_le}
use Rattle.numbers.proofs.Parts.{whole}
use Rattle.plan.specs.Plan.{Plan, WellFormed}
use Rattle.plan.specs.Flow.{Flow, FirstFlow, HasFlow, Occurs, Smallest, Largest, Narrowed, held}
use Rattle.plan.proofs.Cut.{flow_leaves_no_shortfall}
use Rattle.plan.proofs.Ends.{held_there, held_wider, held_occurs}
use Rattle.plan.proofs.Hoffman.{flow_or_shortage}
use Rattle.plan.proofs.Narrowing.{held_well_formed}
use Rattle.plan.proofs.HeldCounts.{held_flow}

-- the least number of which something holds
abbrev Least : (ℕ → Type 0) → Type 0
Least P = (n : ℕ) × P n × ((m : ℕ) → P m → n ≤ m)

module _ {P : ℕ → Type 0} (holds? : (n : ℕ) → Dec (P n)) where
  -- it is found below n, or there is none below n
  least_below : (n : ℕ) → Least P ⊎ ((m : ℕ) → P m → n ≤ m)
  least_below zero = inr (λ m h. omega arith)
  least_below (suc n) = ⊎_elim inl
      (λ from. by_cases (holds? n)
      (λ h. inl (n, h, from))
      (λ never. inr (λ m h. ⊎_elim (λ e. absurd (never (rw e h))) (λ above. above) (eq-or-lt_of_le (from m h)))))
      (least_below n)

  -- so it is found where there is some
  find_least : (n : ℕ) → P n → Least P
  find_least n h = ⊎_elim (λ found. found) (λ from. (n, h, from)) (least_below n)

-- ---- the narrowed range

-- a count that occurs lies in the arc's range
occurs_in_range : {p : Plan} {k x : ℕ} → k < p.arcs → Occurs p k x → (p.low k ≤ x) × (x ≤ p.high k)
occurs_in_range {k = k} l o = omega (arith, o.there, o.flow.within.least k l, o.flow.within.most k l)

module _ (p : Plan) (w : WellFormed p) (k : ℕ) (l : k < p.arcs) where
  -- with the arc held at a count of its range, there is a flow or a set is short
  occurs? : (x : ℕ) → Dec (Occurs p k x)
  occurs? x = by_cases (Dec.and (dec_le (p.low k) x) (dec_le x (p.high k)))
      (λ (least, most). in_range least most)
      (λ outside. no (λ o. outside (occurs_in_range l o)))
    where
      in_range : p.low k ≤ x → x ≤ p.high k → Dec (Occurs p k x)
      in_range least most =
          let w' : WellFormed (held p k x) = held_well_formed p k l x least most w in
          ⊎_elim
          (λ (f, c). yes (held_occurs p k l x least most f c))
          (λ (S, shortage, short). no (λ o. omega (whole, flow_leaves_no_shortfall (held p k x) w' o.counts (held_flow o) S)))
          (flow_or_shortage (held p k x) w')

  smallest_exists : HasFlow p → (low : ℕ) × Smallest p k low
  smallest_exists h =
      let (low, occurs, first) = find_least occurs? (h.counts k) (there h.counts h.flow) in
      (low, record { occurs = occurs; smallest = λ g c. first (g k) (there g c) })
    where
      there : (g : ℕ → ℕ) → Flow p g → Occurs p k (g k)
      there g c = record { counts = g; flow = c; there = refl }

  -- the largest is the least far from the arc's high
  largest_exists : HasFlow p → (high : ℕ) × Largest p k high
  largest_exists h =
      let (n, occurs, first) = find_least (λ n. occurs? (p.high k - n)) (p.high k - h.counts k) (there h.counts h.flow) in
      (p.high k - n, record { occurs = occurs; largest = λ g c. omega (arith, first (p.high k - g k) (there g c), c.within.most k l) })
    where
      there : (g : ℕ → ℕ) → Flow p g → Occurs p k (p.high k - (p.high k - g k))
      there g c = record { counts = g; flow = c; there = omega (arith, c.within.most k l) }

pub narrowed_exists : (p : Plan) → WellFormed p → HasFlow p → (k : ℕ) → k < p.arcs → (low : ℕ) × (high : ℕ) × Narrowed p k low high
narrowed_exists p w h k l =
    let (low, smallest) = smallest_exists p w k l h in
    let (high, largest) = largest_exists p w k l h in
    (low, high, record { low_end = smallest; high_end = largest })

-- ---- the first flow

-- a flow that is first from arc i on: no flow that agrees with it before an arc from there on has less on that arc
record FirstFrom (p : Plan) (i : ℕ) (f : ℕ → ℕ) : Type 0 where
  flow : Flow p f
  first : (g : ℕ → ℕ) → Flow p g → (m : ℕ) → i ≤ m → m < p.arcs → ((j : ℕ) → j < m → g j ≡ f j) → f m ≤ g m

-- a flow that is first after i in the plan with i held at its smallest count is first from i on in the plan itself
held_first : (p : Plan) (i : ℕ) (l : i < p.arcs) (x : ℕ) → Smallest p i x → (f : ℕ → ℕ)
    → FirstFrom (held p i x) (suc i) f → FirstFrom p i f
held_first p i l x s f c = record {
  flow = let (low, high) = occurs_in_range l s.occurs in held_wider p i l x low high c.flow;
  first = λ g flows m from l' same. ⊎_elim
      (λ e. rw (← e) (omega (arith, there, s.smallest g flows)))
      (λ after. c.first g (held_flow (record { counts = g; flow = flows; there = same i after ∙ there })) m after l' same)
      (eq-or-lt_of_le from);
}
  where
    there : f i ≡ x
    there = held_there p i l x c.flow

-- so hold one arc after another at its smallest count: a flow of what is left is first
first_from : (n i : ℕ) (p : Plan) → i + n ≡ p.arcs → WellFormed p → HasFlow p → (f : ℕ → ℕ) × FirstFrom p i f
first_from zero i p e w h = (h.counts, record { flow = h.flow; first = λ g c m from l. absurd (omega arith) })
first_from (suc n) i p e w h =
    let l : i < p.arcs = omega arith in
    let (x, s) = smallest_exists p w i l h in
    let (low, high) = occurs_in_range l s.occurs in
    let flows : HasFlow (held p i x) = record { counts = s.occurs.counts; flow = held_flow s.occurs } in
    let (f, c) = first_from n (suc i) (held p i x) (omega arith) (held_well_formed p i l x low high w) flows in
    (f, held_first p i l x s f c)

pub first_flow_exists : (p : Plan) → WellFormed p → HasFlow p → (f : ℕ → ℕ) × FirstFlow p f
first_flow_exists p w h =
    let (f, c) = first_from p.arcs 0 p (omega arith) w h in
    (f, record { flow = c.flow; first = λ g flows i. c.first g flows i (omega arith) })
