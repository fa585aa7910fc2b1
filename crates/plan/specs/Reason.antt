-- Reasons: what a set allows or forces on an arc, the reason for a moved end, and the bounds that a reason cites.
use Rattle.std.specs.Prelude.{ℕ, ◌≤◌, ◌<◌, ◌≡◌, Bool, true, false, cond, not, ◌&&◌, ◌⊎◌, eqb, ℤ, pos, ◌+ℤ◌, ◌-ℤ◌, ◌≤ℤ◌}
use Rattle.plan.specs.Limits.{widest_low, widest_high}
use Rattle.plan.specs.Plan.{Plan, Set}
use Rattle.plan.specs.Flow.{total, Smallest, Largest}
use Rattle.plan.specs.Shortage.{leaves, enters, supplies, Inside}

-- the arc k runs from inside the set to outside
pub record Separates (p : Plan) (k : ℕ) (S : Set) : Type 0 where
  pub from_inside : S (p.from k) ≡ true
  pub to_outside : S (p.to k) ≡ false

-- the arcs of a set other than k
abbrev pub others : ℕ → Set → Set
others k A j = A j && not (eqb j k)

-- at most the supplies of S, plus the highs of arcs entering S, minus the lows of the other arcs leaving S
unfoldable pub allows : Plan → ℕ → Set → ℤ
allows p k S = supplies p S +ℤ pos (total p p.high (enters p S)) -ℤ pos (total p p.low (others k (leaves p S)))

-- at least the supplies of S, minus the highs of the other arcs leaving S, plus the lows of arcs entering S
unfoldable pub forces : Plan → ℕ → Set → ℤ
forces p k S = supplies p S -ℤ pos (total p p.high (others k (leaves p S))) +ℤ pos (total p p.low (enters p S))

-- x is the greater of k's own low and the greatest number that is forced
pub record GreatestForced (p : Plan) (k x : ℕ) : Type 0 where
  pub own : p.low k ≤ x
  pub every : (S : Set) → Separates p k S → forces p k S ≤ℤ pos x
  pub one : (x ≡ p.low k) ⊎ ((S : Set) × Separates p k S × (forces p k S ≡ pos x))

-- x is the lesser of k's own high and the least number that is allowed
pub record LeastAllowed (p : Plan) (k x : ℕ) : Type 0 where
  pub own : x ≤ p.high k
  pub every : (S : Set) → Separates p k S → pos x ≤ℤ allows p k S
  pub one : (x ≡ p.high k) ⊎ ((S : Set) × Separates p k S × (allows p k S ≡ pos x))

-- the set of a reason: its sum gives the narrowed value, and among equals it is the one contained in all the others
pub record ReasonSet (p : Plan) (k : ℕ) (sum : Set → ℤ) (value : ℕ) (S : Set) : Type 0 where
  pub separates : Separates p k S
  pub gives : sum S ≡ pos value
  pub least : (R : Set) → Separates p k R → sum R ≡ pos value → Inside p S R

-- the reason for a low end that moved
pub record LowReason (p : Plan) (k low : ℕ) (S : Set) : Type 0 where
  pub narrowed : Smallest p k low
  pub moved : p.low k < low
  pub set : ReasonSet p k (forces p k) low S

-- the reason for a high end that moved
pub record HighReason (p : Plan) (k high : ℕ) (S : Set) : Type 0 where
  pub narrowed : Largest p k high
  pub moved : high < p.high k
  pub set : ReasonSet p k (allows p k) high S

-- a bound at the widest range's own end is no news: every network has it
abbrev pub high_is_news : Plan → Set
high_is_news p j = not (eqb (p.high j) widest_high)

abbrev pub low_is_news : Plan → Set
low_is_news p j = not (eqb (p.low j) widest_low)

-- the mark of an arc, for a sum that uses the highs of the one arc set and the lows of the other: 2 high cited, 1 low cited, 0 not cited
abbrev pub mark : Plan → (high_used low_used : Set) → ℕ → ℕ
mark p high_used low_used j =
    cond (high_used j && high_is_news p j) 2 (cond (low_used j && low_is_news p j) 1 0)

-- cited are exactly the bounds in the sum used: by a "no", by a moved low end, by a moved high end
abbrev pub no_marks : Plan → Set → ℕ → ℕ
no_marks p S = mark p (leaves p S) (enters p S)

abbrev pub low_marks : Plan → ℕ → Set → ℕ → ℕ
low_marks p k S = mark p (others k (leaves p S)) (enters p S)

abbrev pub high_marks : Plan → ℕ → Set → ℕ → ℕ
high_marks p k S = mark p (enters p S) (others k (leaves p S))

-- ---- either end of an arc: the low one, or the high one where `upper` holds

abbrev pub own_end : Plan → ℕ → (upper : Bool) → ℕ
own_end p k upper = cond upper (p.high k) (p.low k)

abbrev pub NarrowedEnd : Plan → ℕ → (upper : Bool) → ℕ → Type 0
NarrowedEnd p k false value = Smallest p k value
NarrowedEnd p k true value = Largest p k value

abbrev pub EndReason : Plan → ℕ → (upper : Bool) → ℕ → Set → Type 0
EndReason p k false value S = LowReason p k value S
EndReason p k true value S = HighReason p k value S

abbrev pub end_marks : Plan → ℕ → (upper : Bool) → Set → ℕ → ℕ
end_marks p k upper S j = cond upper (high_marks p k S j) (low_marks p k S j)
