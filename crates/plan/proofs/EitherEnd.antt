-- What holds of either end of an arc, said once for the low and the high: one value is narrowed to, one set is the reason and
-- cites the same bounds, an end that has a reason is narrowed and moved, and a plan that is short has no narrowed end.
-- At the end stands that two sets of the same nodes cite the same bounds, for a "no" as for an end.
use Prim.Native.Nat.{ℕ, ◌<◌}
use mathlib.Core.Path.{◌≡◌}
use mathlib.Core.Bool.{Bool, true, false}
use native.Mathlib.Omega.{arith}
use lib.IntN.{ℤ}
use Rattle.plan.specs.Plan.{Plan, Set, WellFormed}
use Rattle.plan.specs.Flow.{Occurs}
use Rattle.plan.specs.Shortage.{ShortBy}
use Rattle.plan.specs.Reason.{allows, forces, own_end, NarrowedEnd, EndReason, no_marks, end_marks}
use Rattle.plan.proofs.Unique.{smallest_unique, largest_unique, reason_unique, short_or_flow}

module _ (p : Plan) (k : ℕ) where
  pub end_unique : (upper : Bool) (a b : ℕ) → NarrowedEnd p k upper a → NarrowedEnd p k upper b → a ≡ b
  end_unique false a b = smallest_unique
  end_unique true a b = largest_unique

  -- some flow has the value of a narrowed end
  pub end_occurs : (upper : Bool) (end : ℕ) → NarrowedEnd p k upper end → Occurs p k end
  end_occurs false end x = x.occurs
  end_occurs true end x = x.occurs

  -- a plan that is short has no flow, so no narrowed end
  pub end_or_short : WellFormed p → (upper : Bool) (end : ℕ) → NarrowedEnd p k upper end
      → {value : ℤ} {S : Set} → ShortBy p value S → ⊥
  end_or_short w upper end x short = short_or_flow w short (end_occurs upper end x).flow

  -- an end that has a reason is narrowed to its value
  pub reason_end : (upper : Bool) (end : ℕ) (S : Set) → EndReason p k upper end S → NarrowedEnd p k upper end
  reason_end false end S r = r.narrowed
  reason_end true end S r = r.narrowed

  -- and does not stand
  pub reason_moved : (upper : Bool) (end : ℕ) (S : Set) → EndReason p k upper end S → own_end p k upper ≡ end → ⊥
  reason_moved false end S r e = omega (arith, r.moved)
  reason_moved true end S r e = omega (arith, r.moved)

  pub end_set_unique : (upper : Bool) (a b : ℕ) (S R : Set) → EndReason p k upper a S → EndReason p k upper b R
      → (v : ℕ) → v < p.nodes → S v ≡ R v
  end_set_unique false a b S R x y =
      reason_unique p k (forces p k) a b S R (smallest_unique x.narrowed y.narrowed) x.set y.set
  end_set_unique true a b S R x y =
      reason_unique p k (allows p k) a b S R (largest_unique x.narrowed y.narrowed) x.set y.set

  -- what two sets of the same nodes cite is the same
  pub end_marks_alike : WellFormed p → (upper : Bool) (S R : Set) → ((v : ℕ) → v < p.nodes → S v ≡ R v)
      → (j : ℕ) → j < p.arcs → end_marks p k upper S j ≡ end_marks p k upper R j
  end_marks_alike w upper S R same j l = rw (same (p.from j) (w.from_node j l), same (p.to j) (w.to_node j l))

-- and so for a "no"
pub no_marks_alike : (p : Plan) → WellFormed p → (S R : Set) → ((v : ℕ) → v < p.nodes → S v ≡ R v)
    → (j : ℕ) → j < p.arcs → no_marks p S j ≡ no_marks p R j
no_marks_alike p w S R same j l = rw (same (p.from j) (w.from_node j l), same (p.to j) (w.to_node j l))
