-- A "no" marks as a low end that leaves out no arc.
use Prim.Native.Nat.{ℕ, ◌<◌}
use mathlib.Core.Path.{◌≡◌}
use mathlib.Core.Bool.{and-true}
use native.Mathlib.Omega.{arith}
use borrow.Author.Tests.{ne_eqb}
use Rattle.plan.specs.Plan.{Plan, Set}
use Rattle.plan.specs.Reason.{no_marks, low_marks}

-- a low end of an arc k leaves out no arc before k
pub low_marks_before : (p : Plan) (S : Set) (k j : ℕ) → j < k → low_marks p k S j ≡ no_marks p S j
low_marks_before p S k j l = rw (ne_eqb j k (λ same. omega arith), and-true)
