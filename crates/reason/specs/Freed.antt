-- How much of an arc's width is free for one of its ends, and what that says of the end.
use Rattle.std.specs.Prelude.{ℕ, ◌+◌, ◌-◌, ◌≤◌, ◌<◌, Bool, cond}
use Rattle.plan.specs.Plan.{Plan, Set}
use Rattle.plan.specs.Reason.{NarrowedEnd, EndReason}

-- the low end lies so far below the high, the high end so far above the low; where not all is free, the set is its reason
pub record Freed (p : Plan) (k : ℕ) (upper : Bool) (free : ℕ) (S : Set) : Type 0 where
  pub fits : free ≤ p.high k - p.low k
  pub end : NarrowedEnd p k upper (cond upper (p.low k + free) (p.high k - free))
  pub reason : free < p.high k - p.low k → EndReason p k upper (cond upper (p.low k + free) (p.high k - free)) S
