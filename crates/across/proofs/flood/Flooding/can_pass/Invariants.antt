-- What stays is less with each node that takes some.
use Prim.Native.Nat.{◌≤◌}
use Rattle.across.proofs.flood.Flooding.can_pass.Given as goal

abbrev pub invariant-loop-y : goal.invariant-loop-y
invariant-loop-y l = l.stays ≤ l.most
