-- One push after the other; the rooms ahead are as they were, since no node comes twice.
use Prim.Native.Nat.{ℕ, ◌≤◌}
use Rattle.rooms.specs.Room.{side, at, seen}
use Rattle.ways.specs.Ways.{Ways}
use Rattle.engine.specs.Path.{Track, Moved}
use Rattle.engine.proofs.path.move_along.Given as goal

abbrev pub invariant-loop-i : goal.invariant-loop-i
invariant-loop-i l = record {
  ways : Ways l.rooms l.ways;
  moved : (n : ℕ) → n ≤ side → Track n (at l.path) l.depth → Moved n (seen l.initial.rooms l.back) (seen l.rooms l.back) (at l.path) l.i l.d;
}
