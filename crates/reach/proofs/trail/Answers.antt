-- From a node of a level a step leads back to the level before: the path grows by it, down to the starts.
use mathlib.Core.Path.{◌≡◌, sym}
use lib.Seq.{get_or-set_same}
use lib.ListN.{length, length-set}
use Prim.Native.Nat.{ℕ, ◌+◌, ◌-◌, ◌<◌}
use Rattle.rooms.specs.Room.{at}
use Rattle.reach.proofs.Layering.{walk_on, walk_path, way_back}
use native.Mathlib.Omega.{arith}
use Rattle.reach.proofs.trail.Goals as goal

pub take_first-y-requires-in-loop-i : goal.take_first-y-requires-in-loop-i
take_first-y-requires-in-loop-i c =
    let w = c.loop-i.invariant in
    let same : c.loop-i.i - 1 + 1 ≡ c.loop-i.i = omega arith in
    let n = w.1.node c.loop-i.i (omega arith) (omega arith) in
    way_back c.requires.layers.1 c.requires.turned (c.loop-i.i - 1) c.loop-i.y c.both-from.result c.steps.result
    (omega arith) (rw w.0 n.0) (rw (same, w.0) n.1) c.steps.ensures.all c.both-from.ensures

pub loop-i-preserved : goal.loop-i-preserved
loop-i-preserved c =
    let w = c.loop-i.invariant in
    let l : c.loop-i.i - 1 < length c.loop-i.path = omega (arith, length-set {A = ℕ}) in (
      sym (get_or-set_same c.loop-i.path (c.loop-i.i - 1) c.take_first-y-in-loop-i.result.first 0 l),
      walk_on (at c.args.levels.now) c.loop-i.path c.loop-i.i (c.loop-i.i - 1) c.loop-i.y c.both-from.result c.steps.result c.take_first-y-in-loop-i.result.first
          (omega arith) w.1 w.0 (omega arith) l c.requires.turned c.steps.ensures.open c.both-from.ensures
          c.take_first-y-in-loop-i.ensures.in_word c.take_first-y-in-loop-i.ensures.there,
    )

pub returns : goal.returns
returns c =
    let none : c.loop-i.i ≡ 0 = omega arith in
    λ start s. walk_path (rw none at c.loop-i.invariant.1) s
