-- One push after the other; the rooms ahead are as they were, since no node comes twice.
use mathlib.Core.Path.{◌≡◌}
use Rattle.engine.proofs.Moving.{moved_more}
use native.Mathlib.Omega.{arith}
use Rattle.engine.proofs.path.move_along.Goals as goal

pub loop-i-preserved : goal.loop-i-preserved
loop-i-preserved c = record {
  ways = c.push.ensures.ways;
  moved = λ n few t. moved_more few t (omega arith) (c.loop-i.invariant.moved n few t) c.push.ensures.pushed;
}

pub returns-clause-moved : goal.returns-clause-moved
returns-clause-moved c =
    let full : c.loop-i.i ≡ c.args.depth = omega arith in
    rw full at c.loop-i.invariant.moved
