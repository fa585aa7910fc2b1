-- Each new level has nodes that were not reached yet, so there are at most as many levels as nodes.
use Prim.Native.Nat.{ℕ, ◌+◌, ◌<◌}
use lib.ListN.{length, length-set}
use mathlib.Core.Path.{subst}
use native.Mathlib.Omega.{arith}
use Rattle.rooms.specs.Room.{side, at}
use Rattle.ways.specs.Ways.{leads}
use Rattle.reach.specs.Search.{Missed}
use Rattle.reach.proofs.Layering.{seek_more, seek_end, seek_met, seek_short, last_next}
use Rattle.reach.proofs.search.Goals as goal
use Rattle.reach.proofs.search.Goals.{Else-front-eq0}

pub returns-clause-sought : goal.returns-clause-sought
returns-clause-sought c = seek_met c.loop-met.invariant.0 c.both-met.result c.both-met.ensures c.if-met-gt0.true

-- by the value of the level that is said, so that a wrong level alone is refused
pub returns-then-front-eq0-clause-sought : goal.returns-then-front-eq0-clause-sought
returns-then-front-eq0-clause-sought c = subst (λ d. Missed (leads c.args.ways.now c.args.back) c.args.u c.args.v c.args.start c.args.goal (at c.loop-met.levels) d c.loop-met.reached) (omega arith)
    (seek_end c.loop-met.invariant.0 c.both-met.result c.both-met.ensures c.if-met-gt0.false c.widen.ensures c.but-front.result c.but-front.ensures c.if-front-eq0.true)

short : (c : Else-front-eq0) → c.loop-met.depth < side
short c = seek_short c.loop-met.invariant.0 c.both-met.result c.both-met.ensures c.if-met-gt0.false c.widen.ensures c.but-front.result c.but-front.ensures (omega arith) c.if-front-eq0.false

pub overflow_add-depth : goal.overflow_add-depth
overflow_add-depth c = record { fits = omega (arith, short (goal.at.overflow_add-depth c).Else-front-eq0) }

pub offset_bounds-levels-depth : goal.offset_bounds-levels-depth
offset_bounds-levels-depth c = record { fits = omega (arith, short (goal.at.offset_bounds-levels-depth c).Else-front-eq0) }

pub bounds-levels-depth : goal.bounds-levels-depth
bounds-levels-depth c = omega (arith, short (goal.at.bounds-levels-depth c).Else-front-eq0, length-set {A = ℕ})

pub loop-met-smaller : goal.loop-met-smaller
loop-met-smaller c = omega (arith, short (goal.at.loop-met-smaller c).Else-front-eq0)

pub loop-met-preserved : goal.loop-met-preserved
loop-met-preserved c =
    let l : c.loop-met.depth + 1 < length c.loop-met.levels = omega (arith, short (goal.at.loop-met-preserved c).Else-front-eq0, length-set {A = ℕ}) in (
      seek_more c.loop-met.invariant.0 c.both-met.result c.both-met.ensures c.if-met-gt0.false c.widen.ensures c.but-front.result c.but-front.ensures (omega arith)
          c.if-front-eq0.false c.either-reached.result c.either-reached.ensures l,
      last_next c.loop-met.levels c.loop-met.invariant.1 c.if-front-eq0.false c.either-reached.ensures l,
    )
