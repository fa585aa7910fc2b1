-- The arcs before i are held at the counts written so far, and the plan with them held stands ready.
use Rattle.ways.proofs.Desks.{lent_on}
use Rattle.first_flow.proofs.Firsts.{first_begins, first_well_formed, first_goes_on, first_ends}
use Rattle.rooms.specs.Room.{at}
use lib.ListN.{length-set}
use mathlib.Core.Path.{refl, ◌∙◌}
use Prim.Native.Nat.{◌≤◌}
use native.Mathlib.Omega.{arith}
use Rattle.first_flow.proofs.first_flow.Goals as goal

pub loop-i-init : goal.loop-i-init
loop-i-init c = (refl, c.requires.desk, λ p listed w y. first_begins y, record { rooms_length = refl; ways_length = refl; same_rooms = refl; same_ways = refl })

pub loop-i-preserved : goal.loop-i-preserved
loop-i-preserved c =
    let inv = c.loop-i.invariant in (
      length-set c.loop-i.counts c.loop-i.i c.fix.result ∙ inv.0,
      c.fix.ensures.desk,
      λ p listed w y.
          let so_far = inv.2 p listed w y in
          let few : c.loop-i.i ≤ p.arcs = omega (arith, c.size-i-end.ensures.1, listed.arcs_are) in
          let found = c.fix.ensures.fixed p (at c.loop-i.counts) (record { listed = listed; well_formed = first_well_formed w few so_far; ready = so_far.ready }) in
          first_goes_on w few so_far c.fix.result (omega (arith, inv.0, c.requires.whole)) found.0 found.1,
      lent_on inv.3 c.fix.ensures.lent,
    )

pub returns-clause-first : goal.returns-clause-first
returns-clause-first c = λ p listed w y. first_ends w (omega (arith, c.size-i-end.ensures.1, listed.arcs_are)) (c.loop-i.invariant.2 p listed w y)
