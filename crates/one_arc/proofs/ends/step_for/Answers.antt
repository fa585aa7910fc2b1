-- A self-loop's end stands, and so does that of an arc whose room is as wide; else some is brought round and the room is wider, or
-- the end lies where the room ends.
use mathlib.Core.Path.{◌≡◌, refl, sym}
use mathlib.Core.Bool.{false}
use native.Mathlib.Omega.{arith}
use lib.ListN.{length}
use Rattle.rooms.specs.Room.{seen}
use Rattle.plan.specs.Plan.{meant}
use Rattle.stand.proofs.Desks.{still_desk}
use Rattle.one_arc.specs.Standing.{Standing}
use Rattle.one_arc.proofs.OneArc.{there_whole, there_stuck, standing_from, standing_to, own_standing, facing_wide, facing_end, facing_stands}
use Rattle.one_arc.proofs.ends.step_for.Goals as goal
use Rattle.one_arc.proofs.ends.step_for.Goals.{After-arc-arc, Else-from-to}

-- the arc in the numbers that the code has
standing : (c : After-arc-arc)
    → let arc = c.arc-arc.result in
    Standing (meant c.args.network) c.args.k (length c.args.network.supplies.now) arc.from arc.to arc.low arc.high
    (seen c.args.desk.now.rooms.now false)
standing c =
    let ready = c.requires.ready in
    rw c.arc-arc.ensures (own_standing {p = meant c.args.network} {k = c.args.k} ready.plan c.requires.arc ready.ready)

apart : (c : Else-from-to) → c.arc-arc.result.to ≡ c.arc-arc.result.from → ⊥
apart c e = c.if-from-to.false (sym e)

pub returns-then-from-to-clause-stands : goal.returns-then-from-to-clause-stands
returns-then-from-to-clause-stands c =
    let st = standing (goal.at.returns-then-from-to-clause-stands c).After-arc-arc in
    let whole = there_whole (standing_from st) (standing_to st) (λ e. refl) (λ ne. absurd (ne (sym c.if-from-to.true))) (omega arith) in
    λ e. facing_stands c.args.desk.now.rooms.now st c.args.upper {S = λ v. false} whole refl

pub returns-then-width-there-clause-stands : goal.returns-then-width-there-clause-stands
returns-then-width-there-clause-stands c =
    let st = standing (goal.at.returns-then-width-there-clause-stands c).After-arc-arc in
    let whole = there_whole (standing_from st) (standing_to st) (λ e. refl)
    (λ ne. omega (arith, c.room-there.ensures, c.if-width-there.true)) (omega arith) in
    λ e. facing_stands c.args.desk.now.rooms.now st c.args.upper {S = λ v. false} whole refl

pub advance-requires-clause-most : goal.advance-requires-clause-most
advance-requires-clause-most c =
    let st = standing (goal.at.advance-requires-clause-most c).After-arc-arc in
    let ne = apart (goal.at.advance-requires-clause-most c).Else-from-to in
    let wide = facing_wide c.args.desk.now.rooms.now st c.args.upper ne in
    (omega (arith, c.if-width-there.false), omega (arith, wide, c.room-there.ensures))

pub returns-in-Ok-clause-ready : goal.returns-in-Ok-clause-ready
returns-in-Ok-clause-ready c = still_desk c.requires.ready c.args.upper c.advance.ensures.desk c.advance.ensures.round.still

pub returns-in-Err-clause-moved : goal.returns-in-Err-clause-moved
returns-in-Err-clause-moved c =
    let st = standing (goal.at.returns-in-Err-clause-moved c).After-arc-arc in
    let ne = apart (goal.at.returns-in-Err-clause-moved c).Else-from-to in
    let stuck = there_stuck (standing_from st) (standing_to st) (λ e. absurd (ne e))
    (λ o. omega (arith, c.room-there.ensures, c.if-width-there.false)) (omega (arith, c.if-width-there.false)) (c.in-Err.ensures.round.stuck refl) in
    λ end e.
    let is : c.end_at.result ≡ end = cc in
    rw (← is, c.end_at.ensures) (facing_end c.args.desk.now.rooms.now st c.args.upper stuck)

pub returns-in-Err-clause-ready : goal.returns-in-Err-clause-ready
returns-in-Err-clause-ready c = still_desk c.requires.ready c.args.upper c.advance.ensures.desk c.advance.ensures.round.still
