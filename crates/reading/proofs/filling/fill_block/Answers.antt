-- The payload part of the block is handed on to the decoder: its records are the block's arcs.
use Prim.Native.Nat.{◌-◌, ◌+◌, ◌*◌, ◌≤◌, min}
use mathlib.Core.Path.{◌≡◌}
use Rattle.format.specs.Format.{first_edition, arcs_in}
use Rattle.format.specs.Held.{held}
use Rattle.format.proofs.Places.{payload_records}
use native.Mathlib.Omega.{arith}
use Rattle.reading.proofs.filling.fill_block.Goals as goal

pub returns : goal.returns
returns c =
    λ before filled.
    let a = c.args in
    let count = c.arcs_in.result in
    let is : count ≡ arcs_in first_edition a.count a.b = c.arcs_in.ensures in
    let few : count ≤ 84 = omega (arith, is) in
    let all : (a.b - 1) * 84 + count ≡ min a.count (a.b * 84) = omega (arith, is, c.requires.block, c.requires.arcs) in
    let records = payload_records first_edition a.file.now a.b count c.requires.block.0 few (omega arith) (omega (arith, few)) in
    rw all at (c.decode.ensures (held first_edition a.file.now) before records filled)
