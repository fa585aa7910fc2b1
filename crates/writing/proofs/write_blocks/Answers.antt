-- Block after block of the network's file stands.
use Prim.Native.Nat.{◌+◌, ◌*◌}
use mathlib.Core.Path.{◌≡◌, refl, ◌∙◌}
use Rattle.plan.specs.Plan.{meant}
use Rattle.lists.proofs.Entries.{entries_none}
use native.Mathlib.Omega.{arith}
use Rattle.writing.proofs.write_blocks.Goals as goal

pub loop-b-init : goal.loop-b-init
loop-b-init c = (omega arith, refl, entries_none)

pub loop-b-preserved : goal.loop-b-preserved
loop-b-preserved c =
    let a = c.args in
    let inv = c.loop-b.invariant in (
      omega arith,
      c.write_check.auto.file ∙ c.write_body.auto.file ∙ inv.1,
      c.write_check.ensures (meant a.network) a.file.now (c.write_body.ensures a.file.now inv.2),
    )

pub returns : goal.returns
returns c =
    let all : c.loop-b.b * 512 + 0 ≡ c.args.count * 512 = omega (arith, c.loop-b.invariant.0) in
    rw all at c.loop-b.invariant.2
