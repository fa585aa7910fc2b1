-- The loop writes one byte a turn.
use Prim.Native.Nat.{◌+◌, ◌*◌}
use mathlib.Core.Path.{◌≡◌, refl, ◌∙◌}
use lib.ListN.{length-set}
use Rattle.plan.specs.Plan.{meant}
use Rattle.format.specs.Format.{first_edition, check_at}
use Rattle.lists.proofs.Entries.{entries_on}
use Rattle.format.proofs.Places.{at_body}
use native.Mathlib.Omega.{arith}
use Rattle.writing.proofs.write_body.Goals as goal

pub loop-i-init : goal.loop-i-init
loop-i-init c = (omega arith, refl, λ before filled. filled)

pub bounds-file-b : goal.bounds-file-b
bounds-file-b c = omega (arith, c.loop-i.invariant.1, c.loop-i-test.true, c.requires.block.1)

pub loop-i-preserved : goal.loop-i-preserved
loop-i-preserved c =
    let a = c.args in
    let p = meant a.network in
    let i = c.loop-i.i in
    let inv = c.loop-i.invariant in
    let next : a.b * 512 + (i + 1) ≡ a.b * 512 + i + 1 = omega arith in (
      omega arith,
      length-set c.loop-i.file (a.b * 512 + i) c.body_byte.result ∙ inv.1,
      λ before filled. rw next (entries_on (omega (arith, inv.1, c.loop-i-test.true, c.requires.block.1)) (at_body first_edition p a.b i c.loop-i-test.true c.body_byte.ensures) (inv.2 before filled)),
    )

pub shape_of-file : goal.shape_of-file
shape_of-file c = c.loop-i.invariant.1

pub returns : goal.returns
returns c =
    let all : c.loop-i.i ≡ check_at = omega (arith, c.loop-i.invariant.0) in
    rw all at c.loop-i.invariant.2
