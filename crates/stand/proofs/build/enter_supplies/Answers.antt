-- A turn writes one node's two parts.
use mathlib.Core.Path.{◌≡◌, ◌∙◌}
use native.Mathlib.Omega.{arith}
use native.Mathlib.Numerals.{add-one}
use lib.IntN.{ℤ, pos}
use lib.ListN.{get_or, length-set}
use mir.Syntax.{w32}
use mir.Val.{SFits}
use Rattle.numbers.specs.Parts.{plus, minus}
use Rattle.std.proofs.Common.{rules}
use Rattle.stand.proofs.Building.{has_is, lacks_is, written_more}
use Rattle.stand.proofs.build.enter_supplies.Goals as goal

pub loop-v-preserved : goal.loop-v-preserved
loop-v-preserved c =
    let head = c.loop-v in
    let supply : ℤ = get_or c.args.supplies.now head.v (pos 0) in
    let fits : SFits w32 supply = search rules in
    let over : c.unsigned_abs.result ≡ plus supply = has_is fits (record { sfits = c.max.type_inv }) c.max.ensures.value c.unsigned_abs.ensures.value in
    let under : c.unsigned_abs-in-loop-v.result ≡ minus supply =
    lacks_is fits (record { sfits = c.min.type_inv }) c.min.ensures.value c.unsigned_abs-in-loop-v.ensures.value in
    rw (over, under, add-one) (
      length-set head.over head.v _ ∙ head.invariant.0,
      length-set head.under head.v _ ∙ head.invariant.1,
      written_more (omega arith) head.invariant.2,
      written_more (omega arith) head.invariant.3,
    )
