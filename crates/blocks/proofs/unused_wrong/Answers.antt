-- No byte passed is other than 0.
use mathlib.Core.Path.{sym}
use mathlib.Core.Bool.{◌&&◌, not}
use lib.Dec.{leb, eqb}
use borrow.Author.Rules.{rules}
use borrow.Author.Count.{below_more}
use Rattle.format.specs.Format.{check_at}
use Rattle.format.specs.Held.{byte}
use Rattle.blocks.proofs.Any.{any_none, any_some}
use Rattle.blocks.proofs.Wrong.{unused_before, unused_found, unused_zero}
use Rattle.blocks.proofs.unused_wrong.Goals as goal

pub loop-i-init : goal.loop-i-init
loop-i-init c = λ j l. unused_before c.args.end j (byte c.args.file.now c.args.b j) l

pub returns-then-file-b-ne0 : goal.returns-then-file-b-ne0
returns-then-file-b-ne0 c =
    let a = c.args in
    let i = c.loop-i.i in
    sym (any_some check_at (λ j. leb a.end j && not (eqb (byte a.file.now a.b j) 0)) i (search rules) (unused_found a.end i (byte a.file.now a.b i) (search rules) c.if-file-b-ne0.true))

pub loop-i-preserved : goal.loop-i-preserved
loop-i-preserved c =
    let a = c.args in
    let i = c.loop-i.i in
    below_more _ _ c.loop-i.invariant (unused_zero a.end i (byte a.file.now a.b i) c.if-file-b-ne0.false)

pub returns : goal.returns
returns c =
    let a = c.args in
    sym (any_none check_at (λ j. leb a.end j && not (eqb (byte a.file.now a.b j) 0)) (λ j l. c.loop-i.invariant j (search rules)))
