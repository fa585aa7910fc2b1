-- What the second set has is taken out of the first.
use Rattle.words.proofs.Bits.{but_holds}
use native.Mathlib.Omega.{arith}
use Rattle.words.proofs.but.Goals as goal

pub returns : goal.returns
returns c = λ z. but_holds 64 c.args.a c.args.b z (omega arith) (omega arith)
