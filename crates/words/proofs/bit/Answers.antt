-- The bit that is shifted down is 1 or 0, as the set has y or not.
use Rattle.words.proofs.Bits.{bit_holds}
use native.Mathlib.Omega.{arith}
use Rattle.words.proofs.bit.Goals as goal

pub returns : goal.returns
returns c = (bit_holds c.args.word c.args.y, omega arith)
