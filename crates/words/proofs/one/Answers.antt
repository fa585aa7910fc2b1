-- 1 shifted by y loses no bit, and has bit y alone.
use Prim.Native.Nat.{ℕ}
use mathlib.Core.Path.{ap, ◌∙◌}
use lib.Pow.{shl_exact}
use Rattle.words.specs.Word.{holds}
use Rattle.words.proofs.Bits.{one_holds}
use native.Mathlib.Omega.{arith}
use Rattle.words.proofs.one.Goals as goal

pub returns : goal.returns
returns c = λ z. ap (λ (x : ℕ). holds x z) (shl_exact 1 c.args.y 64 (omega arith) (omega arith)) ∙ one_holds c.args.y z
