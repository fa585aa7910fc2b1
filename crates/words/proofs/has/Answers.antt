-- The bit is 1 exactly for a number of the set.
use Prim.Native.Nat.{ℕ}
use mathlib.Core.Path.{ap, ◌∙◌}
use lib.Dec.{eqb}
use Rattle.words.specs.Word.{holds}
use Rattle.words.proofs.Bits.{one_told}
use Rattle.words.proofs.has.Goals as goal

pub returns : goal.returns
returns c = ap (λ (x : ℕ). eqb x 1) c.bit.ensures.0 ∙ one_told (holds c.args.word c.args.y)
