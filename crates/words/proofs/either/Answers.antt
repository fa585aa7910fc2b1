-- The bits of two words joined are those of either.
use Rattle.words.proofs.Bits.{either_holds}
use Rattle.words.proofs.either.Goals as goal

pub returns : goal.returns
returns c = either_holds c.args.a c.args.b
