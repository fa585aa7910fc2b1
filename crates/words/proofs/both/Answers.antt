-- The bits of two words met are those of both.
use Rattle.words.proofs.Bits.{both_holds}
use Rattle.words.proofs.both.Goals as goal

pub returns : goal.returns
returns c = both_holds c.args.a c.args.b
