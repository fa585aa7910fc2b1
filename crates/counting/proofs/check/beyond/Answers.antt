-- What is left of the word past w is 0 or not.
use Rattle.counting.proofs.Words.{shifted_some}
use Rattle.counting.proofs.check.beyond.Goals as goal

pub returns : goal.returns
returns c = shifted_some c.args.word c.args.w
