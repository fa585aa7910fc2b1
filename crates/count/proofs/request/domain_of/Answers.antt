-- One bit more stands.
use Rattle.count.proofs.Built.{test_number, built_on}
use Rattle.count.proofs.request.domain_of.Goals as goal

pub loop-j-preserved : goal.loop-j-preserved
loop-j-preserved c = rw (c.from.ensures, test_number) (built_on c.loop-j-test.true c.loop-j.auto.j c.loop-j.invariant)
