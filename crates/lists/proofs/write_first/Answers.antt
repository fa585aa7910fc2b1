-- One entry more is what the rule gives, and at the end all of them are.
use Rattle.std.proofs.Common.{◌≡◌, arith}
use Rattle.lists.proofs.Entries.{entry_holds}
use Rattle.lists.proofs.write_first.Goals as goal

pub loop-i-preserved : goal.loop-i-preserved
loop-i-preserved g c = λ other. entry_holds _ (omega arith) c.entry.ensures (c.loop-i.invariant other)

pub returns : goal.returns
returns g c =
    let full : c.loop-i.i ≡ c.args.n = omega arith in
    λ other. rw full at (c.loop-i.invariant other)
