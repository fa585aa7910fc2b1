-- Each entry is the rule's, which is the plan's supply.
use Rattle.std.proofs.Common.{pos, rules}
use Rattle.lists.proofs.Entries.{entries_follow}
use Rattle.reading.proofs.filling.fill_supplies.Goals as goal

pub returns : goal.returns
returns c = entries_follow (c.write_first.ensures (pos 0)) (λ v x l e. search rules)
