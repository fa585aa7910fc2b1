-- Each entry is the rule's, which is the network's supply.
use Rattle.std.proofs.Common.{pos, rules}
use Rattle.lists.proofs.Entries.{entries_follow}
use Rattle.drawing.proofs.draw_supplies.Goals as goal

pub returns : goal.returns
returns c = λ c' ev ew. rw (ev, ew) (entries_follow (c.write_first.ensures (pos 0)) (λ i x l p. search rules))
