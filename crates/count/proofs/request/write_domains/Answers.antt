-- Each word is the rule's, which is the new domain.
use Rattle.std.proofs.Common.{rules}
use Rattle.count.proofs.request.write_domains.Goals as goal

pub returns : goal.returns
returns c =
    let filled = c.write_first.ensures 0 in
    record { there = λ i l. let word = filled.there i l in search rules; past = filled.past }
