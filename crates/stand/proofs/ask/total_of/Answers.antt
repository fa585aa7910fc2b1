-- Each number is below 2^32 and there are at most 64, so the sum fits.
use Rattle.std.proofs.Common.{rules, arith, ◌≡◌, ◌∙◌, ap, pos, sum, ◌<◌, ◌^◌}
use mir.Syntax.{w64}
use mir.ValLaws.{to_z_pos}
use Rattle.stand.proofs.Asking.{total_small}
use Rattle.stand.proofs.ask.total_of.Goals as goal
use Rattle.stand.proofs.ask.total_of.Goals.{After-sum}

summed : (c : After-sum) → c.sum.result ≡ sum c.args.numbers.now
summed c = search rules

small : (c : After-sum) → c.sum.result < 2 ^ 63
small c = omega (arith, summed c, total_small c.args.numbers.now c.requires c.type_inv.numbers)

pub overflow_cast-result : goal.overflow_cast-result
overflow_cast-result c = omega (arith, small (goal.at.overflow_cast-result c).After-sum)

pub returns : goal.returns
returns c = to_z_pos w64 c.sum.result (small c) ∙ ap pos (summed c)
