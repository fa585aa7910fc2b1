-- The rules 1 and 2 come first, then 3; where they pass, the verdict is that of 4 to 7.
use mathlib.Core.Path.{sym, ◌∙◌}
use Rattle.std.proofs.lemmas.Result.{err_from_is_err_and}
use Rattle.plan.specs.Plan.{meant}
use Rattle.network.proofs.Wrong.{counts_turn_down, short_turns_down, few_nodes, limits_decide}
use Rattle.network.proofs.check.Goals as goal

pub returns-in_err-check_counts : goal.returns-in_err-check_counts
returns-in_err-check_counts c =
    let p = meant c.args.network in
    let size = c.size-size.ensures in
    let e = err_from_is_err_and c.from_residual.result c.from_residual.ensures.1 in
    rw (e.1, e.2) (counts_turn_down p c.args.short (c.check_counts.ensures p (sym size.0) (sym size.1)) c.in_err-check_counts.was)

pub returns-then-short : goal.returns-then-short
returns-then-short c =
    let p = meant c.args.network in
    let size = c.size-size.ensures in
    rw c.whole.ensures (short_turns_down p c.args.short (c.check_counts.ensures p (sym size.0) (sym size.1)) c.in_ok-check_counts.was c.if-short.true)

pub check_limits-requires : goal.check_limits-requires
check_limits-requires c =
    let p = meant c.args.network in
    let size = c.size-size.ensures in
    few_nodes p c.args.short (c.check_counts.ensures p (sym size.0) (sym size.1)) c.in_ok-check_counts.was

pub returns : goal.returns
returns c =
    let p = meant c.args.network in
    let size = c.size-size.ensures in
    c.check_limits.ensures ∙ limits_decide p c.args.short (c.check_counts.ensures p (sym size.0) (sym size.1)) c.in_ok-check_counts.was c.if-short.false
