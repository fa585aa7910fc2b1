-- Each rule that concerns no place gives way to the next.
use mathlib.Core.Path.{◌≡◌, sym, ap, ◌∙◌}
use lib.IntN.{ℤ, pos}
use mir.Syntax.{w64}
use mir.Val.{to_z, of_z, SFits}
use mir.Facts.{to_z-of_z}
use borrow.Author.Rules.{rules}
use Rattle.std.proofs.lemmas.Result.{err_from_is_err_and}
use Rattle.plan.specs.Plan.{meant}
use Rattle.plan.specs.Verdict.{end_wrong, range_wrong, supply_wrong}
use Rattle.network.proofs.Wrong.{end_refused, range_refused, supply_refused, supplies_small, sum_passes, sum_refused}
use Rattle.network.proofs.check_limits.Goals as goal

-- a signed number whose bits are 0 is 0
zero_bits : (z : ℤ) → SFits w64 z → of_z w64 z ≡ 0 → z ≡ pos 0
zero_bits z fits e = sym (to_z-of_z {w = w64} {z = z} fits) ∙ ap (to_z w64) e

pub returns-in_err-refuse : goal.returns-in_err-refuse
returns-in_err-refuse c =
    let p = meant c.args.network in
    let e = err_from_is_err_and c.from_residual.result c.from_residual.ensures.1 in
    rw (e.1, e.2) (end_refused p (rw c.size-size.ensures.1 at (c.in_err-refuse.ensures (end_wrong p) (λ k told l h. search rules))))

pub returns-in_err-refuse-2 : goal.returns-in_err-refuse-2
returns-in_err-refuse-2 c =
    let p = meant c.args.network in
    let e = err_from_is_err_and c.from_residual-in_err-refuse-2.result c.from_residual-in_err-refuse-2.ensures.1 in
    rw (e.1, e.2) (range_refused p c.in_ok-refuse.field-0 (rw c.size-size.ensures.1 at (c.in_ok-refuse.ensures (end_wrong p) (λ k told l h. search rules))) (rw c.size-size.ensures.1 at (c.in_err-refuse-2.ensures (range_wrong p) (λ k told l h. search rules))))

pub returns-in_err-refuse-3 : goal.returns-in_err-refuse-3
returns-in_err-refuse-3 c =
    let p = meant c.args.network in
    let e = err_from_is_err_and c.from_residual-in_err-refuse-3.result c.from_residual-in_err-refuse-3.ensures.1 in
    rw (e.1, e.2) (supply_refused p c.in_ok-refuse.field-0 (rw c.size-size.ensures.1 at (c.in_ok-refuse.ensures (end_wrong p) (λ k told l h. search rules))) c.in_ok-refuse-2.field-0 (rw c.size-size.ensures.1 at (c.in_ok-refuse-2.ensures (range_wrong p) (λ k told l h. search rules))) (rw c.size-size.ensures.0 at (c.in_err-refuse-3.ensures (supply_wrong p) (λ k told l h. search rules))))

pub sum_of-requires-clause-small : goal.sum_of-requires-clause-small
sum_of-requires-clause-small c =
    let p = meant c.args.network in
    supplies_small p c.in_ok-refuse.field-0 (rw c.size-size.ensures.1 at (c.in_ok-refuse.ensures (end_wrong p) (λ k told l h. search rules))) c.in_ok-refuse-2.field-0 (rw c.size-size.ensures.1 at (c.in_ok-refuse-2.ensures (range_wrong p) (λ k told l h. search rules))) c.in_ok-refuse-3.field-0 (rw c.size-size.ensures.0 at (c.in_ok-refuse-3.ensures (supply_wrong p) (λ k told l h. search rules)))

pub returns-then-sum_of-ne0 : goal.returns-then-sum_of-ne0
returns-then-sum_of-ne0 c =
    let p = meant c.args.network in
    rw c.whole.ensures (sum_refused p c.in_ok-refuse.field-0 (rw c.size-size.ensures.1 at (c.in_ok-refuse.ensures (end_wrong p) (λ k told l h. search rules))) c.in_ok-refuse-2.field-0 (rw c.size-size.ensures.1 at (c.in_ok-refuse-2.ensures (range_wrong p) (λ k told l h. search rules))) c.in_ok-refuse-3.field-0 (rw c.size-size.ensures.0 at (c.in_ok-refuse-3.ensures (supply_wrong p) (λ k told l h. search rules))) (λ e. c.if-sum_of-ne0.true (ap (of_z w64) (c.sum_of.ensures ∙ e))))

pub returns : goal.returns
returns c =
    let p = meant c.args.network in
    sum_passes p c.in_ok-refuse.field-0 (rw c.size-size.ensures.1 at (c.in_ok-refuse.ensures (end_wrong p) (λ k told l h. search rules))) c.in_ok-refuse-2.field-0 (rw c.size-size.ensures.1 at (c.in_ok-refuse-2.ensures (range_wrong p) (λ k told l h. search rules))) c.in_ok-refuse-3.field-0 (rw c.size-size.ensures.0 at (c.in_ok-refuse-3.ensures (supply_wrong p) (λ k told l h. search rules))) (sym c.sum_of.ensures ∙ zero_bits c.sum_of.result (record { sfits = c.sum_of.type_inv }) c.if-sum_of-ne0.false)
