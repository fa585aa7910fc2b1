-- A plan that was read is not turned down.
use Rattle.listed.proofs.Listed.{not_refused}
use native.Mathlib.Omega.{arith}
use Rattle.listed.proofs.list.list_plan.Goals as goal

pub returns-in-Err-Refused : goal.returns-in-Err-Refused
returns-in-Err-Refused c =
    let w = c.requires.plan in
    absurd (not_refused w (omega (arith, w.arcs_fit)) (omega (arith, w.nodes_fit))
    (rw c.in-Err-Refused.field-0-is at c.in-Err-Refused.ensures))
