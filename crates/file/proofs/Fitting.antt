-- A plan that was read fits the lists that it was read into: else number 3 would have been given.
use Prim.Native.Nat.{ℕ, ◌*◌, ◌≤◌}
use mathlib.Core.List.{List}
use native.Mathlib.Omega.{arith}
use lib.IntN.{ℤ}
use lib.ListN.{length}
use Rattle.std.specs.Prelude.{Ok}
use Rattle.plan.specs.Limits.{arc_entries}
use Rattle.plan.specs.declared.Plan.{Plan}
use Rattle.plan.specs.Verdict.{lists_short}
use Rattle.plan.proofs.Checked.{lists_fit}
use Rattle.format.specs.Format.{Edition}
use Rattle.format.specs.Held.{held}
use Rattle.blocks.proofs.Accepted.{reading_accepted}
use Rattle.file.specs.Answer.{ReadAnswers}

module _ {e : Edition} {file : List ℕ} {supplies supplies' : List ℤ} {arcs arcs' : List ℕ} {size : Plan}
    (said : ReadAnswers e file supplies supplies' arcs arcs' (Ok size)) where
  fits : ((held e file).nodes ≤ length supplies) × ((held e file).arcs * arc_entries ≤ length arcs)
  fits = lists_fit (held e file) supplies arcs
      (reading_accepted e file (lists_short (held e file) supplies arcs) said.says.0).1

  pub nodes_fit : size.nodes ≤ length supplies'
  nodes_fit = omega (arith, said.says.1, said.says.3.same_length, fits.0)

  pub arcs_fit : size.arcs * arc_entries ≤ length arcs'
  arcs_fit = omega (arith, said.says.2, said.says.4.same_length, fits.1)
