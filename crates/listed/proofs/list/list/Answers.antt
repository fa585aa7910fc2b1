-- The plan that was read fits the lists that were lent, and is the one that the file holds.
use mathlib.Core.Path.{sym}
use lib.Seq.{length-take-le}
use Rattle.listed.proofs.Fitting.{refused_fits}
use Rattle.file.proofs.Fitting.{nodes_fit, arcs_fit}
use Rattle.listed.proofs.Listed.{read_well_formed, read_listing, refused_listing}
use native.Mathlib.Omega.{arith}
use Rattle.std.proofs.lemmas.Grind.{common_steps}
use Rattle.listed.proofs.list.list.Goals as goal
use Rattle.listed.proofs.list.list.Goals.{in-Ok, in-Err}

pub slice_bounds-arcs-end : goal.slice_bounds-arcs-end
slice_bounds-arcs-end c = arcs_fit c.in-Ok.ensures

pub slice_bounds-network-end : goal.slice_bounds-network-end
slice_bounds-network-end c = sym (length-take-le _ _ (arcs_fit c.in-Ok.ensures))

pub slice_bounds-supplies-end : goal.slice_bounds-supplies-end
slice_bounds-supplies-end c = nodes_fit c.in-Ok.ensures

pub slice_bounds-network-end-in-Ok : goal.slice_bounds-network-end-in-Ok
slice_bounds-network-end-in-Ok c = sym (length-take-le _ _ (nodes_fit c.in-Ok.ensures))

pub list_plan-requires-clause-plan : goal.list_plan-requires-clause-plan
list_plan-requires-clause-plan c = read_well_formed (omega arith) (omega arith) c.in-Ok.ensures

pub print_refused-requires : goal.print_refused-requires
print_refused-requires c = grind (arith, common_steps, refused_fits)

pub returns : goal.returns
returns c = elim c.match-read.branch [
  | in-Ok w ↦
      let done = w.list_plan.ensures in
      rw w.page-is (record {
        text = done.text;
        meant = read_listing (omega arith) (omega arith) w.in-Ok.ensures done.meant;
        printed = done.printed.printed;
      })
  | in-Err w ↦
      rw w.page-is (record {
        text = _;
        meant = refused_listing (omega arith) (omega arith) w.in-Err.ensures;
        printed = rw (← w.number.ensures) w.print_refused.ensures.printed;
      })
]
