-- The search finds where the last step can start, and the step to b is put after the path; or there is no such place.
use mathlib.Core.Bool.{not}
use Rattle.std.proofs.lemmas.Result.{err_from_is_err_and}
use Rattle.ways.specs.Ways.{leads}
use Rattle.reach.proofs.Layering.{met_there}
use Rattle.across.proofs.Rounds.{way_none, way_found}
use native.Mathlib.Omega.{arith}
use Rattle.across.proofs.round.way_round.Goals as goal

pub returns-in_err-found-clause-none : goal.returns-in_err-found-clause-none
returns-in_err-found-clause-none c =
    let a = c.args in
    let nodes = c.requires.nodes in
    let s = c.in_err-found.ensures.sought in
    let p = err_from_is_err_and c.from_residual.result c.from_residual.ensures.1 in
    rw (p.1, p.2) (way_none (leads a.desk.now.ways.now a.back) (leads a.desk.now.ways.now (not a.back)) a.a a.b c.one-start.result
    c.but-goal.result nodes.0 nodes.1 nodes.2 c.requires.turned c.one-start.ensures (rw c.word_at.ensures.0 at c.but-goal.ensures)
    _ s.all_reached s.clear)

pub returns-clause-found : goal.returns-clause-found
returns-clause-found c =
    let a = c.args in
    let nodes = c.requires.nodes in
    let f = c.in_ok-found.found in
    let s = c.in_ok-found.ensures.sought in
    let l = s.layered in (
      way_found (leads a.desk.now.ways.now a.back) (leads a.desk.now.ways.now (not a.back)) a.a a.b c.one-start.result
          c.but-goal.result nodes.0 nodes.1 nodes.2 c.requires.turned c.one-start.ensures
          (rw c.word_at.ensures.0 at c.but-goal.ensures) _ c.trail.new.path f.depth f.met
          (c.trail.ensures c.one-start.result l.layers) (λ y h. (met_there l y h).1) s.none_before
          (omega (arith, l.depth_fits, c.requires.whole.2, c.trail.auto.path)),
      omega (arith, l.depth_fits),
    )
