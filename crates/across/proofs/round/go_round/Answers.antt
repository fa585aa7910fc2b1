-- There is a way round, and some is turned along it, or the levels that led there are flooded; or there is none, and the set that
-- was reached is tight.
use Rattle.std.proofs.lemmas.Result.{err_from_is_err_and}
use native.Mathlib.Omega.{arith}
use Rattle.across.proofs.Rounds.{none_went, round_of}
use Rattle.across.proofs.round.go_round.Goals as goal

pub returns-in_err-depth-clause-round : goal.returns-in_err-depth-clause-round
returns-in_err-depth-clause-round c =
    let p = err_from_is_err_and c.from_residual.result c.from_residual.ensures.1 in
    rw (p.1, p.2) (none_went c.args.back c.requires.desk c.requires.nodes.0 c.requires.nodes.1 c.in_err-depth.ensures.none)

pub turn-requires-clause-path : goal.turn-requires-clause-path
turn-requires-clause-path c =
    let way = c.in_ok-depth.ensures.found in
    (omega (arith, way.1, c.way_round.auto.path), round_of c.args.back c.requires.desk c.requires.nodes.0 way.0)
