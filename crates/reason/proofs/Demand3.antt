-- Demand 3, for what is answered of an end that moved: no flow of a second plan with the same network that keeps every limit
-- marked at least as tight passes the narrowed end.
use Prim.Native.Nat.{ℕ, ◌≤◌}
use mathlib.Core.List.{List}
use Rattle.std.specs.Prelude.{Some, Ok}
use Rattle.rooms.specs.Room.{at}
use Rattle.plan.specs.Plan.{Plan, WellFormed}
use Rattle.plan.specs.Flow.{Flow}
use Rattle.plan.specs.Keeping.{SameNetwork, Keeps}
use Rattle.plan.proofs.Demand3.{keeps_alike, demand_3_low, demand_3_high}
use Rattle.reason.specs.Answer.{ReasonAnswers}
use Rattle.reason.proofs.Answering.{request_accepted}

module _ (p q : Plan) (arc : ℕ) {value : ℕ} {arcs nodes a n : List ℕ} where
  pub moved_low_outlives : ReasonAnswers p arc 0 arcs nodes a n (Ok (Some value)) → WellFormed q → SameNetwork p q
      → Keeps p q (at a) → (f : ℕ → ℕ) → Flow q f → value ≤ f arc
  moved_low_outlives x wq same kept =
      let cited = x.says.1 in
      demand_3_low p q wq same arc (request_accepted p arc 0 arcs nodes x.says.0).1.0 value cited.set cited.reason
      (keeps_alike cited.arc_marks.there kept)

  pub moved_high_outlives : ReasonAnswers p arc 1 arcs nodes a n (Ok (Some value)) → WellFormed q → SameNetwork p q
      → Keeps p q (at a) → (f : ℕ → ℕ) → Flow q f → f arc ≤ value
  moved_high_outlives x wq same kept =
      let cited = x.says.1 in
      demand_3_high p q wq same arc (request_accepted p arc 1 arcs nodes x.says.0).1.0 value cited.set cited.reason
      (keeps_alike cited.arc_marks.there kept)
