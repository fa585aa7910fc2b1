-- Demand 3, for what the flow question answers: a second plan with the same network that keeps every limit marked by a "no" at
-- least as tight has no flow either, so it is answered with a "no" too.
use Prim.Native.Nat.{ℕ, ◌≤◌}
use mathlib.Core.Path.{◌≡◌}
use mathlib.Core.List.{List}
use lib.IntN.{ℤ}
use lib.ListN.{length}
use Rattle.std.specs.Prelude.{Err}
use Rattle.numbers.proofs.Parts.{whole}
use Rattle.rooms.specs.Room.{at}
use Rattle.plan.specs.Plan.{Plan, WellFormed}
use Rattle.plan.specs.Flow.{Flow}
use Rattle.plan.specs.Keeping.{SameNetwork, Keeps}
use Rattle.plan.proofs.Demand3.{keeps_alike, demand_3_no}
use Rattle.plan.specs.declared.No.TheVariants.{Short}
use Rattle.flow.specs.Answer.{Answer, number, FlowAnswers}
use Rattle.flow.proofs.Unique.{no_exactly_if_no_flow}

module _ (p q : Plan) {arcs nodes a n : List ℕ} {value : ℤ} (x : FlowAnswers p arcs nodes a n (Err (Short value))) where
  pub no_outlives : WellFormed q → SameNetwork p q → Keeps p q (at a) → (f : ℕ → ℕ) → Flow q f → ⊥
  no_outlives wq same kept =
      let lack = x.says.1 in
      demand_3_no p q wq same lack.set (omega (whole, lack.short.value_is, lack.short.positive))
      (keeps_alike lack.arc_marks.there kept)

  -- asked with long enough buffers, the second plan is answered with a "no"
  pub no_stays_no : WellFormed q → SameNetwork p q → Keeps p q (at a) → {arcs₂ nodes₂ a₂ n₂ : List ℕ}
      → q.arcs ≤ length arcs₂ → q.nodes ≤ length nodes₂ → (r : Answer) → FlowAnswers q arcs₂ nodes₂ a₂ n₂ r → number r ≡ 9
  no_stays_no wq same kept {arcs₂} {nodes₂} arcs_long nodes_long r y =
      (no_exactly_if_no_flow q arcs₂ nodes₂ wq arcs_long nodes_long r y).1 (no_outlives wq same kept)
