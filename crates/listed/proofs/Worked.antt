-- Document 01 gives the listings of P1 and P2 whole. By the definitions they are what it gives.
use Prim.Native.Nat.{ℕ}
use mathlib.Core.Path.{refl}
use mathlib.Core.List.{List, [], ◌∷◌, ◌++◌}
use mathlib.Core.Logic.{inl, inr}
use native.Mathlib.Omega.{arith}
use lib.ListN.{get_or}
use Rattle.text.specs.Words.{Text, word, line_feed}
use Rattle.text.specs.Decimal.{places, decimal}
use Rattle.text.specs.Texts.{texts}
use Rattle.plan.specs.Plan.{Plan, plan_of}
use Rattle.plan.specs.Flow.{Narrowed}
use Rattle.plan.proofs.Worked.{Range, ◌upto◌, stands, runs, short, Row, row, count, entry, marked, RangeHolds}
use Rattle.plan.proofs.Worked.{worked, worked_plans}
use Rattle.listed.specs.Listing.{PlanListing}

-- lines, each ended by a line feed
abbrev ended : List Text → Text
ended [] = []
ended (line ∷ lines) = line ++ (line_feed ∷ ended lines)

-- the plan of a row, the range of an arc of it, and the two counts of a range
abbrev plan_in : Row → Plan
plan_in (row supplies arcs answer) = plan_of arcs supplies

abbrev range_in : Row → ℕ → Range
range_in (row supplies arcs (runs first others ranges)) k = get_or ranges k (stands 0 upto stands 0)
range_in (row supplies arcs (short shortfall nodes marks)) k = stands 0 upto stands 0

abbrev lower : Range → ℕ
lower (low upto high) = count low

abbrev upper : Range → ℕ
upper (low upto high) = count high

narrowed_is : (p : Plan) (k : ℕ) (r : Range) → RangeHolds p k r → Narrowed p k (lower r) (upper r)
narrowed_is p k (low upto high) holds = holds.0

-- P1 is row 0 of the table, P2 row 1
pub worked_listings :
    PlanListing (plan_in (worked 0)) (ended (
    word "nodes 3 arcs 3"
    ∷ word "arc 0 0 1 0 4 2 2 4"
    ∷ word "arc 1 0 2 0 3 3 1 3"
    ∷ word "arc 2 1 2 0 9 2 2 4"
    ∷ []))
    × PlanListing (plan_in (worked 1)) (ended (
    word "nodes 3 arcs 3"
    ∷ word "none 1"
    ∷ word "in 0"
    ∷ word "cites 0 high 4"
    ∷ word "cites 1 high 0"
    ∷ []))
unfolding texts decimal places
worked_listings = (
  inl (record {
    counts = entry (2 ∷ 3 ∷ 2 ∷ []);
    lows = λ k. lower (range_in (worked 0) k);
    highs = λ k. upper (range_in (worked 0) k);
    first = (worked_plans 0 (omega arith)).1.first_flow;
    narrowed = λ k l. narrowed_is (plan_in (worked 0)) k (range_in (worked 0) k) ((worked_plans 0 (omega arith)).1.holds k l);
    text_is = refl;
  }),
  inr (record {
    shortfall = 1;
    set = marked (1 ∷ 0 ∷ 0 ∷ []);
    short = (worked_plans 1 (omega arith)).1.says;
    text_is = refl;
  }),
)
