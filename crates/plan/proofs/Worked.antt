-- The plans that document 01 works by hand, as one table under one theorem: every row holds of its plan.
-- First the table, then what a row says, by the definitions of specs/ alone, then the theorem: each row is tried.
-- At the end stand two facts about citing that no plan of the table shows.
use Prim.Native.Nat.{ℕ, ◌<◌}
use mathlib.Core.Path.{◌≡◌}
use mathlib.Core.Bool.{Bool, true, false, cond, ◌&&◌, and-false}
use mathlib.Core.List.{List, [], ◌∷◌, ◌++◌, map}
use mathlib.Core.Logic.Dec
use mathlib.Core.Option.{Option, some, get, or_else, bind as ◌>>=◌}
use native.Mathlib.Omega.{arith}
use native.Mathlib.Decide.{ℕ_discrete, dec_lt}
use lib.Dec.{eqb}
use lib.ListN.{length, get_or}
use lib.IntN.{ℤ, pos, neg_ℤ}
use borrow.Author.Tests.{eq-eqb}
use Rattle.numbers.proofs.Parts.{whole, equalℤ}
use Rattle.plan.specs.Limits.{widest_low, widest_high}
use Rattle.plan.specs.Plan.{Plan, Set, WellFormed, plan_of}
use Rattle.plan.specs.Flow.{FirstFlow, Narrowed}
use Rattle.plan.specs.Shortage.{supplies, shortfall, ShortBy}
use Rattle.plan.specs.Reason.{forces, allows, LowReason, HighReason, high_is_news, low_is_news, mark, no_marks, low_marks, high_marks}
use Rattle.plan.proofs.Tried.{decided?, each?, well_formed?, first_flow?, shortage?, smallest?, largest?, low_reason?, high_reason?}

-- ---- the table

-- an end of a narrowed range stands, or it moved: then with the node marks and the arc marks of its reason
pub data End : Type 0 where
  stands : (count : ℕ) → End
  moved : (count : ℕ) (nodes arcs : List ℕ) → End

-- a narrowed range
infix 70 ◌upto◌
pub data Range : Type 0 where
  ◌upto◌ : (low high : End) → Range

-- a plan runs: its first flow, its ranges, and for the proof other flows that attain ends; or it is short, with the marks
pub data Answer : Type 0 where
  runs : (first : List ℕ) (others : List (List ℕ)) (ranges : List Range) → Answer
  short : (shortfall : ℕ) (nodes arcs : List ℕ) → Answer

-- a plan's two lists, and what is said of it
pub data Row : Type 0 where
  row : (supplies : List ℤ) (arcs : List ℕ) (answer : Answer) → Row

-- a negative supply, and an arc's four entries
abbrev neg : ℕ → ℤ
neg n = neg_ℤ (pos n)

abbrev arc : (from to low high : ℕ) → List ℕ
arc from to low high = from ∷ to ∷ low ∷ high ∷ []

-- a node's mark is 1 inside the set; an arc's is 1 where its low is cited, 2 where its high is
abbrev pub table : List Row
table =
    -- P1: supplies 5, 0, -5; arcs 0-1 0..4, 0-2 0..3, 1-2 0..9
    row (pos 5 ∷ pos 0 ∷ neg 5 ∷ []) (arc 0 1 0 4 ++ arc 0 2 0 3 ++ arc 1 2 0 9)
    (runs (2 ∷ 3 ∷ 2 ∷ []) ((4 ∷ 1 ∷ 4 ∷ []) ∷ [])
    (moved 2 (1 ∷ 0 ∷ 0 ∷ []) (0 ∷ 2 ∷ 0 ∷ []) upto stands 4
    ∷ moved 1 (1 ∷ 0 ∷ 0 ∷ []) (2 ∷ 0 ∷ 0 ∷ []) upto stands 3
    ∷ moved 2 (1 ∷ 1 ∷ 0 ∷ []) (0 ∷ 2 ∷ 0 ∷ []) upto moved 4 (0 ∷ 1 ∷ 0 ∷ []) (2 ∷ 0 ∷ 0 ∷ [])
    ∷ []))
    -- P2: P1 with arc 1 0..0: shortfall 1, set {0}, citing arcs 0 and 1 high
    ∷ row (pos 5 ∷ pos 0 ∷ neg 5 ∷ []) (arc 0 1 0 4 ++ arc 0 2 0 0 ++ arc 1 2 0 9) (short 1 (1 ∷ 0 ∷ 0 ∷ []) (2 ∷ 2 ∷ 0 ∷ []))
    -- P3: supplies 256, -256, arc 0-1 0..255: shortfall 1, set {0}
    ∷ row (pos 256 ∷ neg 256 ∷ []) (arc 0 1 0 255) (short 1 (1 ∷ 0 ∷ []) (2 ∷ []))
    -- P4: the same with 0..256: range 256..256
    ∷ row (pos 256 ∷ neg 256 ∷ []) (arc 0 1 0 256) (runs (256 ∷ []) [] (moved 256 (1 ∷ 0 ∷ []) (0 ∷ []) upto stands 256 ∷ []))
    -- P5: one node, self-loop 3..7: first flow 3, range 3..7, both ends stand
    ∷ row (pos 0 ∷ []) (arc 0 0 3 7) (runs (3 ∷ []) ((7 ∷ []) ∷ []) (stands 3 upto stands 7 ∷ []))
    -- P6: supplies 1, -1, no arcs: shortfall 1, set {0}, nothing cited
    ∷ row (pos 1 ∷ neg 1 ∷ []) [] (short 1 (1 ∷ 0 ∷ []) [])
    -- P8: supplies 0, 0, arc 0-1 1..2: shortfall 1, set {1}, citing its low
    ∷ row (pos 0 ∷ pos 0 ∷ []) (arc 0 1 1 2) (short 1 (0 ∷ 1 ∷ []) (1 ∷ []))
    -- P9: supplies 1, -1, two arcs 0-1 0..1: first flow 0, 1; both ranges 0..1
    ∷ row (pos 1 ∷ neg 1 ∷ []) (arc 0 1 0 1 ++ arc 0 1 0 1)
    (runs (0 ∷ 1 ∷ []) ((1 ∷ 0 ∷ []) ∷ []) (stands 0 upto stands 1 ∷ stands 0 upto stands 1 ∷ []))
    ∷ []

-- ---- what a row says, by the definitions of specs/ alone

-- an entry of a list, 0 past its end
abbrev pub entry : List ℕ → ℕ → ℕ
entry list i = get_or list i 0

-- the set of the nodes marked 1
abbrev pub marked : List ℕ → Set
marked marks v = eqb (entry marks v) 1

-- the count at an end
abbrev pub count : End → ℕ
count (stands x) = x
count (moved x nodes arcs) = x

-- what is said of a set, and the bounds that it cites: one mark for each node and for each arc
pub record Marks (p : Plan) (Says : Set → Type 0) (cited : Set → ℕ → ℕ) (nodes arcs : List ℕ) : Type 0 where
  pub each_node : length nodes ≡ p.nodes
  pub each_arc : length arcs ≡ p.arcs
  pub says : Says (marked nodes)
  pub cites : (j : ℕ) → j < p.arcs → cited (marked nodes) j ≡ entry arcs j

-- an end is the arc's own bound, or it has a reason
abbrev pub EndHolds : Plan → (own : ℕ) → (Reason : ℕ → Set → Type 0) → (cited : Set → ℕ → ℕ) → End → Type 0
EndHolds p own Reason cited (stands x) = x ≡ own
EndHolds p own Reason cited (moved x nodes arcs) = Marks p (Reason x) cited nodes arcs

-- the range is the narrowed one, and so for its two ends
abbrev pub RangeHolds : Plan → ℕ → Range → Type 0
RangeHolds p k (low upto high) =
    Narrowed p k (count low) (count high)
    × EndHolds p (p.low k) (LowReason p k) (low_marks p k) low
    × EndHolds p (p.high k) (HighReason p k) (high_marks p k) high

-- one count and one range for each arc: the first flow, and the narrowed ranges
pub record Runs (p : Plan) (first : List ℕ) (ranges : List Range) : Type 0 where
  pub each_count : length first ≡ p.arcs
  pub first_flow : FirstFlow p (entry first)
  pub each_range : length ranges ≡ p.arcs
  pub holds : (k : ℕ) → k < p.arcs → RangeHolds p k (get_or ranges k (stands 0 upto stands 0))

-- what an answer says of a plan, and a row of its own plan, which is well-formed
abbrev pub AnswerHolds : Plan → Answer → Type 0
AnswerHolds p (runs first others ranges) = Runs p first ranges
AnswerHolds p (short n nodes arcs) = Marks p (ShortBy p (pos n)) (no_marks p) nodes arcs

abbrev pub Holds : Row → Type 0
Holds (row supplies arcs answer) = WellFormed (plan_of arcs supplies) × AnswerHolds (plan_of arcs supplies) answer

-- ---- a row is tried

-- a set's marks, and what is said of it
abbrev marks? : {Says : Set → Type 0} (p : Plan) (cited : Set → ℕ → ℕ) (nodes arcs : List ℕ) → Option (Says (marked nodes))
    → Option (Marks p Says cited nodes arcs)
marks? p cited nodes arcs says? = do
  each_node ← decided? (ℕ_discrete (length nodes) p.nodes)
  each_arc ← decided? (ℕ_discrete (length arcs) p.arcs)
  says ← says?
  cites ← each? p.arcs (λ j l. decided? (ℕ_discrete (cited (marked nodes) j) (entry arcs j)))
  some (record { each_node = each_node; each_arc = each_arc; says = says; cites = cites })

-- an end stands at the arc's own bound, or it has its reason
abbrev end? : {Extreme : ℕ → Type 0} {Reason : ℕ → Set → Type 0} (p : Plan) (own : ℕ) (cited : Set → ℕ → ℕ)
    → ((x : ℕ) → Extreme x → (S : Set) → Option (Reason x S))
    → (e : End) → Extreme (count e) → Option (EndHolds p own Reason cited e)
end? p own cited reason? (stands x) extreme = decided? (ℕ_discrete x own)
end? p own cited reason? (moved x nodes arcs) extreme = marks? p cited nodes arcs (reason? x extreme (marked nodes))

module _ (p : Plan) (w : WellFormed p) where
  -- an arc's range, and an answer
  abbrev range? : (flows : List (ℕ → ℕ)) (k : ℕ) → k < p.arcs → (r : Range) → Option (RangeHolds p k r)
  range? flows k l (low upto high) = do
    smallest ← smallest? p w k l (count low) flows
    low_end ← end? p (p.low k) (low_marks p k) (low_reason? p w k l) low smallest
    largest ← largest? p w k l (count high) flows
    high_end ← end? p (p.high k) (high_marks p k) (high_reason? p w k l) high largest
    some (record { low_end = smallest; high_end = largest }, low_end, high_end)

  abbrev answer? : (answer : Answer) → Option (AnswerHolds p answer)
  answer? (runs first others ranges) = do
    each_count ← decided? (ℕ_discrete (length first) p.arcs)
    first_flow ← first_flow? p (entry first)
    each_range ← decided? (ℕ_discrete (length ranges) p.arcs)
    holds ← each? p.arcs (λ k l. range? (map entry (first ∷ others)) k l (get_or ranges k (stands 0 upto stands 0)))
    some (record { each_count = each_count; first_flow = first_flow; each_range = each_range; holds = holds })
  answer? (short n nodes arcs) = marks? p (no_marks p) nodes arcs (do
    positive ← decided? (dec_lt 0 n)
    value_is ← decided? (equalℤ (shortfall p (marked nodes)) (pos n))
    shortage ← shortage? p w (marked nodes)
    some (record { shortage = shortage; value_is = value_is; positive = omega (whole, positive) }))

-- a row, whole
abbrev row? : (r : Row) → Option (Holds r)
row? (row supplies arcs answer) = do
  well_formed ← well_formed? (plan_of arcs supplies)
  holds ← answer? (plan_of arcs supplies) well_formed answer
  some (well_formed, holds)

-- ---- the theorem

-- row i of the table
abbrev pub worked : ℕ → Row
worked i = get_or table i (row [] [] (short 0 [] []))

pub worked_plans : (i : ℕ) → i < length table → Holds (worked i)
unfolding ◌>>=◌ or_else ℕ_discrete dec_lt Dec.and supplies shortfall forces allows
worked_plans = get (each? (length table) (λ i l. row? (worked i))) tt

-- ---- what no worked plan shows

-- a choice between two numbers is no third
no_third : (t : Bool) (a b n : ℕ) → (a ≡ n → ⊥) → (b ≡ n → ⊥) → cond t a b ≡ n → ⊥
no_third true a b n not_a not_b = not_a
no_third false a b n not_a not_b = not_b

-- a bound at the widest end in a sum: it is not cited, whatever the sum uses and whatever the arc's other bound is
pub widest_low_uncited : (p : Plan) (high_used low_used : Set) (j : ℕ) → p.low j ≡ widest_low
    → mark p high_used low_used j ≡ 1 → ⊥
widest_low_uncited p high_used low_used j low =
    simp (eq-eqb (p.low j) widest_low low, and-false)
    (no_third (high_used j && high_is_news p j) 2 0 1 (λ e. omega arith) (λ e. omega arith))

pub widest_high_uncited : (p : Plan) (high_used low_used : Set) (j : ℕ) → p.high j ≡ widest_high
    → mark p high_used low_used j ≡ 2 → ⊥
widest_high_uncited p high_used low_used j high =
    simp (eq-eqb (p.high j) widest_high high, and-false)
    (no_third (low_used j && low_is_news p j) 1 0 2 (λ e. omega arith) (λ e. omega arith))
