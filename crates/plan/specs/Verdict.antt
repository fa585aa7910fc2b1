-- What is turned down, and for which fault: rules in the order in which they are looked at. A rule has a fault, how many
-- places it looks at, and a test of the places that it concerns; its fault goes with the lowest place concerned.
use Rattle.std.specs.Prelude.{ℕ, zero, suc, ◌/◌, ◌≤◌, ◌<◌, ◌≡◌, Bool, true, false, cond, ◌||◌, not, List, [], ◌∷◌, ◌++◌, leb, ltb, eqb, ℤ, nat_abs, length, Result, Ok, Err}
use Rattle.numbers.specs.Sums.{sumℤ}
use Rattle.plan.specs.Limits.{most_nodes, most_arcs, most_supply, widest_high, arc_entries}
use Rattle.plan.specs.Plan.{Plan, Set}
use Rattle.plan.specs.declared.Fault.{Fault}
use Rattle.plan.specs.declared.Fault.TheVariants.{Nodes, Arcs, Buffer, ArcEnd, ArcRange, Supply, SupplySum, Missing, FileLength, FileCheck, FileLabel, FileContent, CountNodes, CountDomain, CountArcs, CountRange}
use Rattle.plan.specs.declared.Refusal.{Refusal}

-- document 01's number of each fault
abbrev pub number_of : Fault → ℕ
number_of Nodes = 1
number_of Arcs = 2
number_of Buffer = 3
number_of ArcEnd = 4
number_of ArcRange = 5
number_of Supply = 6
number_of SupplySum = 7
number_of Missing = 8
number_of FileLength = 11
number_of FileCheck = 12
number_of FileLabel = 13
number_of FileContent = 14
number_of CountNodes = 15
number_of CountDomain = 16
number_of CountArcs = 17
number_of CountRange = 18

-- what is said of an input
abbrev pub Verdict : Type 0
Verdict = Result Unit Refusal

abbrev pub Accepted : Verdict
Accepted = Ok tt

abbrev pub Refused : Fault → ℕ → Verdict
Refused fault place = Err (record { fault = fault; place = place })

pub record Rule : Type 0 where
  pub fault : Fault
  pub places : ℕ
  pub concerns : ℕ → Bool

-- an index that is the lowest of the first n places concerned, or n where none is
pub record Lowest (concerns : ℕ → Bool) (n index : ℕ) : Type 0 where
  pub within : index ≤ n
  pub before : (i : ℕ) → i < index → concerns i ≡ false
  pub there : index < n → concerns index ≡ true

-- the fault with the lowest of the first n places that are concerned; where none is, what comes after
abbrev pub lowest : (fault : Fault) → (concerns : ℕ → Bool) → ℕ → Verdict → Verdict
lowest fault concerns zero after = after
lowest fault concerns (suc n) after = lowest fault concerns n (cond (concerns n) (Refused fault n) after)

-- the first rule that concerns a place gives its fault
abbrev pub verdict : List Rule → Verdict
verdict [] = Accepted
verdict (r ∷ rules) = lowest r.fault r.concerns r.places (verdict rules)

-- the number of a verdict, 0 where nothing is turned down; and the place that goes with it, or 0
abbrev pub verdict_number : Verdict → ℕ
verdict_number (Ok u) = 0
verdict_number (Err refusal) = number_of refusal.fault

abbrev pub verdict_place : Verdict → ℕ
verdict_place (Ok u) = 0
verdict_place (Err refusal) = refusal.place

-- a fault that concerns no place: its index is 0
abbrev pub whole : Fault → Bool → Rule
whole fault wrong = record { fault = fault; places = 1; concerns = λ i. wrong }

-- 1 and 2: the counts
abbrev pub count_rules : Plan → List Rule
count_rules p =
    whole Nodes (eqb p.nodes 0 || ltb most_nodes p.nodes)
    ∷ whole Arcs (ltb most_arcs p.arcs)
    ∷ []

-- an arc's end is not below the node count
abbrev pub end_wrong : Plan → Set
end_wrong p k = leb p.nodes (p.from k) || leb p.nodes (p.to k)

-- low above high, or high above 65,535
abbrev pub range_wrong : Plan → Set
range_wrong p k = ltb (p.high k) (p.low k) || ltb widest_high (p.high k)

-- a supply beyond its limits
abbrev pub supply_wrong : Plan → Set
supply_wrong p v = ltb most_supply (nat_abs (p.supply v))

-- supplies do not sum to 0
abbrev pub sum_wrong : Plan → Bool
sum_wrong p = not (eqb (nat_abs (sumℤ p.nodes p.supply)) 0)

-- 4 to 7: arcs' ends, arcs' ranges, supplies, and the supplies' sum
abbrev pub limit_rules : Plan → List Rule
limit_rules p =
    record { fault = ArcEnd; places = p.arcs; concerns = end_wrong p }
    ∷ record { fault = ArcRange; places = p.arcs; concerns = range_wrong p }
    ∷ record { fault = Supply; places = p.nodes; concerns = supply_wrong p }
    ∷ whole SupplySum (sum_wrong p)
    ∷ []

-- 1 to 7 for a network; 3 is given where a lent buffer is too short for what the request may write
abbrev pub network_rules : Plan → (short : Bool) → List Rule
network_rules p short = count_rules p ++ (whole Buffer short ∷ limit_rules p)

-- 8 after them, for a request about something that may be missing
abbrev pub asking_rules : Plan → (short missing : Bool) → List Rule
asking_rules p short missing = network_rules p short ++ (whole Missing missing ∷ [])

-- of two lent buffers, of which m entries and n entries are asked, one is too short
abbrev pub lent_short : (first : List ℕ) → ℕ → (second : List ℕ) → ℕ → Bool
lent_short first m second n = ltb (length first) m || ltb (length second) n

-- of two lent lists that a plan is to be written to, one is too short: a supply for each node, four numbers for each arc
abbrev pub lists_short : Plan → (supplies : List ℤ) → (arcs : List ℕ) → Bool
lists_short p supplies arcs = ltb (length supplies) p.nodes || ltb (length arcs / arc_entries) p.arcs
