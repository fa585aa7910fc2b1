-- What a counting plan is turned down for.
use Rattle.std.specs.Prelude.{ℕ, ◌+◌, ◌*◌, ◌^◌, Bool, ◌||◌, List, [], ◌∷◌, leb, ltb, get_or}
use Rattle.plan.specs.Limits.{most_nodes, most_arcs, widest_high}
use Rattle.plan.specs.declared.Fault.TheVariants.{CountNodes, CountDomain, CountArcs, CountRange}
use Rattle.plan.specs.Verdict.{Rule, whole}
use Rattle.counting.specs.Counting.{Counting}

-- a word names a value at or above the value count
abbrev pub names_beyond : (domains : List ℕ) → (values : ℕ) → ℕ → Bool
names_beyond domains values i = leb (2 ^ values) (get_or domains i 0)

-- a count low above its high, or the high above 65,535
abbrev pub count_wrong : Counting → ℕ → Bool
count_wrong c j = ltb (c.high j) (c.low j) || ltb widest_high (c.high j)

-- 15, 16, 17 and 18: what the counting plan itself is turned down for
abbrev pub counting_rules : (domains : List ℕ) → Counting → List Rule
counting_rules domains c =
    whole CountNodes (ltb most_nodes (c.variables + c.values + 1))
    ∷ record { fault = CountDomain; places = c.variables; concerns = names_beyond domains c.values }
    ∷ whole CountArcs (ltb most_arcs (c.values * (c.variables + 1)))
    ∷ record { fault = CountRange; places = c.values; concerns = count_wrong c }
    ∷ []
