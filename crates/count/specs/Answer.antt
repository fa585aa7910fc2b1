-- What the two requests of a counting plan answer, and what they leave in the lent buffers.
use Rattle.std.specs.Prelude.{ℕ, ◌≤◌, ◌<◌, ◌≡◌, Bool, true, ◌||◌, List, [], ◌∷◌, ◌++◌, ◌↔◌, ltb, ℤ, length, Ok, Err}
use Rattle.rooms.specs.Room.{at}
use Rattle.plan.specs.Plan.{Set}
use Rattle.plan.specs.Shortage.{ShortBy}
use Rattle.plan.specs.declared.Fault.TheVariants.{Buffer}
use Rattle.plan.specs.declared.No.TheVariants.{Short, Refused}
use Rattle.plan.specs.Verdict.{verdict, whole, lists_short, Verdict, Accepted}
use Rattle.lists.specs.Written.{ArcsWritten, SuppliesWritten}
use Rattle.flow.specs.Answer.{Answer}
use Rattle.words.specs.Word.{holds}
use Rattle.counting.specs.Counting.{Counting, counting_of, Assignment, Taken, FewestUses, MostUses}
use Rattle.counting.specs.Network.{network}
use Rattle.counting.specs.Rules.{counting_rules}

-- 3 after them, where a lent buffer is too short for what the request may write
abbrev pub counting_verdict : (domains : List ℕ) → Counting → (short : Bool) → Verdict
counting_verdict domains c short = verdict (counting_rules domains c ++ (whole Buffer short ∷ []))

-- ---- the network, handed out

abbrev pub network_judged : (domains counts : List ℕ) → (supplies : List ℤ) → (arcs : List ℕ) → Verdict
network_judged domains counts supplies arcs =
    counting_verdict domains (counting_of domains counts) (lists_short (network (counting_of domains counts)) supplies arcs)

-- the network is written where the input is accepted, and nothing where it is turned down
abbrev pub Handed : Counting → (supplies : List ℤ) → (arcs : List ℕ) → (supplies' : List ℤ) → (arcs' : List ℕ) → Verdict → Type 0
Handed c supplies arcs supplies' arcs' (Ok u) =
    SuppliesWritten (network c) (network c).nodes supplies supplies' × ArcsWritten (network c) (network c).arcs arcs arcs'
Handed c supplies arcs supplies' arcs' (Err refusal) = (supplies' ≡ supplies) × (arcs' ≡ arcs)

pub record NetworkAnswers (domains counts : List ℕ) (supplies : List ℤ) (arcs : List ℕ) (supplies' : List ℤ) (arcs' : List ℕ) (answer : Verdict) : Type 0 where
  pub answer_is : network_judged domains counts supplies arcs ≡ answer
  pub handed : Handed (counting_of domains counts) supplies arcs supplies' arcs' answer

-- ---- the counting request

-- three lent buffers: a word for each variable, and a low and a high for each value
pub record Buffers : Type 0 where
  pub domains : List ℕ
  pub lows : List ℕ
  pub highs : List ℕ

abbrev pub buffers_short : Counting → Buffers → Bool
buffers_short c b =
    ltb (length b.domains) c.variables || (ltb (length b.lows) c.values || ltb (length b.highs) c.values)

abbrev pub judged : (domains counts : List ℕ) → Buffers → Verdict
judged domains counts b = counting_verdict domains (counting_of domains counts) (buffers_short (counting_of domains counts) b)

-- there is an assignment; a value stays in a variable's domain exactly if some assignment takes it; and each count range is
-- the least and the greatest count over all assignments
pub record Counted (c : Counting) (b b' : Buffers) : Type 0 where
  pub values : ℕ → ℕ
  pub assignment : Assignment c values
  pub domain : (i : ℕ) → i < c.variables → (j : ℕ) → (holds (at b'.domains i) j ≡ true) ↔ Taken c i j
  pub fewest : (j : ℕ) → j < c.values → FewestUses c j (at b'.lows j)
  pub most : (j : ℕ) → j < c.values → MostUses c j (at b'.highs j)
  pub domains_past : (i : ℕ) → c.variables ≤ i → at b'.domains i ≡ at b.domains i
  pub lows_past : (j : ℕ) → c.values ≤ j → at b'.lows j ≡ at b.lows j
  pub highs_past : (j : ℕ) → c.values ≤ j → at b'.highs j ≡ at b.highs j

-- where there is no assignment, by how much the network is short; then, and where the input is turned down, nothing is written
abbrev pub Says : (domains counts : List ℕ) → (b b' : Buffers) → Answer → Type 0
Says domains counts b b' (Ok u) = (judged domains counts b ≡ Accepted) × Counted (counting_of domains counts) b b'
Says domains counts b b' (Err (Short value)) =
    (judged domains counts b ≡ Accepted) × ((S : Set) × ShortBy (network (counting_of domains counts)) value S) × (b' ≡ b)
Says domains counts b b' (Err (Refused refusal)) = (judged domains counts b ≡ Err refusal) × (b' ≡ b)

pub record CountAnswers (domains counts : List ℕ) (b b' : Buffers) (answer : Answer) : Type 0 where
  pub says : Says domains counts b b' answer
  pub domains_length : length b'.domains ≡ length b.domains
  pub lows_length : length b'.lows ≡ length b.lows
  pub highs_length : length b'.highs ≡ length b.highs
