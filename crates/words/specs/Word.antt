-- A word of 64 bits as a set of the numbers 0 to 63, nodes or values.
use Rattle.std.specs.Prelude.{ℕ, ◌/◌, ◌%◌, ◌^◌, ◌<◌, ◌≡◌, Bool, true, false, not, ◌&&◌, eqb, Option, None, Some}

-- how many numbers a word has room for
abbrev pub word_bits : ℕ
word_bits = 64

-- y is in the set that a word holds: its bit y is 1
abbrev pub holds : ℕ → ℕ → Bool
holds word y = eqb (word / 2 ^ y % 2) 1

-- the least number of a set, and the set without it
pub record SplitOf (word first rest : ℕ) : Type 0 where
  pub in_word : first < word_bits
  pub there : holds word first ≡ true
  pub none_before : (z : ℕ) → z < first → holds word z ≡ false
  pub rest_is : (z : ℕ) → holds rest z ≡ (holds word z && not (eqb z first))
  pub less : rest < word

-- the next number of a set, from the least on, and the set without it; or there is none, and the set is empty
abbrev pub NextOf : ℕ → Option ℕ → ℕ → Type 0
NextOf word None rest = (word ≡ 0) × (rest ≡ 0)
NextOf word (Some first) rest = SplitOf word first rest
