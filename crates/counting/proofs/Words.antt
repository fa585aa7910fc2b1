-- Domains as words: which words name a value at or past the value count.
use Prim.Native.Nat.{ℕ, zero, suc, ◌+◌, ◌/◌, ◌%◌, ◌^◌, ◌≤◌}
use mathlib.Core.Path.{◌≡◌, sym, ◌∙◌}
use mathlib.Core.Bool.{true, true≢false}
use mathlib.Core.List.{List}
use mathlib.Core.Logic.{by_cases, ◌↔◌}
use native.Mathlib.Omega.{arith}
use native.Mathlib.Decide.{dec_lt, ℕ_discrete}
use native.Mathlib.Nat.{one-le-pow, le-div_iff_mul-le, div-eq_of_lt}
use lib.Dec.{leb, ltb}
use lib.ListN.{get_or}
use borrow.Author.Tests.{ltb-true, lt-ltb, le-leb, lt-leb, eq-eqb}
use Rattle.words.specs.Word.{holds}
use Rattle.words.proofs.Bits.{holds_shifted, holds_half, holds_last, past_holds}
use Rattle.counting.specs.Rules.{names_beyond}

-- a word shifted past w is 0 exactly if it is below 2 ^ w
pub shifted_some : (word w : ℕ) → ltb 0 (word / 2 ^ w) ≡ leb (2 ^ w) word
shifted_some word w = by_cases (dec_lt word (2 ^ w))
    (λ below. rw (lt-leb (2 ^ w) word below, div-eq_of_lt below))
    (λ no. let some : 1 ≤ word / 2 ^ w = (le-div_iff_mul-le {k = 2 ^ w} {x = 1} {y = word} (one-le-pow w 2 (omega arith))).1 (omega arith) in
    rw (le-leb (2 ^ w) word (omega arith)) (lt-ltb 0 (word / 2 ^ w) some))

-- ---- rule 16: a word names a value at or past w exactly if it is at least 2 ^ w

some_bit : (most word : ℕ) → word ≤ most → 1 ≤ word → (j : ℕ) × (holds word j ≡ true)
some_bit zero word l some = absurd (omega arith)
some_bit (suc most) word l some = by_cases (ℕ_discrete (word % 2) 1)
    (λ one. (0, holds_last word ∙ eq-eqb (word % 2) 1 one))
    (λ no. let (j, there) = some_bit most (word / 2) (omega arith) (omega arith) in (suc j, holds_half word j ∙ there))

pub names_beyond_exactly : (domains : List ℕ) (w i : ℕ)
    → (names_beyond domains w i ≡ true) ↔ ((j : ℕ) × (w ≤ j) × (holds (get_or domains i 0) j ≡ true))
names_beyond_exactly domains w i = (
  λ e. let (j, there) = some_bit (word / 2 ^ w) (word / 2 ^ w) (omega arith) (ltb-true 0 (word / 2 ^ w) (shifted_some word w ∙ e)) in
      (w + j, omega arith, holds_shifted word w j ∙ there),
  λ named. named_beyond named.0 named.1 named.2,
)
  where
    word : ℕ
    word = get_or domains i 0

    named_beyond : (j : ℕ) → w ≤ j → holds word j ≡ true → leb (2 ^ w) word ≡ true
    named_beyond j l there = by_cases (dec_lt word (2 ^ w))
        (λ small. absurd (true≢false (sym there ∙ past_holds w word j small l)))
        (λ no. le-leb (2 ^ w) word (omega arith))
