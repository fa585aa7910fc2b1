-- What is written to a buffer: numbers that agree are written alike, and leave one content.
use Prim.Native.Nat.{ℕ, ◌<◌}
use mathlib.Core.Path.{◌≡◌, sym, ◌∙◌}
use mathlib.Core.List.{List}
use lib.ListN.{length}
use Rattle.lists.specs.Written.{Written, EntriesHold, EntriesWritten}
use Rattle.lists.proofs.Entries.{one_content, entries_follow}

-- what was written one entry after another
pub written : {values : ℕ → ℕ} {n : ℕ} {buffer buffer' : List ℕ} → EntriesWritten 0 values n buffer buffer' → Written values n buffer buffer'
written w = record { there = w.there; past = w.past }

-- what was written by a rule that gives these numbers
pub written_by : {holds : ℕ → ℕ → Type 0} {values : ℕ → ℕ} {n : ℕ} {buffer buffer' : List ℕ}
    → EntriesHold 0 holds n buffer buffer' → ((i x : ℕ) → i < n → holds i x → x ≡ values i) → Written values n buffer buffer'
written_by h gives = written (entries_follow h gives)

-- numbers that agree below n are written alike
pub written_alike : {values values' : ℕ → ℕ} {n : ℕ} {buffer buffer' : List ℕ} → ((i : ℕ) → i < n → values i ≡ values' i)
    → Written values n buffer buffer' → Written values' n buffer buffer'
written_alike agree w = record { there = λ i l. w.there i l ∙ agree i l; past = w.past }

-- so numbers that agree below n leave one content
pub written_unique : {values values' : ℕ → ℕ} {n : ℕ} {buffer a b : List ℕ} → length a ≡ length buffer → length b ≡ length buffer
    → ((i : ℕ) → i < n → values i ≡ values' i) → Written values n buffer a → Written values' n buffer b → a ≡ b
written_unique {n = n} {buffer} {a} {b} la lb agree x y = one_content 0 n buffer a b la lb
    (λ i l. x.there i l ∙ agree i l ∙ sym (y.there i l)) x.past y.past
