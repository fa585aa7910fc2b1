-- The entries of a list, one after another: nothing yet, then one entry more; and entries that are given leave one content.
use Prim.Native.Nat.{ℕ, ◌+◌, ◌≤◌, ◌<◌}
use mathlib.Core.Path.{◌≡◌, sym, ◌∙◌}
use mathlib.Core.List.{List}
use mathlib.Core.Logic.{by_cases}
use native.Mathlib.Omega.{arith}
use native.Mathlib.Decide.{dec_lt}
use lib.ListN.{length, get_or, set, length-set}
use lib.Seq.{ext_get_or, get_or-set_same, get_or-set_other}
use Rattle.lists.specs.Written.{EntriesHold, EntriesWritten}

-- two lists as long as a third, that agree before n and agree with it from there on
pub one_content : {A : Type 0} (other : A) (n : ℕ) (list a b : List A) → length a ≡ length list → length b ≡ length list
    → ((i : ℕ) → i < n → get_or a i other ≡ get_or b i other) → ((i : ℕ) → n ≤ i → get_or a i other ≡ get_or list i other)
    → ((i : ℕ) → n ≤ i → get_or b i other ≡ get_or list i other) → a ≡ b
one_content other n list a b la lb agree past past' = ext_get_or other a b (la ∙ sym lb) (λ i l. by_cases (dec_lt i n)
    (agree i)
    (λ no. past i (omega arith) ∙ sym (past' i (omega arith))))

module _ {A : Type 0} {other : A} where
  pub entries_none : {holds : ℕ → A → Type 0} {list : List A} → EntriesHold other holds 0 list list
  entries_none = grind arith

  pub entry_holds : {holds : ℕ → A → Type 0} {n : ℕ} {before list : List A} (x : A) → n < length list → holds n x
      → EntriesHold other holds n before list → EntriesHold other holds (n + 1) before (set list n x)
  entry_holds x room is h = grind (arith, length-set {A = A}, get_or-set_same, get_or-set_other)

  pub entries_on : {values : ℕ → A} {n : ℕ} {x : A} {before list : List A} → n < length list → x ≡ values n
      → EntriesWritten other values n before list → EntriesWritten other values (n + 1) before (set list n x)
  entries_on {values} {n} {x} = entry_holds x

  -- what follows from what holds of the entries holds of them
  pub entries_follow : {holds holds' : ℕ → A → Type 0} {n : ℕ} {before list : List A} → EntriesHold other holds n before list
      → ((i : ℕ) (x : A) → i < n → holds i x → holds' i x) → EntriesHold other holds' n before list
  entries_follow h follows = grind arith

  pub entries_unique : {values : ℕ → A} {n : ℕ} {list a b : List A}
      → EntriesWritten other values n list a → EntriesWritten other values n list b → a ≡ b
  entries_unique {n = n} {list} {a} {b} x y = one_content other n list a b x.same_length y.same_length
      (λ i l. x.there i l ∙ sym (y.there i l)) x.past y.past
