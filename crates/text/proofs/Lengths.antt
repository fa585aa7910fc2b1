-- How long fields and lines are at most, by a bound of their numbers.
use Prim.Native.Nat.{ℕ, zero, suc, ◌+◌, ◌*◌, ◌^◌, ◌≤◌, ◌<◌}
use mathlib.Core.List.{List, [], ◌∷◌, ◌++◌}
use native.Mathlib.Omega.{arith}
use lib.ListN.{length, get_or, length-append}
use Rattle.text.specs.Words.{Text, line_feed}
use Rattle.text.specs.Decimal.{base}
use Rattle.text.specs.Texts.{field, fields, line}
use Rattle.text.proofs.Decimals.{decimal_short}
use Rattle.text.proofs.Printing.{texts_short}

-- numbers of at most d + 1 digits
abbrev pub Digits : (d : ℕ) → List ℕ → Type 0
Digits d [] = Unit {0}
Digits d (x ∷ numbers) = (x < base ^ suc d) × Digits d numbers

module _ (d : ℕ) where
  pub field_short : (x : ℕ) → x < base ^ suc d → length (field x) ≤ 2 + d
  field_short x small = omega (arith, decimal_short d x small)

  each : (numbers : List ℕ) → Digits d numbers → (i : ℕ) → i < length numbers → get_or numbers i 0 < base ^ suc d
  each [] small i l = absurd (omega arith)
  each (x ∷ numbers) small zero l = small.0
  each (x ∷ numbers) small (suc i) l = each numbers small.1 i (omega arith)

  pub fields_short : (numbers : List ℕ) → Digits d numbers → length (fields numbers) ≤ length numbers * (2 + d)
  fields_short numbers small = texts_short (λ i. field (get_or numbers i 0)) (2 + d) (length numbers)
      (λ i l. field_short (get_or numbers i 0) (each numbers small i l))

  pub line_short : (first : Text) (numbers : List ℕ) → Digits d numbers
      → length (line first numbers) ≤ length first + length numbers * (2 + d) + 1
  line_short first numbers small = omega (
    arith,
    length-append (first ++ fields numbers) (line_feed ∷ []),
    length-append first (fields numbers),
    fields_short numbers small,
  )
