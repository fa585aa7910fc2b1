-- Texts one after another, and lines of fields.
use Rattle.std.specs.Prelude.{ℕ, zero, suc, List, [], ◌∷◌, ◌++◌, length, get_or}
use Rattle.text.specs.Words.{Text, space, line_feed}
use Rattle.text.specs.Decimal.{decimal}

-- the first n of a row of texts, one after another
unfoldable pub texts : (n : ℕ) → (of : ℕ → Text) → Text
texts zero of = []
texts (suc n) of = texts n of ++ of n

-- a space and a number
abbrev pub field : (x : ℕ) → Text
field x = space ∷ decimal x

abbrev pub fields : List ℕ → Text
fields numbers = texts (length numbers) (λ i. field (get_or numbers i 0))

-- a word, a field for each number, and a line feed
abbrev pub line : (first : Text) → (numbers : List ℕ) → Text
line first numbers = first ++ fields numbers ++ (line_feed ∷ [])
