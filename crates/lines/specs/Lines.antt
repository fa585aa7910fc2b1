-- The lines of a listing, as document 01 lays them down.
use Rattle.std.specs.Prelude.{ℕ, cond, [], ◌∷◌, ◌++◌, eqb}
use Rattle.text.specs.Words.{Text, word, line_feed}
use Rattle.text.specs.Texts.{texts, field, fields, line}
use Rattle.plan.specs.Plan.{Set}
use Rattle.plan.specs.declared.Arc.{Arc}

-- two words, each with a number after it
abbrev pub pair_line : (first : Text) → (x : ℕ) → (second : Text) → (y : ℕ) → Text
pair_line first x second y = first ++ fields (x ∷ []) ++ line second (y ∷ [])

abbrev pub size_line : (nodes arcs : ℕ) → Text
size_line nodes arcs = pair_line (word "nodes") nodes (word " arcs") arcs

abbrev pub refused_line : (number index : ℕ) → Text
refused_line number index = pair_line (word "refused") number (word " at") index

-- an arc: its index, ends and range, its count in the first flow and its narrowed range
abbrev pub arc_line : (k : ℕ) → Arc → (count low high : ℕ) → Text
arc_line k arc count low high =
    line (word "arc") (k ∷ arc.from ∷ arc.to ∷ arc.low ∷ arc.high ∷ count ∷ low ∷ high ∷ [])

abbrev pub none_line : (shortfall : ℕ) → Text
none_line shortfall = line (word "none") (shortfall ∷ [])

-- the first n nodes that are in a set, rising
abbrev pub member : Set → (v : ℕ) → Text
member S v = cond (S v) (field v) []

abbrev pub set_line : (n : ℕ) → Set → Text
set_line n S = word "in" ++ texts n (member S) ++ (line_feed ∷ [])

-- an arc of which a bound is cited, the high by the mark 2 and the low by the mark 1; an arc not cited has no line
abbrev pub cited_line : (mark : ℕ) → (k : ℕ) → Arc → Text
cited_line mark k arc =
    cond (eqb mark 2) (pair_line (word "cites") k (word " high") arc.high)
    (cond (eqb mark 1) (pair_line (word "cites") k (word " low") arc.low) [])
