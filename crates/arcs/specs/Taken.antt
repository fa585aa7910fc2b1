-- A list of arc structs as the flat list of document 01, and as it stands in a room of fixed length.
use Rattle.std.specs.Prelude.{ℕ, zero, suc, ◌+◌, ◌*◌, ◌≡◌, cond, List, [], ◌∷◌, ltb, length, get_or, set, replicate}
use Rattle.plan.specs.Limits.{most_arcs, arc_entries}
use Rattle.plan.specs.declared.Arc.{Arc}

-- four numbers for each arc, in order
abbrev pub flattened : List Arc → List ℕ
flattened [] = []
flattened (a ∷ arcs) = a.from ∷ a.to ∷ a.low ∷ a.high ∷ flattened arcs

-- how many arcs are taken: all, or one more than a plan may have
abbrev pub cut_at : ℕ → ℕ
cut_at count = cond (ltb most_arcs count) (most_arcs + 1) count

-- what is read past the list's end: nothing rests on it
abbrev pub no_arc : Arc
no_arc = record { from = 0; to = 0; low = 0; high = 0 }

-- a flat list with an arc written at place i
unfoldable pub placed : List ℕ → ℕ → Arc → List ℕ
placed flat i a =
    set (set (set (set flat (i * arc_entries) a.from) (i * arc_entries + 1) a.to) (i * arc_entries + 2) a.low) (i * arc_entries + 3) a.high

-- how many numbers there is room for
abbrev pub room : ℕ
room = (most_arcs + 1) * arc_entries

-- the room with the first n arcs of a list in it, and zeros
unfoldable pub taken_apart : List Arc → ℕ → List ℕ
taken_apart arcs zero = replicate room 0
taken_apart arcs (suc n) = placed (taken_apart arcs n) n (get_or arcs n no_arc)

-- what holds of the flat list of any arcs that these numbers were taken apart from, where so many arcs were lent
pub record OfArcs (flat : List ℕ) (count : ℕ) (P : List ℕ → Type 0) : Type 0 where
  pub of_arcs : (arcs : List Arc) → length arcs ≡ count → flat ≡ taken_apart arcs (cut_at count) → P (flattened arcs)
