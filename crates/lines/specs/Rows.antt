-- The lines by the lists that the code has: arcs as a flat list, and an entry of each other list for each arc or node. Internal.
use Rattle.std.specs.Prelude.{ℕ, ◌/◌, List, eqb, length, get_or}
use Rattle.text.specs.Words.{Text}
use Rattle.text.specs.Texts.{texts}
use Rattle.plan.specs.Limits.{arc_entries}
use Rattle.plan.specs.Plan.{Set}
use Rattle.plan.specs.Plan.{arc_in}
use Rattle.lines.specs.Lines.{arc_line, cited_line}

-- the nodes that are marked 1
abbrev pub marked : List ℕ → Set
marked marks v = eqb (get_or marks v 0) 1

abbrev pub arc_row : (arcs counts lows highs : List ℕ) → (k : ℕ) → Text
arc_row arcs counts lows highs k = arc_line k (arc_in arcs k) (get_or counts k 0) (get_or lows k 0) (get_or highs k 0)

abbrev pub arc_rows : (arcs counts lows highs : List ℕ) → Text
arc_rows arcs counts lows highs = texts (length arcs / arc_entries) (arc_row arcs counts lows highs)

abbrev pub cited_row : (arcs marks : List ℕ) → (k : ℕ) → Text
cited_row arcs marks k = cited_line (get_or marks k 0) k (arc_in arcs k)

abbrev pub cited_rows : (arcs marks : List ℕ) → Text
cited_rows arcs marks = texts (length arcs / arc_entries) (cited_row arcs marks)
