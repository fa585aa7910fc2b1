-- The listing of a plan file, whole: of the plan that it holds the first flow and the narrowed ranges, or the shortage set and
-- the bounds that its sum cites; of a file that is turned down the number and the index.
use Rattle.std.specs.Prelude.{ℕ, ◌≤◌, ◌<◌, ◌≡◌, false, List, ◌++◌, ◌⊎◌, pos, length, get_or, Ok, Err}
use Rattle.numbers.specs.Sums.{only}
use Rattle.text.specs.Words.{Text}
use Rattle.text.specs.Texts.{texts}
use Rattle.plan.specs.Plan.{Plan, Set}
use Rattle.plan.specs.Flow.{FirstFlow, Narrowed}
use Rattle.plan.specs.Shortage.{ShortBy}
use Rattle.plan.specs.Reason.{no_marks}
use Rattle.plan.specs.Verdict.{number_of, verdict, Verdict}
use Rattle.plan.specs.declared.Arc.{Arc}
use Rattle.format.specs.Format.{Edition}
use Rattle.format.specs.Held.{held}
use Rattle.blocks.specs.Rules.{reading_rules}
use Rattle.lines.specs.Lines.{size_line, refused_line, arc_line, none_line, set_line, cited_line}

abbrev pub arc_of : Plan → ℕ → Arc
arc_of p k = record { from = p.from k; to = p.to k; low = p.low k; high = p.high k }

-- a line for each arc
abbrev pub arc_lines : Plan → (counts lows highs : ℕ → ℕ) → Text
arc_lines p counts lows highs = texts p.arcs (λ k. arc_line k (arc_of p k) (counts k) (lows k) (highs k))

-- a line for each bound that is cited
abbrev pub cited_lines : Plan → (marks : ℕ → ℕ) → Text
cited_lines p marks = texts p.arcs (λ k. cited_line (marks k) k (arc_of p k))

abbrev pub flow_text : Plan → (counts lows highs : ℕ → ℕ) → Text
flow_text p counts lows highs = size_line p.nodes p.arcs ++ arc_lines p counts lows highs

abbrev pub no_text : Plan → (shortfall : ℕ) → Set → Text
no_text p shortfall S =
    size_line p.nodes p.arcs ++ none_line shortfall ++ set_line p.nodes S ++ cited_lines p (no_marks p S)

-- a plan that has a flow: by its first flow and the narrowed ranges
pub record FlowListing (p : Plan) (text : Text) : Type 0 where
  pub counts : ℕ → ℕ
  pub lows : ℕ → ℕ
  pub highs : ℕ → ℕ
  pub first : FirstFlow p counts
  pub narrowed : (k : ℕ) → k < p.arcs → Narrowed p k (lows k) (highs k)
  pub text_is : text ≡ flow_text p counts lows highs

-- a plan that has none: by the shortage set and its shortfall
pub record NoListing (p : Plan) (text : Text) : Type 0 where
  pub shortfall : ℕ
  pub set : Set
  pub short : ShortBy p (pos shortfall) set
  pub text_is : text ≡ no_text p shortfall set

abbrev pub PlanListing : Plan → Text → Type 0
PlanListing p text = FlowListing p text ⊎ NoListing p text

-- by what is said of the file that holds the plan: nothing is printed before a number
abbrev pub VerdictListing : Verdict → Plan → Text → Type 0
VerdictListing (Ok u) p text = PlanListing p text
VerdictListing (Err refusal) p text = text ≡ refused_line (number_of refusal.fault) refusal.place

-- the listing of a file, for every list of bytes: 11, 12, 13, 1, 2, 14, 4, 5, 6, 7 turn it down
pub record Listing (e : Edition) (file : List ℕ) (text : Text) : Type 0 where
  pub listed : VerdictListing (verdict (reading_rules e file false)) (held e file) text

-- ---- internal

-- lent bytes that take every listing
abbrev pub page_size : ℕ
page_size = 26647

-- the marks of a "no", in the first entries of two lists
pub record Marked (p : Plan) (shortfall : ℕ) (nodes arcs : List ℕ) : Type 0 where
  pub set : Set
  pub short : ShortBy p (pos shortfall) set
  pub nodes_are : length nodes ≡ p.nodes
  pub arcs_are : p.arcs ≤ length arcs
  pub inside : (v : ℕ) → v < p.nodes → get_or nodes v 0 ≡ only (set v) 1
  pub cited : (k : ℕ) → k < p.arcs → get_or arcs k 0 ≡ no_marks p set k
