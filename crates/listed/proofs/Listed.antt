-- From what the requests answered, and the buffers that they left, to the listing.
use Prim.Native.Nat.{ℕ, ◌+◌, ◌*◌, ◌/◌, ◌^◌, ◌≤◌, ◌<◌}
use mathlib.Core.Path.{◌≡◌, refl, sym, ap, ◌∙◌, subst}
use mathlib.Core.Bool.{Bool, true, false}
use mathlib.Core.List.{List, ◌∷◌, ◌++◌}
use mathlib.Core.Logic.{inl, inr}
use native.Mathlib.Omega.{arith}
use lib.Dec.{eqb}
use borrow.Author.Tests.{le-ltb}
use lib.IntN.{ℤ, pos, negsuc, nat_abs}
use lib.ListN.{length, get_or, take}
use lib.Seq.{length-take-le, get_or-take}
use lib.Signed.{◌<ℤ◌}
use Rattle.numbers.proofs.Parts.{whole}
use Rattle.numbers.specs.Sums.{only}
use Rattle.text.specs.Words.{Text}
use Rattle.text.specs.Decimal.{base}
use Rattle.text.specs.Page.{Printable}
use Rattle.text.proofs.Printing.{texts_same}
use Rattle.plan.specs.Limits.{most_nodes, most_arcs, arc_entries}
use Rattle.plan.specs.Plan.{Plan, WellFormed, plan_of}
use Rattle.plan.specs.Flow.{FirstFlow, Narrowed}
use Rattle.plan.specs.Keeping.{SamePlan}
use Rattle.plan.specs.Reason.{no_marks}
use Rattle.std.specs.Prelude.{Ok, Err}
use Rattle.plan.specs.declared.Fault.TheVariants.{Buffer}
use Rattle.plan.specs.declared.No.TheVariants.{Short, Refused}
use Rattle.plan.specs.declared.Plan.{Plan as Size}
use Rattle.plan.specs.declared.Refusal.{Refusal}
use Rattle.plan.specs.Verdict.{verdict, whole as whole_rule, limit_rules, lists_short, Verdict, number_of}
use Rattle.plan.proofs.Alike.{alike_back, alike_well_formed}
use Rattle.plan.proofs.Refusals.{accepted_or_refused, before_refused}
use Rattle.plan.proofs.Checked.{well_formed_judged, both_long}
use Rattle.plan.proofs.Unique.{short_or_flow}
use Rattle.lists.proofs.Same.{written_plan}
use Rattle.flow.specs.Answer.{Answer, Lacking, FlowAnswers}
use Rattle.narrow.specs.Answer.{NarrowAnswers}
use Rattle.format.specs.Format.{Edition}
use Rattle.format.specs.Held.{held}
use Rattle.blocks.specs.Rules.{block_rules, reading_rules}
use Rattle.blocks.proofs.Accepted.{blocks_accepted, reading_well_formed}
use Rattle.file.specs.Answer.{ReadAnswers}
use Rattle.file.proofs.Fitting.{nodes_fit, arcs_fit}
use Rattle.lines.specs.Lines.{size_line, refused_line, none_line, member, set_line, cited_line}
use Rattle.lines.specs.Rows.{marked}
use Rattle.listed.specs.Listing.{arc_of, arc_lines, cited_lines, no_text, page_size, PlanListing, Marked, VerdictListing, Listing}
use Rattle.listed.proofs.Alike.{alike_listing}
use Rattle.listed.proofs.Fitting.{flow_fits, no_fits}

-- ---- a plan that has a flow

-- narrowing says that it runs
pub ranges_told : {p : Plan} {counts : ℕ → ℕ} {lows highs lows' highs' : List ℕ} → WellFormed p → FirstFlow p counts
    → p.arcs ≤ length lows → p.arcs ≤ length highs → (r : Answer) → NarrowAnswers p lows highs lows' highs' r
    → (k : ℕ) → k < p.arcs → Narrowed p k (get_or lows' k 0) (get_or highs' k 0)
ranges_told w first low_fits high_fits (Ok u) said = said.says.1.narrowed
ranges_told w first low_fits high_fits (Err (Short value)) said = absurd (short_or_flow w said.says.1.0.1 first.flow)
ranges_told {p} {lows = lows} {highs} w first low_fits high_fits (Err (Refused r)) said =
    absurd (accepted_or_refused (well_formed_judged p w (both_long lows highs low_fits high_fits)) said.says.0)

module _ {p : Plan} (w : WellFormed p) {counts lows highs : ℕ → ℕ} (first : FirstFlow p counts)
    (narrowed : (k : ℕ) → k < p.arcs → Narrowed p k (lows k) (highs k))
    {size : Size} (told : (size.nodes ≡ p.nodes) × (size.arcs ≡ p.arcs)) where
  pub flow_listing : PlanListing p (size_line size.nodes size.arcs ++ arc_lines p counts lows highs)
  flow_listing = inl (record {
    counts = counts;
    lows = lows;
    highs = highs;
    first = first;
    narrowed = narrowed;
    text_is = rw (told.0, told.1) refl;
  })

  pub flow_printable : {at : ℕ} {page : Text} → at + page_size ≤ length page
      → Printable (size_line size.nodes size.arcs ++ arc_lines p counts lows highs) at page
  flow_printable large = record { fits = rw (told.0, told.1) (omega (arith, flow_fits p w first narrowed)) }

-- ---- a plan that has none

module _ {p : Plan} (w : WellFormed p) {shortfall : ℕ} {nodes arcs : List ℕ} (m : Marked p shortfall nodes arcs)
    {size : Size} (told : (size.nodes ≡ p.nodes) × (size.arcs ≡ p.arcs)) where
  -- the text by the marks
  abbrev pub marked_text : Text
  marked_text =
      size_line size.nodes size.arcs ++ none_line shortfall ++ set_line (length nodes) (marked nodes)
      ++ cited_lines p (λ k. get_or arcs k 0)

  marked_is : (v : ℕ) → v < p.nodes → marked nodes v ≡ m.set v
  marked_is v l = ap (λ x. eqb x 1) (m.inside v l) ∙ by (m.set v)
    where
      by : (t : Bool) → eqb (only t 1) 1 ≡ t
      by true = refl
      by false = refl

  text_is : marked_text ≡ no_text p shortfall m.set
  text_is = rw (
    told.0,
    told.1,
    m.nodes_are,
    texts_same p.nodes (member (marked nodes)) (member m.set) (λ v l. rw (marked_is v l) refl),
    texts_same p.arcs (λ k. cited_line (get_or arcs k 0) k (arc_of p k)) (λ k. cited_line (no_marks p m.set k) k (arc_of p k))
        (λ k l. ap (λ mark. cited_line mark k (arc_of p k)) (m.cited k l)),
  ) refl

  pub marked_listing : PlanListing p marked_text
  marked_listing = inr (record {
    shortfall = shortfall;
    set = m.set;
    short = m.short;
    text_is = text_is;
  })

  pub marked_printable : {at : ℕ} {page : Text} → shortfall < base ^ 20 → at + page_size ≤ length page
      → Printable marked_text at page
  marked_printable small large = record { fits = omega (arith, ap length text_is, no_fits p w m.set small) }

-- ---- what the question answered

pub not_refused : {p : Plan} {arcs nodes arcs' nodes' : List ℕ} {r : Refusal} → WellFormed p
    → p.arcs ≤ length arcs → p.nodes ≤ length nodes → FlowAnswers p arcs nodes arcs' nodes' (Err (Refused r)) → ⊥
not_refused {p} {arcs} {nodes} w arcs_fit nodes_fit said =
    accepted_or_refused (well_formed_judged p w (both_long arcs nodes arcs_fit nodes_fit)) said.says.0

pub above_zero : (z : ℤ) → pos 0 <ℤ z → pos (nat_abs z) ≡ z
above_zero (pos n) above = refl
above_zero (negsuc n) above = absurd (omega (whole, above))

-- the marks of a "no" stand in the first entries of the buffers
pub lacking_marked : {p : Plan} {value : ℤ} {arcs nodes arcs' nodes' : List ℕ} → p.arcs ≤ length arcs' → p.nodes ≤ length nodes'
    → Lacking p value arcs nodes arcs' nodes' → Marked p (nat_abs value) (take p.nodes nodes') arcs'
lacking_marked {p} {value} {nodes' = nodes'} arcs_fit nodes_fit lack = record {
  set = lack.set;
  short = rw (above_zero value lack.short.positive) lack.short;
  nodes_are = length-take-le p.nodes nodes' nodes_fit;
  arcs_are = arcs_fit;
  inside = λ v l. get_or-take p.nodes nodes' v 0 l ∙ lack.node_marks.there v l;
  cited = λ k l. lack.arc_marks.there k l;
}

-- ---- the file

-- lists that take every plan are not too short
long_lists : (e : Edition) (file : List ℕ) (supplies : List ℤ) (arcs : List ℕ)
    → most_nodes ≤ length supplies → most_arcs * arc_entries ≤ length arcs
    → verdict (reading_rules e file (lists_short (held e file) supplies arcs)) ≡ verdict (reading_rules e file false)
long_lists e file supplies arcs nodes_long arcs_long = by (verdict (block_rules e file)) refl
  where
    p : Plan
    p = held e file

    by : (v : Verdict) → verdict (block_rules e file) ≡ v
        → verdict (reading_rules e file (lists_short p supplies arcs)) ≡ verdict (reading_rules e file false)
    by (Ok u) ok =
        let counts = (blocks_accepted e file ok).counts in
        let nodes_fit : p.nodes ≤ length supplies = omega (arith, counts.nodes_fit) in
        let arcs_fit : p.arcs ≤ length arcs / arc_entries = omega (arith, counts.arcs_fit) in
        rw (le-ltb (length supplies) p.nodes nodes_fit, le-ltb (length arcs / arc_entries) p.arcs arcs_fit) refl
    by (Err r) down =
        sym (before_refused (block_rules e file) (whole_rule Buffer (lists_short p supplies arcs) ∷ limit_rules p) refl down)
        ∙ before_refused (block_rules e file) (whole_rule Buffer false ∷ limit_rules p) refl down

module _ {e : Edition} {file : List ℕ} {supplies supplies' : List ℤ} {arcs arcs' : List ℕ}
    (nodes_long : most_nodes ≤ length supplies) (arcs_long : most_arcs * arc_entries ≤ length arcs) where
  pub refused_listing : {r : Refusal} → ReadAnswers e file supplies supplies' arcs arcs' (Err r)
      → Listing e file (refused_line (number_of r.fault) r.place)
  refused_listing {r} said = record {
    listed = subst (λ v. VerdictListing v (held e file) (refused_line (number_of r.fault) r.place))
        (sym said.says.0 ∙ long_lists e file supplies arcs nodes_long arcs_long) refl;
  }

  module _ {size : Size} (said : ReadAnswers e file supplies supplies' arcs arcs' (Ok size)) where
    same : SamePlan (plan_of (take (size.arcs * arc_entries) arcs') (take size.nodes supplies')) (held e file)
    same =
        let long : size.arcs * arc_entries ≤ length arcs' = arcs_fit said in
        let wide : size.nodes ≤ length supplies' = nodes_fit said in
        rw (said.says.1, said.says.2) (written_plan
        (rw said.says.2 at said.says.4) (rw said.says.1 at said.says.3) (rw said.says.2 at long) (rw said.says.1 at wide))

    pub read_well_formed : WellFormed (plan_of (take (size.arcs * arc_entries) arcs') (take size.nodes supplies'))
    read_well_formed =
        alike_well_formed same (reading_well_formed e file (lists_short (held e file) supplies arcs) said.says.0)

    pub read_listing : {text : Text}
        → PlanListing (plan_of (take (size.arcs * arc_entries) arcs') (take size.nodes supplies')) text → Listing e file text
    read_listing {text} listing = record {
      listed = subst (λ v. VerdictListing v (held e file) text)
          (sym said.says.0 ∙ long_lists e file supplies arcs nodes_long arcs_long) (alike_listing (alike_back same) listing);
    }
