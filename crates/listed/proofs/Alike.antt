-- Plans that agree on all that is below their counts have the same listings.
use Prim.Native.Nat.{ℕ, ◌<◌}
use mathlib.Core.Path.{◌≡◌, refl, sym, ap, ◌∙◌}
use mathlib.Core.List.{◌++◌}
use mathlib.Core.Logic.{inl, inr}
use native.Mathlib.Omega.{arith}
use Rattle.text.specs.Words.{Text}
use Rattle.text.specs.Texts.{texts}
use Rattle.text.proofs.Printing.{texts_same}
use Rattle.plan.specs.Plan.{Plan, Set}
use Rattle.plan.specs.Keeping.{SamePlan}
use Rattle.plan.specs.Reason.{no_marks}
use Rattle.plan.proofs.Alike.{alike_first_flow, alike_narrowed, alike_short_by, alike_no_marks}
use Rattle.lines.specs.Lines.{size_line, arc_line, none_line, set_line, cited_line}
use Rattle.listed.specs.Listing.{arc_of, arc_lines, cited_lines, flow_text, no_text, PlanListing}

module _ {p q : Plan} (a : SamePlan p q) where
  same_arc : (k : ℕ) → k < p.arcs → arc_of p k ≡ arc_of q k
  same_arc k l = rw (a.network.from k l, a.network.to k l, a.low k l, a.high k l) refl

  -- a row of a text for each arc
  same_row : (f g : ℕ → Text) → ((k : ℕ) → k < p.arcs → f k ≡ g k) → texts p.arcs f ≡ texts q.arcs g
  same_row f g same = texts_same p.arcs f g same ∙ ap (λ n. texts n g) a.network.arcs

  same_size : size_line p.nodes p.arcs ≡ size_line q.nodes q.arcs
  same_size = rw (a.network.nodes, a.network.arcs) refl

  same_flow_text : (counts lows highs : ℕ → ℕ) → flow_text p counts lows highs ≡ flow_text q counts lows highs
  same_flow_text counts lows highs =
      ap (λ t. t ++ arc_lines p counts lows highs) same_size
      ∙ ap (λ t. size_line q.nodes q.arcs ++ t) (same_row
      (λ k. arc_line k (arc_of p k) (counts k) (lows k) (highs k))
      (λ k. arc_line k (arc_of q k) (counts k) (lows k) (highs k))
      (λ k l. ap (λ arc. arc_line k arc (counts k) (lows k) (highs k)) (same_arc k l)))

  same_no_text : (shortfall : ℕ) (S : Set) → no_text p shortfall S ≡ no_text q shortfall S
  same_no_text shortfall S =
      ap (λ t. t ++ none_line shortfall ++ set_line p.nodes S ++ cited_lines p (no_marks p S)) same_size
      ∙ ap (λ n. size_line q.nodes q.arcs ++ none_line shortfall ++ set_line n S ++ cited_lines p (no_marks p S)) a.network.nodes
      ∙ ap (λ t. size_line q.nodes q.arcs ++ none_line shortfall ++ set_line q.nodes S ++ t) (same_row
      (λ k. cited_line (no_marks p S k) k (arc_of p k))
      (λ k. cited_line (no_marks q S k) k (arc_of q k))
      (λ k l. ap (λ mark. cited_line mark k (arc_of p k)) (alike_no_marks a S k l)
      ∙ ap (λ arc. cited_line (no_marks q S k) k arc) (same_arc k l)))

  pub alike_listing : {text : Text} → PlanListing q text → PlanListing p text
  alike_listing (inl x) = inl (record {
    counts = x.counts;
    lows = x.lows;
    highs = x.highs;
    first = alike_first_flow a x.first;
    narrowed = λ k l. alike_narrowed a (x.narrowed k (omega (arith, a.network.arcs)));
    text_is = x.text_is ∙ sym (same_flow_text x.counts x.lows x.highs);
  })
  alike_listing (inr x) = inr (record {
    shortfall = x.shortfall;
    set = x.set;
    short = alike_short_by a x.short;
    text_is = x.text_is ∙ sym (same_no_text x.shortfall x.set);
  })
