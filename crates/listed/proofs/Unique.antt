-- Every file has one listing, and a page that is lent one content with it.
use Prim.Native.Nat.{ℕ, ◌<◌}
use mathlib.Core.Path.{◌≡◌, refl, sym, ap, ◌∙◌}
use mathlib.Core.Bool.{false}
use mathlib.Core.List.{List, ◌++◌}
use mathlib.Core.Logic.{inl, inr}
use lib.IntN.{nat_abs}
use Rattle.std.specs.Prelude.{Ok, Err}
use Rattle.text.specs.Words.{Text}
use Rattle.text.specs.Page.{Filled}
use Rattle.text.proofs.Printing.{texts_same, filled_unique}
use Rattle.plan.specs.Plan.{Plan, WellFormed}
use Rattle.plan.specs.Reason.{no_marks}
use Rattle.plan.specs.Verdict.{verdict, Verdict, Accepted}
use Rattle.plan.proofs.Unique.{first_flow_unique, narrowed_unique, shortage_unique, short_by_unique, short_or_flow}
use Rattle.plan.proofs.EitherEnd.{no_marks_alike}
use Rattle.format.specs.Format.{Edition}
use Rattle.format.specs.Held.{held}
use Rattle.blocks.specs.Rules.{reading_rules}
use Rattle.blocks.proofs.Accepted.{reading_well_formed}
use Rattle.lines.specs.Lines.{size_line, arc_line, member, cited_line}
use Rattle.listed.specs.Listing.{arc_of, no_text, FlowListing, NoListing, PlanListing, VerdictListing, Listing}

module _ (p : Plan) (w : WellFormed p) where
  flow_unique : {a b : Text} → FlowListing p a → FlowListing p b → a ≡ b
  flow_unique x y = x.text_is ∙ ap (λ t. size_line p.nodes p.arcs ++ t) (texts_same p.arcs
      (λ k. arc_line k (arc_of p k) (x.counts k) (x.lows k) (x.highs k))
      (λ k. arc_line k (arc_of p k) (y.counts k) (y.lows k) (y.highs k))
      (λ k l. let ends = narrowed_unique (x.narrowed k l) (y.narrowed k l) in
      rw (first_flow_unique p x.counts y.counts x.first y.first k l, ends.0, ends.1) refl)) ∙ sym y.text_is

  no_unique : {a b : Text} → NoListing p a → NoListing p b → a ≡ b
  no_unique x y = x.text_is ∙ same ∙ sym y.text_is
    where
      same_value : x.shortfall ≡ y.shortfall
      same_value = ap nat_abs (short_by_unique x.short y.short)

      same_set : (v : ℕ) → v < p.nodes → x.set v ≡ y.set v
      same_set = shortage_unique p x.set y.set x.short.shortage y.short.shortage

      same : no_text p x.shortfall x.set ≡ no_text p y.shortfall y.set
      same = rw (
        same_value,
        texts_same p.nodes (member x.set) (member y.set) (λ v l. rw (same_set v l) refl),
        texts_same p.arcs
            (λ k. cited_line (no_marks p x.set k) k (arc_of p k)) (λ k. cited_line (no_marks p y.set k) k (arc_of p k))
            (λ k l. ap (λ mark. cited_line mark k (arc_of p k)) (no_marks_alike p w x.set y.set same_set k l)),
      ) refl

  pub plan_listing_unique : {a b : Text} → PlanListing p a → PlanListing p b → a ≡ b
  plan_listing_unique (inl x) (inl y) = flow_unique x y
  plan_listing_unique (inl x) (inr y) = absurd (short_or_flow w y.short x.first.flow)
  plan_listing_unique (inr x) (inl y) = absurd (short_or_flow w x.short y.first.flow)
  plan_listing_unique (inr x) (inr y) = no_unique x y

verdict_listing_unique : (p : Plan) (v : Verdict) → (v ≡ Accepted → WellFormed p) → {a b : Text}
    → VerdictListing v p a → VerdictListing v p b → a ≡ b
verdict_listing_unique p (Ok u) w x y = plan_listing_unique p (w refl) x y
verdict_listing_unique p (Err r) w x y = x ∙ sym y

pub listing_unique : (e : Edition) (file : List ℕ) {a b : Text} → Listing e file a → Listing e file b → a ≡ b
listing_unique e file x y =
    verdict_listing_unique (held e file) (verdict (reading_rules e file false)) (reading_well_formed e file false)
    x.listed y.listed

-- so one content of the page, and one length
pub listing_printed_unique : (e : Edition) (file : List ℕ) {page a b : Text} {n m : ℕ}
    → Filled (Listing e file) page a n → Filled (Listing e file) page b m → (a ≡ b) × (n ≡ m)
listing_printed_unique e file = filled_unique (λ s t. listing_unique e file)
