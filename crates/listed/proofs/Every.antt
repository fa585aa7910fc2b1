-- Every file has a listing: a plan that has a flow has a first flow and narrowed ranges, and one that has none a shortage set.
use Prim.Native.Nat.{ℕ, ◌<◌}
use mathlib.Core.Path.{◌≡◌, refl, sym}
use mathlib.Core.Bool.{false}
use mathlib.Core.List.{List}
use mathlib.Core.Logic.{inl, inr, ⊎_elim}
use native.Mathlib.Decide.{dec_lt}
use lib.IntN.{pos, nat_abs}
use lib.Signed.{◌<ℤ◌}
use Rattle.std.specs.Prelude.{Ok, Err}
use Rattle.text.specs.Words.{Text}
use Rattle.plan.specs.Plan.{Plan, Set, WellFormed}
use Rattle.plan.specs.Flow.{HasFlow, Narrowed}
use Rattle.plan.specs.Shortage.{shortfall, Shortage}
use Rattle.plan.specs.Verdict.{number_of, verdict, Verdict, Accepted}
use Rattle.plan.proofs.Hoffman.{flow_or_shortage}
use Rattle.plan.proofs.Exists.{first_flow_exists, narrowed_exists}
use Rattle.format.specs.Format.{Edition}
use Rattle.format.specs.Held.{held}
use Rattle.blocks.specs.Rules.{reading_rules}
use Rattle.blocks.proofs.Accepted.{reading_well_formed}
use Rattle.lines.specs.Lines.{refused_line}
use Rattle.listed.specs.Listing.{flow_text, no_text, FlowListing, NoListing, PlanListing, VerdictListing, Listing}
use Rattle.listed.proofs.Listed.{above_zero}
use Rattle.listed.proofs.Unique.{listing_unique}

module _ (p : Plan) (w : WellFormed p) where
  -- the narrowed range of each arc, and 0..0 past the arcs
  module _ (h : HasFlow p) where
    abbrev range : (k : ℕ) → Dec (k < p.arcs) → ℕ × ℕ
    range k (yes l) = let (low, high, narrowed) = narrowed_exists p w h k l in (low, high)
    range k (no past) = (0, 0)

    range_narrowed : (k : ℕ) (below : Dec (k < p.arcs)) → k < p.arcs → Narrowed p k (range k below).0 (range k below).1
    range_narrowed k (yes l) _ = (narrowed_exists p w h k l).2
    range_narrowed k (no past) l = absurd (past l)

    flow_listed : (text : Text) × FlowListing p text
    flow_listed =
        let (counts, first) = first_flow_exists p w h in
        let lows : ℕ → ℕ = λ k. (range k (dec_lt k p.arcs)).0 in
        let highs : ℕ → ℕ = λ k. (range k (dec_lt k p.arcs)).1 in (
          flow_text p counts lows highs,
          record {
            counts = counts;
            lows = lows;
            highs = highs;
            first = first;
            narrowed = λ k l. range_narrowed k (dec_lt k p.arcs) l;
            text_is = refl;
          },
        )

  no_listed : (S : Set) → Shortage p S → pos 0 <ℤ shortfall p S → (text : Text) × NoListing p text
  no_listed S shortage short = (
    no_text p (nat_abs (shortfall p S)) S,
    record {
      shortfall = nat_abs (shortfall p S);
      set = S;
      short = record {
        shortage = shortage;
        value_is = sym (above_zero (shortfall p S) short);
        positive = rw (above_zero (shortfall p S) short) short;
      };
      text_is = refl;
    },
  )

  pub plan_listed : (text : Text) × PlanListing p text
  plan_listed = ⊎_elim
      (λ (f, c). let (text, x) = flow_listed (record { counts = f; flow = c }) in (text, inl x))
      (λ (S, shortage, short). let (text, x) = no_listed S shortage short in (text, inr x))
      (flow_or_shortage p w)

verdict_listed : (p : Plan) (v : Verdict) → (v ≡ Accepted → WellFormed p) → (text : Text) × VerdictListing v p text
verdict_listed p (Ok u) w = plan_listed p (w refl)
verdict_listed p (Err r) w = (refused_line (number_of r.fault) r.place, refl)

pub every_file_listed : (e : Edition) (file : List ℕ) → (text : Text) × Listing e file text
every_file_listed e file =
    let (text, x) = verdict_listed (held e file) (verdict (reading_rules e file false)) (reading_well_formed e file false) in
    (text, record { listed = x })

-- the listing as a function of the file, and no other text is one
pub listing_of : Edition → List ℕ → Text
listing_of e file = (every_file_listed e file).0

pub listing_is : (e : Edition) (file : List ℕ) {text : Text} → Listing e file text → text ≡ listing_of e file
unfolding listing_of
listing_is e file x = listing_unique e file x (every_file_listed e file).1
