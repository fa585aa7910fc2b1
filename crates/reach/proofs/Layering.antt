-- The layers of a search, one after the other.
use Prim.Native.Nat.{ℕ, zero, suc, ◌+◌, ◌-◌, ◌^◌, ◌≤◌, ◌<◌}
use mathlib.Core.Path.{◌≡◌, refl, sym, ap, ◌∙◌, subst}
use mathlib.Core.Bool.{Bool, true, false, not, ◌&&◌, ◌||◌, true≢false, false≢true}
use mathlib.Core.List.{List}
use mathlib.Core.Logic.{◌⊎◌, inl, inr, ⊎_elim, by_cases}
use native.Mathlib.Omega.{arith}
use native.Mathlib.Decide.{ℕ_discrete, dec_lt}
use lib.Bits.{bit_and}
use lib.Count.{count_trailing_zeros}
use lib.ListN.{length, set}
use lib.Seq.{get_or-set_same, get_or-set_other}
use borrow.Author.Tests.{ne_eqb, not-true}
use Rattle.numbers.specs.Sums.{sum, only, put}
use Rattle.numbers.proofs.Truth.{both_true, true_both, either_true, true_left, true_right, true_or_false, true_not}
use Rattle.numbers.proofs.Sums.{sum_le, sum_change, put_there, put_cases, put_elsewhere, same_truth}
use Rattle.rooms.specs.Room.{side, at}
use Rattle.words.specs.Word.{holds, SplitOf}
use Rattle.words.proofs.Bits.{zero_holds, some_holds, past_holds, same_word, first_taken}
use Rattle.reach.specs.Search.{Open, Widened, Reached, Layers, Layered, Met, Missed, LastLevel, Path}

-- ---- where steps lead

-- so far: what is found is right, and what is no longer in the rest has been looked at
pub record Widening (way : ℕ → ℕ → Bool) (u v front rest next : ℕ) : Type 0 where
  pub sub : (x : ℕ) → holds rest x ≡ true → holds front x ≡ true
  pub found : (y : ℕ) → holds next y ≡ true → (x : ℕ) × (x < side) × (holds front x ≡ true) × Open way u v x y
  pub passed : (x : ℕ) → holds front x ≡ true → (holds rest x ≡ true) ⊎ ((y : ℕ) → Open way u v x y → holds next y ≡ true)

module _ {way : ℕ → ℕ → Bool} {u v : ℕ} where
  pub widen_more : {front rest next x rest' : ℕ} → Widening way u v front rest next → SplitOf rest x rest' → (step next' : ℕ)
      → ((y : ℕ) → holds step y ≡ true → Open way u v x y) → ((y : ℕ) → Open way u v x y → holds step y ≡ true)
      → ((z : ℕ) → holds next' z ≡ holds next z || holds step z) → Widening way u v front rest' next'
  widen_more {front} {rest} {next} {x} {rest'} w split step next' leads_to all en = record {
    sub = λ z e. w.sub z (both_true (holds rest z) _ (sym (split.rest_is z) ∙ e)).0;
    found = λ y e. ⊎_elim (λ old. w.found y old) (λ new. (x, split.in_word, w.sub x split.there, leads_to y new))
        (either_true (holds next y) (holds step y) (sym (en y) ∙ e));
    passed = λ z e. by_cases (ℕ_discrete z x)
        (λ same. inr (λ y o. en y ∙ true_right (holds next y) (holds step y) (all y (subst (λ i. Open way u v i y) same o))))
        (λ ne. ⊎_elim
        (λ old. inl (split.rest_is z ∙ true_both (holds rest z) _ old (rw (ne_eqb z x ne))))
        (λ done. inr (λ y o. en y ∙ true_left (holds next y) (holds step y) (done y o)))
        (w.passed z e));
  }

-- ---- how many nodes a word holds

-- over a number of nodes that is a variable: at 64 a sum would be written out
size_in : ℕ → ℕ → ℕ
size_in n w = sum n (λ i. only (holds w i) 1)

ones : (n : ℕ) → sum n (λ i. 1) ≡ n
ones zero = refl
ones (suc n) = omega (arith, ones n)

only_le : (s t : Bool) → (s ≡ true → t ≡ true) → only s 1 ≤ only t 1
only_le true t h = rw (h refl) (omega arith)
only_le false t h = omega arith

size_in_le : (n w : ℕ) → size_in n w ≤ n
unfolding size_in
size_in_le n w = omega (arith, ones n, sum_le n (λ i. only (holds w i) 1) (λ i. 1) (λ i l. only_le (holds w i) true (λ e. refl)))

size_in_more : (n w w' y : ℕ) → y < n → holds w y ≡ false → holds w' y ≡ true → ((z : ℕ) → holds w z ≡ true → holds w' z ≡ true)
    → size_in n w < size_in n w'
unfolding size_in
size_in_more n w w' y l out inside sub = omega (
  arith,
  sum_change n (λ i. only (holds w i) 1) (put (λ i. only (holds w i) 1) y 1) y l (λ i li ne. sym (put_elsewhere (λ i. only (holds w i) 1) y 1 i ne)),
  put_there (λ i. only (holds w i) 1) y 1,
  ap (λ t. only t 1) out,
  sum_le n (put (λ i. only (holds w i) 1) y 1) (λ i. only (holds w' i) 1)
      (λ i li. put_cases (λ r. r ≤ only (holds w' i) 1) (λ i. only (holds w i) 1) y 1 i
      (λ e. rw (e, inside) (omega arith)) (λ ne. only_le (holds w i) (holds w' i) (sub i))),
)

size_in_short : (n w y : ℕ) → y < n → holds w y ≡ false → size_in n w < n
unfolding size_in
size_in_short n w y l out = omega (
  arith,
  ones n,
  sum_change n (λ i. only (holds w i) 1) (put (λ i. only (holds w i) 1) y 1) y l (λ i li ne. sym (put_elsewhere (λ i. only (holds w i) 1) y 1 i ne)),
  put_there (λ i. only (holds w i) 1) y 1,
  ap (λ t. only t 1) out,
  sum_le n (put (λ i. only (holds w i) 1) y 1) (λ i. 1)
      (λ i li. put_cases (λ r. r ≤ 1) (λ i. only (holds w i) 1) y 1 i (λ e. omega arith) (λ ne. only_le (holds w i) true (λ e. refl))),
)

pub size : ℕ → ℕ
size w = size_in side w

size_le : (w : ℕ) → size w ≤ side
unfolding size
size_le w = size_in_le side w

size_more : (w w' y : ℕ) → y < side → holds w y ≡ false → holds w' y ≡ true → ((z : ℕ) → holds w z ≡ true → holds w' z ≡ true)
    → size w < size w'
unfolding size
size_more w w' = size_in_more side w w'

size_short : (w y : ℕ) → y < side → holds w y ≡ false → size w < side
unfolding size
size_short w = size_in_short side w

-- ---- the search

module _ (way : ℕ → ℕ → Bool) (u v start goal : ℕ) where
  pub record Seeking (levels : List ℕ) (depth front reached : ℕ) : Type 0 where
    pub layers : Layers way u v start (at levels) depth
    pub top : at levels depth ≡ front
    pub within : (i y : ℕ) → i ≤ depth → holds (at levels i) y ≡ true → holds reached y ≡ true
    pub done : (x : ℕ) → holds reached x ≡ true → (holds front x ≡ true) ⊎ ((y : ℕ) → Open way u v x y → holds reached y ≡ true)
    pub clear : (x : ℕ) → holds reached x ≡ true → (holds front x ≡ true) ⊎ (holds goal x ≡ false)
    pub starts_in : (x : ℕ) → holds start x ≡ true → holds reached x ≡ true
    pub least : (R : ℕ → Bool) → ((x : ℕ) → holds start x ≡ true → R x ≡ true)
        → ((x y : ℕ) → R x ≡ true → Open way u v x y → R y ≡ true) → (x : ℕ) → holds reached x ≡ true → R x ≡ true
    pub count : depth ≤ size reached

module _ {way : ℕ → ℕ → Bool} {u v start goal : ℕ} {levels : List ℕ} {depth front reached : ℕ}
    (s : Seeking way u v start goal levels depth front reached) (met : ℕ) (eh : (z : ℕ) → holds met z ≡ holds front z && holds goal z) where
  pub seek_met : 0 < met → Met way u v start goal (at levels) depth met
  seek_met more = record {
    layered = record {
      layers = s.layers;
      depth_fits = omega (arith, s.count, size_le reached);
      met_is = λ y. rw s.top (eh y);
    };
    some = more;
    none_before = λ i y l f. ⊎_elim
        (λ g. absurd (s.layers.apart i depth y l (omega arith) f (rw s.top g)))
        (λ g. g)
        (s.clear y (s.within i y (omega arith) f));
  }

  module _ (none : met ≤ 0) {wide : ℕ} (w : Widened way u v front wide) (next : ℕ)
      (en : (z : ℕ) → holds next z ≡ holds wide z && not (holds reached z)) where
    none_met : (z : ℕ) → holds met z ≡ false
    none_met z = let e : met ≡ 0 = omega arith in rw e (zero_holds z)

    all_clear : (x : ℕ) → holds reached x ≡ true → holds goal x ≡ false
    all_clear x e = ⊎_elim
        (λ f. ⊎_elim
        (λ g. absurd (false≢true (sym (none_met x) ∙ eh x ∙ true_both (holds front x) (holds goal x) f g)))
        (λ g. g)
        (true_or_false (holds goal x)))
        (λ g. g)
        (s.clear x e)

    pub seek_end : next ≡ 0 → Missed way u v start goal (at levels) depth reached
    seek_end empty = record {
      layered = record {
        layers = s.layers;
        depth_fits = omega (arith, s.count, size_le reached);
        met_is = λ y. rw s.top (zero_holds y ∙ sym (none_met y) ∙ eh y);
      };
      all_reached = record {
        starts_in = s.starts_in;
        closed = λ x y inside o. ⊎_elim (λ f. fresh x y f o) (λ d. d y o) (s.done x inside);
        least = s.least;
      };
      clear = all_clear;
    }
      where
        fresh : (x y : ℕ) → holds front x ≡ true → Open way u v x y → holds reached y ≡ true
        fresh x y f o = ⊎_elim
            (λ e. e)
            (λ e. absurd (false≢true (sym (zero_holds y) ∙ sym (ap (λ h. holds h y) empty) ∙ en y ∙ true_both (holds wide y) _ (w.all x y f o) (true_not (holds reached y) e))))
            (true_or_false (holds reached y))

    new_wide : (y : ℕ) → holds next y ≡ true → holds wide y ≡ true
    new_wide y e = (both_true (holds wide y) _ (sym (en y) ∙ e)).0

    new_out : (y : ℕ) → holds next y ≡ true → holds reached y ≡ false
    new_out y e = not-true (holds reached y) (both_true (holds wide y) _ (sym (en y) ∙ e)).1

    module _ (small : next < 2 ^ 64) (some : next ≡ 0 → ⊥) where
      new : SplitOf next (count_trailing_zeros 64 next) (bit_and next (next - 1))
      new = first_taken next small (omega arith)

      pub seek_short : depth < side
      seek_short = omega (arith, s.count, size_short reached _ new.in_word (new_out _ new.there))

      module _ (reached' : ℕ) (es : (z : ℕ) → holds reached' z ≡ holds reached z || holds next z) (l : depth + 1 < length levels) where
        old_in : (z : ℕ) → holds reached z ≡ true → holds reached' z ≡ true
        old_in z e = es z ∙ true_left (holds reached z) (holds next z) e

        new_in : (z : ℕ) → holds next z ≡ true → holds reached' z ≡ true
        new_in z e = es z ∙ true_right (holds reached z) (holds next z) e

        below : (i : ℕ) → i ≤ depth → at (set levels (depth + 1) next) i ≡ at levels i
        below i h = get_or-set_other levels (depth + 1) i next 0 (λ e. omega arith)

        last : at (set levels (depth + 1) next) (depth + 1) ≡ next
        last = get_or-set_same levels (depth + 1) next 0 l

        pub seek_more : Seeking way u v start goal (set levels (depth + 1) next) (depth + 1) next reached'
        seek_more = record {
          layers = record {
            first = below 0 (omega arith) ∙ s.layers.first;
            found = λ i z h e. by_cases (ℕ_discrete i depth)
                (λ same. rw (same, below depth (omega arith), s.top) (w.found z (new_wide z (rw (same, last) at e))))
                (λ ne. rw (below i (omega arith)) (s.layers.found i z (omega arith) (rw (below (i + 1) (omega arith)) at e)));
            apart = λ i j z h h' e f. by_cases (ℕ_discrete j (depth + 1))
                (λ same. true≢false (sym (s.within i z (omega arith) (rw (below i (omega arith)) at e)) ∙ new_out z (rw (same, last) at f)))
                (λ ne. s.layers.apart i j z h (omega arith) (rw (below i (omega arith)) at e) (rw (below j (omega arith)) at f));
          };
          top = last;
          within = λ i z h e. by_cases (ℕ_discrete i (depth + 1))
              (λ same. new_in z (rw (same, last) at e))
              (λ ne. old_in z (s.within i z (omega arith) (rw (below i (omega arith)) at e)));
          done = λ x e. ⊎_elim
              (λ old. inr (λ z o. ⊎_elim (λ f. fresh x z f o) (λ d. old_in z (d z o)) (s.done x old)))
              (λ n. inl n)
              (either_true (holds reached x) (holds next x) (sym (es x) ∙ e));
          clear = λ x e. ⊎_elim (λ old. inr (all_clear x old)) (λ n. inl n) (either_true (holds reached x) (holds next x) (sym (es x) ∙ e));
          starts_in = λ x e. old_in x (s.starts_in x e);
          least = λ R h c x e. ⊎_elim
              (s.least R h c x)
              (λ n. let f = w.found x (new_wide x n) in c f.0 x (s.least R h c f.0 (front_reached f.0 f.2)) f.3)
              (either_true (holds reached x) (holds next x) (sym (es x) ∙ e));
          count = omega (arith, s.count, size_more reached reached' _ new.in_word (new_out _ new.there) (new_in _ new.there) old_in);
        }
          where
            front_reached : (x : ℕ) → holds front x ≡ true → holds reached x ≡ true
            front_reached x e = s.within depth x (omega arith) (rw s.top e)

            fresh : (x z : ℕ) → holds front x ≡ true → Open way u v x z → holds reached' z ≡ true
            fresh x z f o = ⊎_elim
                (old_in z)
                (λ e. new_in z (en z ∙ true_both (holds wide z) _ (w.all x z f o) (true_not (holds reached z) e)))
                (true_or_false (holds reached z))

-- after the last level that was reached the next is
pub last_next : (levels : List ℕ) {depth reached next reached' : ℕ} → LastLevel (at levels) depth reached → (next ≡ 0 → ⊥)
    → ((z : ℕ) → holds reached' z ≡ holds reached z || holds next z) → depth + 1 < length levels
    → LastLevel (at (set levels (depth + 1) next)) (depth + 1) reached'
last_next levels {depth} {reached} {next} s some es l = record {
  all_in = λ x e. ⊎_elim
      (λ old. let f = s.all_in x old in (f.0, omega (arith, f.1), rw (get_or-set_other levels (depth + 1) f.0 next 0 (λ e. omega (arith, f.1))) f.2))
      (λ new. (depth + 1, omega arith, rw (get_or-set_same levels (depth + 1) next 0 l) new))
      (either_true (holds reached x) (holds next x) (sym (es x) ∙ e));
  some = λ h. rw (get_or-set_same levels (depth + 1) next 0 l) (omega arith);
}

-- what is met lies in the last level and in the goal
pub met_there : {way : ℕ → ℕ → Bool} {u v start goal depth met : ℕ} {levels : ℕ → ℕ} → Layered way u v start goal levels depth met
    → (y : ℕ) → holds met y ≡ true → (holds (levels depth) y ≡ true) × (holds goal y ≡ true)
met_there {goal = goal} {depth = depth} {levels = levels} s y e = both_true (holds (levels depth) y) (holds goal y) (sym (s.met_is y) ∙ e)

-- there is one word of all that is reached
pub reached_unique : {way : ℕ → ℕ → Bool} {u v start : ℕ} (s t : ℕ) → Reached way u v start (holds s) → Reached way u v start (holds t) → s ≡ t
reached_unique s t r q = same_word s t (λ y. same_truth (holds s y) (holds t y)
    (r.least (holds t) q.starts_in q.closed y) (q.least (holds s) r.starts_in r.closed y))

-- what lies in a layer is reached
layer_reached : {way : ℕ → ℕ → Bool} {u v start : ℕ} {levels : ℕ → ℕ} {depth : ℕ} {S : ℕ → Bool} → Layers way u v start levels depth
    → Reached way u v start S → (i y : ℕ) → i ≤ depth → holds (levels i) y ≡ true → S y ≡ true
layer_reached s r zero y h e = r.starts_in y (rw s.first at e)
layer_reached {levels = levels} s r (suc i) y h e =
    let f = s.found i y (omega arith) (subst (λ k. holds (levels k) y ≡ true) (omega arith) e) in
    r.closed f.0 y (layer_reached s r i f.0 (omega arith) f.2) f.3

-- no layer after the last level has a node
none_after : {way : ℕ → ℕ → Bool} {u v start reached a b : ℕ} {levels : ℕ → ℕ} → levels b < 2 ^ 64 → Reached way u v start (holds reached)
    → LastLevel levels a reached → Layers way u v start levels b → LastLevel levels b reached → a < b → ⊥
none_after {b = b} {levels = levels} small r s layers t less =
    let top = first_taken (levels b) small (t.some (omega arith)) in
    let f = s.all_in _ (layer_reached layers r b _ (omega arith) top.there) in
    layers.apart f.0 b _ (omega (arith, f.1, less)) (omega arith) f.2 top.there

-- of the same levels and the same set there is one last level
pub last_unique : {way : ℕ → ℕ → Bool} {u v start reached a b : ℕ} {levels : ℕ → ℕ} → ((i : ℕ) → levels i < 2 ^ 64)
    → Reached way u v start (holds reached) → Layers way u v start levels a → LastLevel levels a reached
    → Layers way u v start levels b → LastLevel levels b reached → a ≡ b
last_unique {a = a} {b = b} small r l s k t = by_cases (dec_lt a b)
    (λ less. absurd (none_after (small b) r s k t less))
    (λ more. by_cases (dec_lt b a) (λ less. absurd (none_after (small a) r t l s less)) (λ no. omega arith))

-- ---- where steps lead from one node

-- what a word of the machine's holds is a node
pub held_is_node : (word y : ℕ) → word < 2 ^ 64 → holds word y ≡ true → y < side
held_is_node word y small e = by_cases (dec_lt y side) (λ l. l) (λ g. absurd (true≢false (sym e ∙ past_holds 64 word y small (omega arith))))

-- ---- the way back through the layers

-- from place i on: each node lies in its layer, with a step to the next
pub record Walking (way : ℕ → ℕ → Bool) (u v met : ℕ) (levels path : ℕ → ℕ) (depth i : ℕ) : Type 0 where
  pub node : (j : ℕ) → i ≤ j → j ≤ depth → (path j < side) × (holds (levels j) (path j) ≡ true)
  pub step : (j : ℕ) → i ≤ j → j < depth → Open way u v (path j) (path (j + 1))
  pub ends : holds met (path depth) ≡ true

module _ {way : ℕ → ℕ → Bool} {u v met : ℕ} where
  walk_more : {levels : ℕ → ℕ} (path : List ℕ) {depth i : ℕ} → Walking way u v met levels (at path) depth (i + 1) → (x : ℕ)
      → i < depth → i < length path → x < side → holds (levels i) x ≡ true → Open way u v x (at path (i + 1))
      → Walking way u v met levels (at (set path i x)) depth i
  walk_more path {depth} {i} w x before l lx e o = record {
    node = λ j h h'. by_cases (ℕ_discrete j i)
        (λ same. rw (same, get_or-set_same path i x 0 l) (lx, e))
        (λ ne. rw (get_or-set_other path i j x 0 ne) (w.node j (omega arith) h'));
    step = λ j h h'. by_cases (ℕ_discrete j i)
        (λ same. rw (same, get_or-set_same path i x 0 l, get_or-set_other path i (i + 1) x 0 (λ e. omega arith)) o)
        (λ ne. rw (get_or-set_other path i j x 0 ne, get_or-set_other path i (j + 1) x 0 (λ e. omega arith)) (w.step j (omega arith) h'));
    ends = rw (get_or-set_other path i depth x 0 (λ e. omega arith)) w.ends;
  }

  pub walk_path : {levels path : ℕ → ℕ} {depth start : ℕ} → Walking way u v met levels path depth 0 → Layers way u v start levels depth
      → Path way u v start met levels path depth
  walk_path {levels} {path} {depth} w s = record {
    node = λ i h. (w.node i (omega arith) h).0;
    layer = λ i h. (w.node i (omega arith) h).1;
    step = λ i h. w.step i (omega arith) h;
    once = λ i j h h' e. s.apart i j (path j) h h' (subst (λ x. holds (levels i) x ≡ true) e (w.node i (omega arith) (omega arith)).1) (w.node j (omega arith) h').1;
    starts = rw (sym s.first) (w.node 0 (omega arith) (omega arith)).1;
    ends = w.ends;
  }

-- a node that a step leads to from the layer before has a way back there
pub way_back : {way turned : ℕ → ℕ → Bool} {u v start : ℕ} {levels : ℕ → ℕ} {depth : ℕ} → Layers way u v start levels depth
    → ((x y : ℕ) → x < side → y < side → turned y x ≡ way x y) → (i y from step : ℕ) → i < depth → y < side → holds (levels (i + 1)) y ≡ true
    → ((x : ℕ) → Open turned v u y x → holds step x ≡ true) → ((z : ℕ) → holds from z ≡ holds (levels i) z && holds step z) → 0 < from
way_back {levels = levels} s t i y from step l ly e all ef =
    let f = s.found i y l e in
    some_holds from f.0 (ef f.0 ∙ true_both (holds (levels i) f.0) (holds step f.0) f.2
    (all f.0 (record { leads = t f.0 y f.1 ly ∙ f.3.leads; node = f.1; not_shut = λ ey ex. f.3.not_shut ex ey })))

turned_open : {way turned : ℕ → ℕ → Bool} {u v x y : ℕ} → ((x y : ℕ) → x < side → y < side → turned y x ≡ way x y) → x < side → y < side
    → Open turned v u y x → Open way u v x y
turned_open {x = x} {y = y} t lx ly o = record { leads = sym (t x y lx ly) ∙ o.leads; node = ly; not_shut = λ ex ey. o.not_shut ey ex }

-- one place back
pub walk_on : {way turned : ℕ → ℕ → Bool} {u v met : ℕ} (levels : ℕ → ℕ) (path : List ℕ) {depth : ℕ} (i k y from step x : ℕ) → i ≡ k + 1
    → Walking way u v met levels (at path) depth i → y ≡ at path i → i ≤ depth → k < length path
    → ((x y : ℕ) → x < side → y < side → turned y x ≡ way x y) → ((z : ℕ) → holds step z ≡ true → Open turned v u y z)
    → ((z : ℕ) → holds from z ≡ holds (levels k) z && holds step z) → x < side → holds from x ≡ true
    → Walking way u v met levels (at (set path k x)) depth k
walk_on {way} {turned} {u} {v} levels path i k y from step x e w ey fits l t os ef lx here =
    let b = both_true (holds (levels k) x) (holds step x) (sym (ef x) ∙ here) in
    let ly : y < side = rw ey (w.node i (omega arith) fits).0 in
    let o : Open way u v x y = turned_open t lx ly (os x b.1) in
    walk_more path (rw e at w) x (omega arith) l lx b.0 (rw (ey, e) at o)
