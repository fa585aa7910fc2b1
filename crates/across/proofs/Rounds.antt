-- Going round: the way that a search finds, what a round does, and what it means that there is no way.
use Prim.Native.Nat.{ℕ, zero, suc, ◌+◌, ◌≤◌, ◌<◌}
use mathlib.Core.Path.{◌≡◌, refl, sym, ap, ◌∙◌, subst}
use mathlib.Core.Bool.{Bool, true, false, not, ◌&&◌, true≢false, false≢true}
use mathlib.Core.List.{List}
use mathlib.Core.Logic.{by_cases, ⊎_elim}
use native.Mathlib.Omega.{arith}
use native.Mathlib.Decide.{ℕ_discrete}
use lib.Dec.{eqb, ltb}
use lib.ListN.{length, set}
use lib.Seq.{get_or-set_same, get_or-set_other}
use borrow.Author.Tests.{eq-eqb, ne_eqb, eqb-true, not-true, lt-ltb, ltb-true}
use Rattle.numbers.specs.Sums.{only}
use Rattle.words.specs.Word.{holds}
use Rattle.rooms.specs.Room.{side, at, seen, crossing, Fitting, Still}
use Rattle.rooms.specs.Move.{Pushed}
use Rattle.ways.specs.Ways.{leads, Desk}
use Rattle.ways.proofs.Desks.{fitting_facing}
use Rattle.reach.specs.Reach.{Closed}
use Rattle.reach.specs.Search.{Open, Reached, Path}
use Rattle.numbers.proofs.Truth.{both_true, true_both, true_or_false}
use Rattle.engine.specs.Path.{Moved}
use Rattle.engine.proofs.Account.{crossing_pushed, pairs_pushed}
use Rattle.across.specs.Free.{Splits, Tight, Free}
use Rattle.across.specs.Round.{WayRound, NoWay, Round, Turned, WentRound, Measured}
use Rattle.across.proofs.Crossing.{crossing_member, crossing_two, crossing_shut}

-- ---- what the search says of the goal: where the last step to b can start

module _ (way turned : ℕ → ℕ → Bool) (a b start goal : ℕ) (la : a < side) (lb : b < side) (ne : b ≡ a → ⊥)
    (t : (x y : ℕ) → x < side → y < side → turned y x ≡ way x y) (es : (z : ℕ) → holds start z ≡ eqb z a)
    (eg : (z : ℕ) → holds goal z ≡ turned b z && not (holds start z)) where
  -- an open step to b starts at the goal
  to_goal : (x : ℕ) → x < side → Open way a b x b → holds goal x ≡ true
  to_goal x lx o = eg x ∙ true_both (turned b x) _ (t x b lx lb ∙ o.leads) (rw (es x ∙ ne_eqb x a (λ e. o.not_shut e refl)))

  from_goal : (x : ℕ) → x < side → holds goal x ≡ true → Open way a b x b
  from_goal x lx e =
      let g = both_true (turned b x) _ (sym (eg x) ∙ e) in
      record {
        leads = sym (t x b lx lb) ∙ g.0;
        node = lb;
        not_shut = λ ex ey. true≢false (sym (es x ∙ eq-eqb x a ex) ∙ not-true (holds start x) g.1);
      }

  pub none_round : (S : ℕ → Bool) → Reached way a b start S → ((x : ℕ) → S x ≡ true → holds goal x ≡ false) → S b ≡ false
  none_round S r clear = ⊎_elim
      (λ e. absurd (true≢false (sym (both_true (S b) _ (r.least R start_in closed b e)).1 ∙ rw (eq-eqb b b refl))))
      (λ e. e)
      (true_or_false (S b))
    where
      R : ℕ → Bool
      R x = S x && not (eqb x b)

      node : (x : ℕ) → S x ≡ true → x < side
      node x e = ltb-true x side (r.least (λ x. ltb x side) (λ x e. lt-ltb x side (rw (eqb-true x a (sym (es x) ∙ e)) la)) (λ x y e o. lt-ltb y side o.node) x e)

      start_in : (x : ℕ) → holds start x ≡ true → R x ≡ true
      start_in x e = true_both (S x) _ (r.starts_in x e) (rw (ne_eqb x b (λ eb. ne (sym eb ∙ eqb-true x a (sym (es x) ∙ e)))))

      closed : (x y : ℕ) → R x ≡ true → Open way a b x y → R y ≡ true
      closed x y e o =
          let inside = (both_true (S x) _ e).0 in
          true_both (S y) _ (r.closed x y inside o) (rw (ne_eqb y b
          (λ eb. true≢false (sym (to_goal x (node x inside) (subst (λ z. Open way a b x z) eb o)) ∙ clear x inside))))

  module _ (levels : ℕ → ℕ) (path : List ℕ) (depth met : ℕ) (p : Path way a b start met levels (at path) depth)
      (met_there : (y : ℕ) → holds met y ≡ true → holds goal y ≡ true)
      (before : (i y : ℕ) → i < depth → holds (levels i) y ≡ true → holds goal y ≡ false) (l : depth + 1 < length path) where
    first_a : at path 0 ≡ a
    first_a = eqb-true (at path 0) a (sym (es (at path 0)) ∙ p.starts)

    -- b is not on the path yet
    never : (i : ℕ) → i ≤ depth → at path i ≡ b → ⊥
    never zero h e = ne (sym e ∙ first_a)
    never (suc i) h e = true≢false (sym (to_goal (at path i) (p.node i (omega arith)) (subst (λ z. Open way a b (at path i) z) (same ∙ e) (p.step i (omega arith)))) ∙ before i (at path i) (omega arith) (p.layer i (omega arith)))
      where
        same : at path (i + 1) ≡ at path (suc i)
        same = ap (at path) (omega arith)

    here : (i : ℕ) → i ≤ depth → at (set path (depth + 1) b) i ≡ at path i
    here i h = get_or-set_other path (depth + 1) i b 0 (λ e. omega arith)

    last : at (set path (depth + 1) b) (depth + 1) ≡ b
    last = get_or-set_same path (depth + 1) b 0 l

    pub way_found : WayRound way a b (at (set path (depth + 1) b)) (depth + 1)
    way_found = record {
      track = record {
        node = λ i h. by_cases (ℕ_discrete i (depth + 1)) (λ e. rw (e, last) lb) (λ n. rw (here i (omega arith)) (p.node i (omega arith)));
        once = λ i j h h' e. by_cases (ℕ_discrete j (depth + 1))
            (λ ej. never i (omega arith) (sym (here i (omega arith)) ∙ e ∙ ap (at (set path (depth + 1) b)) ej ∙ last))
            (λ n. p.once i j h (omega arith) (sym (here i (omega arith)) ∙ e ∙ here j (omega arith)));
      };
      starts = here 0 (omega arith) ∙ first_a;
      ends = last;
      steps = λ i h. by_cases (ℕ_discrete i depth)
          (λ e. rw (e, here depth (omega arith), last) (from_goal (at path depth) (p.node depth (omega arith)) (met_there (at path depth) p.ends)))
          (λ n. rw (here i (omega arith), here (i + 1) (omega arith)) (p.step i (omega arith)));
    }

-- ---- a round

module _ {n : ℕ} {room room₁ : ℕ → ℕ → ℕ} {a b depth d : ℕ} {path : ℕ → ℕ} (few : n ≤ side) (la : a < n) (lb : b < n) (ne : b ≡ a → ⊥)
    (r : Round n room a b path depth) (m : Moved n room room₁ path depth d) where
  pub there_still : room₁ a b ≡ room a b
  there_still = m.elsewhere a b (omega arith) (omega arith)
      (λ i l e f. r.not_direct i l (sym e) (sym f))
      (λ i l e f. r.track.once 0 (i + 1) (omega arith) (omega arith) (r.starts ∙ e))

  pub back_still : room₁ b a ≡ room b a
  back_still = m.elsewhere b a (omega arith) (omega arith)
      (λ i l e f. r.track.once i depth l (omega arith) (sym e ∙ sym r.ends))
      (λ i l e f. r.not_direct i l (sym f) (sym e))

  pub turned_round : {room' : ℕ → ℕ → ℕ} → Pushed room₁ room' b a d → 0 < d → (most : ℕ) → d ≤ most → Turned n room room' a b most
  turned_round {room'} h some most fits = record {
    still = record {
      across = λ S. by S (S a) (S b) (crossing_pushed n few lb la ne h S)
          (subst (λ z. crossing n room₁ S + only (S a) d ≡ crossing n room S + only (S z) d) r.ends
          (subst (λ z. crossing n room₁ S + only (S z) d ≡ crossing n room S + only (S (path depth)) d) r.starts (m.across S)));
      same = record {
        pairs = λ x y lx ly. m.same.pairs x y lx ly ∙ pairs_pushed side (omega arith) (omega arith) (omega arith) ne h x y lx ly;
      };
    };
    wider = omega (arith, h.back, there_still);
    at_most = omega (arith, h.back, there_still);
  }
    where
      by : (S : ℕ → Bool) (s t : Bool)
          → crossing n room' S + only t (only (not s) d) ≡ crossing n room₁ S + only s (only (not t) d)
          → crossing n room₁ S + only s d ≡ crossing n room S + only t d → crossing n room S ≡ crossing n room' S
      by S true true e f = omega arith
      by S true false e f = omega arith
      by S false true e f = omega arith
      by S false false e f = omega arith

-- ---- rounds one after the other

pub still_none : {n : ℕ} {room : ℕ → ℕ → ℕ} → Still n room room
still_none = record { across = λ S. refl; same = record { pairs = λ x y lx ly. refl } }

pub still_more : {n : ℕ} {room room₁ room' : ℕ → ℕ → ℕ} → Still n room room₁ → Still n room₁ room' → Still n room room'
still_more k l = record {
  across = λ S. k.across S ∙ l.across S;
  same = record { pairs = λ x y lx ly. k.same.pairs x y lx ly ∙ l.same.pairs x y lx ly };
}

-- ---- no way round

module _ {n : ℕ} {rooms ways : List ℕ} {a b start : ℕ} (back : Bool) (set : ℕ) (desk : Desk n rooms ways) (la : a < n) (lb : b < n)
    (es : (z : ℕ) → holds start z ≡ eqb z a) (r : Reached (leads ways back) a b start (holds set)) (out : holds set b ≡ false) where
  abbrev room : ℕ → ℕ → ℕ
  room = seen rooms back

  fits : Fitting n room
  fits = fitting_facing rooms back desk.fitting

  shown : (x y : ℕ) → x < side → y < side → leads ways back x y ≡ ltb 0 (room x y)
  shown = desk.ways_show.shown back

  closed : Closed n room a b (holds set)
  closed = record {
    closed = λ x y lx ly sx st. r.closed x y sx (record {
      leads = shown x y (omega (arith, fits.few)) (omega (arith, fits.few)) ∙ lt-ltb 0 (room x y) st.room_there;
      node = omega (arith, fits.few);
      not_shut = st.not_shut;
    });
  }

  a_inside : holds set a ≡ true
  a_inside = r.starts_in a (es a ∙ eq-eqb a a refl)

  module _ (R : ℕ → Bool) (s : Splits a b R) (e : crossing n room R ≡ room a b) where
    -- a set with as little room has no step out but the direct one
    inside_by : (x y : ℕ) → x < n → y < n → R x ≡ true → 0 < room x y → (x ≡ a → y ≡ b → ⊥) → R y ≡ true
    inside_by x y lx ly rx more away = ⊎_elim
        (λ ry. ry)
        (λ ry. absurd (omega (arith, crossing_two n room R a b x y la lb lx ly s.inside s.outside rx ry away)))
        (true_or_false (R y))

    abbrev R' : ℕ → Bool
    R' x = R x && ltb x n

    closed' : (x y : ℕ) → R' x ≡ true → Open (leads ways back) a b x y → R' y ≡ true
    closed' x y h o =
        let lx = ltb-true x n (both_true (R x) _ h).1 in
        let more = ltb-true 0 (room x y) (sym (shown x y (omega (arith, lx, fits.few)) o.node) ∙ o.leads) in
        let ly = (fits.inside x y (omega (arith, lx, fits.few)) o.node more).1 in
        true_both (R y) _ (inside_by x y lx ly (both_true (R x) _ h).0 more o.not_shut) (lt-ltb y n ly)

    start_in : (z : ℕ) → holds start z ≡ true → R' z ≡ true
    start_in z hz = let same = eqb-true z a (sym (es z) ∙ hz) in true_both (R z) _ (rw same s.inside) (lt-ltb z n (rw same la))

    within : (x : ℕ) → holds set x ≡ true → R x ≡ true
    within x h = (both_true (R x) _ (r.least R' start_in closed' x h)).0

  pub stuck_tight : Tight n room a b (room a b) (holds set)
  stuck_tight = record {
    splits = record { inside = a_inside; outside = out };
    across = rw (a_inside, out) at (crossing_shut n room (holds set) a b la lb closed);
    least = λ R s e v lv. within R s e v;
  }

-- a round without a way
pub none_went : {n : ℕ} {far : Bool} {rooms ways : List ℕ} {a b set : ℕ} (back : Bool) → Desk n rooms ways → a < n → b < n
    → NoWay (leads ways back) a b set → WentRound n far (seen rooms back) (seen rooms back) a b false (holds set)
none_went {set = set} back desk la lb v = record {
  still = still_none;
  wider = λ f e. absurd (false≢true e);
  stuck = λ e. stuck_tight back set desk la lb v.all_reached.1 v.all_reached.2 v.outside;
  unmoved = λ e. refl;
}

-- ---- what is free of a width

module _ {n : ℕ} {room : ℕ → ℕ → ℕ} {a b width : ℕ} {S : ℕ → Bool} (la : a < n) (lb : b < n) where
  -- all of it, where the direct room is as wide
  pub whole_free : width ≤ room a b → Free n room a b width width S
  whole_free wide = record {
    fits = omega arith;
    enough = λ R s. omega (arith, crossing_member n room R a b la lb s.inside s.outside);
    tight = λ l. absurd (omega arith);
  }

  -- the direct room, where a set has no more
  pub stuck_free : room a b ≤ width → Tight n room a b (room a b) S → Free n room a b width (room a b) S
  stuck_free short t = record {
    fits = short;
    enough = λ R s. crossing_member n room R a b la lb s.inside s.outside;
    tight = λ l. t;
  }

-- as much is free in a state with the same room out of every set
pub still_free : {n : ℕ} {room room' : ℕ → ℕ → ℕ} {a b width free : ℕ} {S : ℕ → Bool} → Still n room room' → Free n room' a b width free S
    → Free n room a b width free S
still_free {S = S} k f = record {
  fits = f.fits;
  enough = λ R s. rw (k.across R) (f.enough R s);
  tight = λ l. let t = f.tight l in record {
    splits = t.splits;
    across = k.across S ∙ t.across;
    least = λ R s e. t.least R s (sym (k.across R) ∙ e);
  };
}

-- after rounds that keep the room out of every set: the direct room is as wide as asked for, or a set is in the way
module _ {n : ℕ} {room₀ room : ℕ → ℕ → ℕ} {a b width : ℕ} {S : ℕ → Bool} (la : a < n) (lb : b < n) (k : Still n room₀ room) where
  pub whole_measured : width ≤ room a b → Measured n room₀ room a b width width S
  whole_measured wide = record { still = k; amount = still_free k (whole_free la lb wide); there = wide }

  pub stuck_measured : {far : Bool} {room' : ℕ → ℕ → ℕ} → room a b < width → WentRound n far room room' a b false S
      → Measured n room₀ room' a b width (room a b) S
  stuck_measured short w = record {
    still = still_more k w.still;
    amount = still_free k (stuck_free la lb (omega arith) (w.stuck refl));
    there = omega (arith, w.unmoved refl);
  }

-- a change that keeps the room out of every set, and then rounds that make the direct room no wider: it is all there is across
module _ {n : ℕ} {room room₁ room' : ℕ → ℕ → ℕ} {a b free : ℕ} {S : ℕ → Bool} (la : a < n) (lb : b < n)
    (k : Still n room room₁) (m : Measured n room₁ room' a b (room a b + 1) free S) (less : free ≤ room a b) where
  tight : Tight n room a b free S
  tight = (still_free k m.amount).tight (omega arith)

  all_across : free ≡ room a b
  all_across = let t = tight in omega (arith, crossing_member n room S a b la lb t.splits.inside t.splits.outside, t.across)

  pub far_stuck : {far : Bool} → WentRound n far room room' a b false S
  far_stuck = record {
    still = still_more k m.still;
    wider = λ f e. absurd (false≢true e);
    stuck = λ e. rw all_across at tight;
    unmoved = λ e. let t = tight in omega (
      arith,
      all_across,
      m.there,
      crossing_member n room' S a b la lb t.splits.inside t.splits.outside,
      k.across S,
      m.still.across S,
      t.across,
    );
  }

-- a way by the words is a round by the rooms
pub round_of : {n : ℕ} {rooms ways : List ℕ} {a b depth : ℕ} {path : ℕ → ℕ} (back : Bool) → Desk n rooms ways → a < n
    → WayRound (leads ways back) a b path depth → Round n (seen rooms back) a b path depth
round_of {n} {rooms} {a = a} {depth = depth} {path = path} back desk la v = record {
  track = record { node = node; once = v.track.once };
  starts = v.starts;
  ends = v.ends;
  rooms_there = there;
  not_direct = λ i l e f. (v.steps i l).not_shut e f;
}
  where
    there : (i : ℕ) → i < depth → 0 < seen rooms back (path i) (path (i + 1))
    there i l = let s = v.steps i l in
        ltb-true 0 _ (sym (desk.ways_show.shown back (path i) (path (i + 1)) (v.track.node i (omega arith)) s.node) ∙ s.leads)

    node : (i : ℕ) → i ≤ depth → path i < n
    node zero h = rw v.starts la
    node (suc i) h = let fits = fitting_facing rooms back desk.fitting in
        subst (λ j. path j < n) same (fits.inside (path i) (path (i + 1)) (v.track.node i (omega arith))
        (v.steps i (omega arith)).node (there i (omega arith))).1
      where
        same : i + 1 ≡ suc i
        same = omega arith

-- what was reached is in the way
pub way_none : (way turned : ℕ → ℕ → Bool) (a b start goal : ℕ) → a < side → b < side → (b ≡ a → ⊥)
    → ((x y : ℕ) → x < side → y < side → turned y x ≡ way x y) → ((z : ℕ) → holds start z ≡ eqb z a)
    → ((z : ℕ) → holds goal z ≡ turned b z && not (holds start z)) → (S : ℕ)
    → Reached way a b start (holds S) → ((x : ℕ) → holds S x ≡ true → holds goal x ≡ false) → NoWay way a b S
way_none way turned a b start goal la lb ne t es eg S r clear = record {
  all_reached = (start, es, r);
  outside = none_round way turned a b start goal la lb ne t es eg (holds S) r clear;
}
