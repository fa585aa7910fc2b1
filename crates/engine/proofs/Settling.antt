-- One path after the other.
use Prim.Native.Nat.{ℕ, zero, suc, ◌+◌, ◌≤◌, ◌<◌}
use mathlib.Core.Path.{◌≡◌, sym, ◌∙◌, subst}
use mathlib.Core.Bool.{Bool, true, ◌&&◌, true≢false}
use mathlib.Core.List.{List}
use mathlib.Core.Logic.{by_cases}
use native.Mathlib.Omega.{arith}
use native.Mathlib.Decide.{dec_lt}
use lib.Dec.{ltb}
use borrow.Author.Tests.{lt-ltb, ltb-true}
use Rattle.rooms.specs.Room.{side, seen, Fitting, Kept}
use Rattle.rooms.specs.Move.{Less}
use Rattle.words.specs.Word.{holds}
use Rattle.engine.proofs.Account.{sum_in_less}
use Rattle.reach.specs.Reach.{Reach}
use Rattle.ways.specs.Ways.{Ways, leads, Desk}
use Rattle.ways.proofs.Desks.{fitting_facing}
use Rattle.reach.specs.Search.{Reached, Path}
use Rattle.numbers.proofs.Truth.{both_true, true_both}
use Rattle.engine.specs.Path.{Track, Moved}
use Rattle.engine.specs.Settle.{Shows, Errand, NoErrand, Delivery, Delivered}

-- ---- a delivery

pub delivered : (n : ℕ) {room room' : ℕ → ℕ → ℕ} (over under over' under' path : ℕ → ℕ) {depth d : ℕ} → n ≤ side → Track n path depth
    → Moved n room room' path depth d → Less over over' (path 0) d → Less under under' (path depth) d → 0 < d
    → Delivered n room over under room' over' under'
delivered n over under over' under' path {depth} {d} few t m o u more = record {
  kept = record {
    account = λ S. omega (
      arith,
      m.across S,
      sum_in_less n S over over' (path 0) d (t.node 0 (omega arith)) o,
      sum_in_less n S under under' (path depth) d (t.node depth (omega arith)) u,
    );
    same = m.same;
  };
  falls = omega (arith, sum_in_less n (λ v. true) over over' (path 0) d (t.node 0 (omega arith)) o);
}

-- ---- the path of an errand, with rooms

module _ {n : ℕ} {rooms ways : List ℕ} {over under : ℕ → ℕ} {spare lack : ℕ} (back : Bool) (desk : Desk n rooms ways) (so : Shows n over spare)
    (su : Shows n under lack) where
  w : Ways rooms ways
  w = desk.ways_show

  rest : Fitting n (seen rooms back)
  rest = fitting_facing rooms back desk.fitting

  pub errand_delivery : {path : ℕ → ℕ} {depth : ℕ} → Errand (leads ways back) spare lack path depth → Delivery n (seen rooms back) over under path depth
  errand_delivery {path} {depth} e = record {
    track = record { node = node; once = p.once };
    rooms_there = there;
    some_over = ltb-true 0 (over (path 0)) (both_true (ltb (path 0) n) _ (sym (so.shown (path 0)) ∙ p.starts)).1;
    some_under = ltb-true 0 (under (path depth)) (both_true (ltb (path depth) n) _ (sym (su.shown (path depth)) ∙ e.way_there.3 (path depth) p.ends)).1;
  }
    where
      p : Path (leads ways back) side side spare e.way_there.1 e.way_there.0 path depth
      p = e.way_there.2

      there : (i : ℕ) → i < depth → 0 < seen rooms back (path i) (path (i + 1))
      there i l = ltb-true 0 _ (sym (w.shown back (path i) (path (i + 1)) (p.node i (omega arith)) (p.step i l).node) ∙ (p.step i l).leads)

      node : (i : ℕ) → i ≤ depth → path i < n
      node zero h = ltb-true (path 0) n (both_true (ltb (path 0) n) _ (sym (so.shown (path 0)) ∙ p.starts)).0
      node (suc i) h = subst (λ j. path j < n) same (rest.inside (path i) (path (i + 1)) (p.node i (omega arith)) (p.step i (omega arith)).node (there i (omega arith))).1
        where
          same : i + 1 ≡ suc i
          same = omega arith

  -- no path: the reach
  pub errand_none : {set : ℕ} → NoErrand (leads ways back) spare lack set
      → Reach n (seen rooms back) over n n (holds set) × ((x : ℕ) → x < n → holds set x ≡ true → under x ≡ 0)
  errand_none {set} e = (
    record {
      holds = record { holds = λ x lx more. r.starts_in x (so.shown x ∙ true_both (ltb x n) _ (lt-ltb x n lx) (lt-ltb 0 (over x) more)) };
      closed = record {
        closed = λ x y lx ly sx st. r.closed x y sx (record {
          leads = w.shown back x y (omega (arith, rest.few)) (omega (arith, rest.few)) ∙ lt-ltb 0 (seen rooms back x y) st.room_there;
          node = omega (arith, rest.few);
          not_shut = λ ex. absurd (omega (arith, rest.few));
        });
      };
      least = λ R h c x lx sx. (both_true (R x) _ (r.least (λ z. R z && ltb z n)
          (λ z hz. let s = both_true (ltb z n) _ (sym (so.shown z) ∙ hz) in
          true_both (R z) _ (h.holds z (ltb-true z n s.0) (ltb-true 0 (over z) s.1)) s.0)
          (λ y z hy o.
          let ly = ltb-true y n (both_true (R y) _ hy).1 in
          let more = ltb-true 0 (seen rooms back y z) (sym (w.shown back y z (omega (arith, ly, rest.few)) o.node) ∙ o.leads) in
          let lz = (rest.inside y z (omega (arith, ly, rest.few)) o.node more).1 in
          true_both (R z) _ (c.closed y z ly lz (both_true (R y) _ hy).0 (record { room_there = more; not_shut = λ ey. absurd (omega (arith, ly)) })) (lt-ltb z n lz))
          x sx)).0;
    },
    λ x lx sx. by_cases (dec_lt 0 (under x))
        (λ more. absurd (true≢false (sym (su.shown x ∙ true_both (ltb x n) _ (lt-ltb x n lx) (lt-ltb 0 (under x) more)) ∙ e.clear x sx)))
        (λ z. omega arith),
  )
    where
      r : Reached (leads ways back) side side spare (holds set)
      r = e.all_reached

-- ---- one delivery after the other

pub kept_on : {n : ℕ} {room₀ room room' : ℕ → ℕ → ℕ} {over₀ under₀ over under over' under' : ℕ → ℕ}
    → Kept n room₀ over₀ under₀ room over under → Kept n room over under room' over' under' → Kept n room₀ over₀ under₀ room' over' under'
kept_on a b = record {
  account = λ S. omega (arith, a.account S, b.account S);
  same = record { pairs = λ x y lx ly. a.same.pairs x y lx ly ∙ b.same.pairs x y lx ly };
}
