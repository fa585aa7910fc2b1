-- The desk whichever way it is looked at, and after a change that keeps the room of each pair.
use Prim.Native.Nat.{ℕ, ◌<◌}
use mathlib.Core.Path.{◌≡◌, sym, ap, ◌∙◌}
use mathlib.Core.Bool.{Bool, true, false, not}
use mathlib.Core.List.{List}
use mathlib.Core.Logic.{by_cases}
use native.Mathlib.Omega.{arith}
use native.Mathlib.Decide.{dec_lt}
use lib.Dec.{ltb}
use Rattle.rooms.specs.Room.{side, seen, Fitting, SamePairs}
use Rattle.rooms.proofs.Cells.{seen_turned}
use Rattle.ways.specs.Ways.{leads, Ways, Desk}
use Rattle.ways.specs.Lent.{SameLent}
use Rattle.ways.specs.declared.Desk.{Desk as Lent}

-- the words looked at the other way
pub ways_turned : {rooms ways : List ℕ} → Ways rooms ways → (back : Bool) (x y : ℕ) → x < side → y < side
    → leads ways (not back) y x ≡ leads ways back x y
ways_turned {rooms} {ways} w back x y lx ly =
    w.shown (not back) y x ly lx ∙ ap (ltb 0) (seen_turned rooms back x y) ∙ sym (w.shown back x y lx ly)

pub fitting_facing : {n : ℕ} (rooms : List ℕ) (back : Bool) → Fitting n (seen rooms false) → Fitting n (seen rooms back)
fitting_facing rooms false f = f
fitting_facing rooms true f = record {
  few = f.few;
  inside = λ x y lx ly more. let w = f.inside y x ly lx more in (w.1, w.0);
  small = λ x y lx ly ne. f.small y x ly lx (λ e. ne (sym e));
}

pairs_facing : (rooms rooms' : List ℕ) (back : Bool) → SamePairs (seen rooms back) (seen rooms' back) → SamePairs (seen rooms false) (seen rooms' false)
pairs_facing rooms rooms' false s = s
pairs_facing rooms rooms' true s = record { pairs = λ x y lx ly. s.pairs y x ly lx }

fitting_kept : {n : ℕ} {room room' : ℕ → ℕ → ℕ} → Fitting n room → SamePairs room room' → Fitting n room'
fitting_kept {n} {room} {room'} f s = record {
  few = f.few;
  inside = λ x y lx ly more. by_cases (dec_lt 0 (room x y))
      (λ m. f.inside x y lx ly m)
      (λ z. let w = f.inside y x ly lx (omega (arith, s.pairs x y lx ly)) in (w.1, w.0));
  small = λ x y lx ly ne. omega (arith, s.pairs x y lx ly, f.small x y lx ly ne);
}

pub desk_kept : {n : ℕ} {rooms ways rooms' ways' : List ℕ} (back : Bool) → Desk n rooms ways → Ways rooms' ways'
    → SamePairs (seen rooms back) (seen rooms' back) → Desk n rooms' ways'
desk_kept {rooms = rooms} {rooms' = rooms'} back d w s =
    record { ways_show = w; fitting = fitting_kept d.fitting (pairs_facing rooms rooms' back s) }

-- one change after another
pub lent_on : {a b c : Lent} → SameLent a b → SameLent b c → SameLent a c
lent_on x y = record {
  rooms_length = y.rooms_length ∙ x.rooms_length;
  ways_length = y.ways_length ∙ x.ways_length;
  same_rooms = y.same_rooms ∙ x.same_rooms;
  same_ways = y.same_ways ∙ x.same_ways;
}
