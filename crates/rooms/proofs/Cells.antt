-- A room that is looked at the other way.
use Prim.Native.Nat.{ℕ}
use mathlib.Core.Path.{◌≡◌, refl}
use mathlib.Core.Bool.{Bool, true, false, not}
use mathlib.Core.List.{List}
use Rattle.rooms.specs.Room.{seen}

-- looked at the other way, the room from y to x
pub seen_turned : (rooms : List ℕ) (back : Bool) (x y : ℕ) → seen rooms (not back) y x ≡ seen rooms back x y
seen_turned rooms true x y = refl
seen_turned rooms false x y = refl
