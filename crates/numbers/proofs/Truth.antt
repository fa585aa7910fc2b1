-- Truth values joined and met, taken apart and put together.
use mathlib.Core.Path.{◌≡◌, refl}
use mathlib.Core.Bool.{Bool, true, false, not, ◌&&◌, ◌||◌, false≢true}
use mathlib.Core.Logic.{◌⊎◌, inl, inr}

pub both_true : (s t : Bool) → s && t ≡ true → (s ≡ true) × (t ≡ true)
both_true true t e = (refl, e)
both_true false t e = absurd (false≢true e)

pub true_both : (s t : Bool) → s ≡ true → t ≡ true → s && t ≡ true
true_both s t e f = rw (e, f)

pub either_true : (s t : Bool) → s || t ≡ true → (s ≡ true) ⊎ (t ≡ true)
either_true true t e = inl refl
either_true false t e = inr e

pub true_left : (s t : Bool) → s ≡ true → s || t ≡ true
true_left s t e = rw e

pub true_right : (s t : Bool) → t ≡ true → s || t ≡ true
true_right true t e = refl
true_right false t e = e

pub true_or_false : (t : Bool) → (t ≡ true) ⊎ (t ≡ false)
true_or_false true = inl refl
true_or_false false = inr refl

pub true_not : (t : Bool) → t ≡ false → not t ≡ true
true_not t e = rw e
