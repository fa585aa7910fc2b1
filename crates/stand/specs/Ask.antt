-- Asking a plan: it stands ready, in balance, or a set is its shortage set.
use Rattle.std.specs.Prelude.{ℕ, ◌≡◌, List, ℤ, Result, Ok, Err}
use Rattle.words.specs.Word.{holds}
use Rattle.plan.specs.Plan.{plan_of}
use Rattle.plan.specs.Shortage.{ShortBy}
use Rattle.stand.specs.Desk.{ReadyDesk}
use Rattle.stand.specs.declared.Shortage.{Shortage}

pub record AskedOf (arcs : List ℕ) (supplies : List ℤ) (rooms ways : List ℕ) (asked : Result Unit Shortage) : Type 0 where
  pub balances : asked ≡ Ok tt → ReadyDesk arcs supplies rooms ways
  pub lacks : (s : Shortage) → asked ≡ Err s → ShortBy (plan_of arcs supplies) s.value (holds s.set)
