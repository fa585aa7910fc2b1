-- The records of a block's payload, read as arcs of a plan.
use Rattle.std.specs.Prelude.{ℕ, ◌+◌, ◌*◌, ◌<◌, ◌≡◌, List}
use Rattle.plan.specs.Plan.{Plan}
use Rattle.format.specs.Format.{Edition}
use Rattle.format.specs.Held.{one, two}

-- the records in a payload are `count` arcs of a plan, from arc `first`
pub record Records (e : Edition) (p : Plan) (first count : ℕ) (payload : List ℕ) : Type 0 where
  pub from_is : (j : ℕ) → j < count → one payload (j * e.record_size) ≡ p.from (first + j)
  pub to_is : (j : ℕ) → j < count → one payload (j * e.record_size + 1) ≡ p.to (first + j)
  pub low_is : (j : ℕ) → j < count → two payload (j * e.record_size + 2) ≡ p.low (first + j)
  pub high_is : (j : ℕ) → j < count → two payload (j * e.record_size + 4) ≡ p.high (first + j)
