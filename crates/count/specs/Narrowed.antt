-- What is read off the network's narrowed counts: the words of the new domains.
use Rattle.std.specs.Prelude.{ℕ, ◌+◌, ◌*◌, ◌≤◌, ◌<◌, ◌≡◌, ◌&&◌, List, ltb}
use Rattle.rooms.specs.Room.{at}
use Rattle.words.specs.Word.{holds}

-- value j can still occur where the high of its arc, which is highs' entry start + j, is above 0
pub record DomainOf (highs : List ℕ) (start values word : ℕ) : Type 0 where
  pub bits : (j : ℕ) → holds word j ≡ (ltb j values && ltb 0 (at highs (start + j)))

-- the words of the first n variables, and the rest of the buffer as it was
pub record DomainsOf (highs : List ℕ) (values n : ℕ) (domains domains' : List ℕ) : Type 0 where
  pub there : (i : ℕ) → i < n → DomainOf highs (i * values) values (at domains' i)
  pub past : (i : ℕ) → n ≤ i → at domains' i ≡ at domains i
