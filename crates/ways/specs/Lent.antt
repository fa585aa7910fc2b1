-- The desk holds the same two lists, as its owner lent them, and they stay as long as they were. Without the first the owner
-- would not learn what his lists hold.
use Rattle.std.specs.Prelude.{◌≡◌, length}
use Rattle.ways.specs.declared.Desk.{Desk}

pub record SameLent (desk desk' : Desk) : Type 0 where
  pub rooms_length : length desk'.rooms.now ≡ length desk.rooms.now
  pub ways_length : length desk'.ways.now ≡ length desk.ways.now
  pub same_rooms : desk'.rooms.ghost_name ≡ desk.rooms.ghost_name
  pub same_ways : desk'.ways.ghost_name ≡ desk.ways.ghost_name
