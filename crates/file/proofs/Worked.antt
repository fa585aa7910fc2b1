-- Document 01's worked figures for the plan file: the check of P13, and how many blocks some arc counts need.
use mathlib.Core.Path.{◌≡◌, refl}
use lib.IntN.{pos}
use Rattle.plan.specs.Plan.{Plan}
use Rattle.format.specs.Format.{first_edition, weighted, blocks_of, body_byte, check_of, file_length}

-- one node, supply 0, no arcs
abbrev p13 : Plan
p13 = record { nodes = 1; arcs = 0; supply = λ v. pos 0; from = λ k. 0; to = λ k. 0; low = λ k. 0; high = λ k. 0 }

pub p13_file : (file_length first_edition p13 ≡ 512) × (check_of (body_byte first_edition p13 0) ≡ 4)
unfolding weighted
p13_file = (refl, refl)

-- of 0, 84, 85, 504, 505 and 512 arcs
pub block_counts : (blocks_of first_edition 0 ≡ 1) × (blocks_of first_edition 84 ≡ 2) × (blocks_of first_edition 85 ≡ 3)
    × (blocks_of first_edition 504 ≡ 7) × (blocks_of first_edition 505 ≡ 8) × (blocks_of first_edition 512 ≡ 8)
block_counts = (refl, refl, refl, refl, refl, refl)
