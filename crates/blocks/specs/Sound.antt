-- What a file says of itself where no rule up to 14 turns it down: its length, its checks, its labels, its counts and its unused
-- bytes.
use Rattle.std.specs.Prelude.{ℕ, ◌%◌, ◌≤◌, ◌<◌, ◌≡◌, List, length}
use Rattle.plan.specs.Limits.{most_nodes, most_arcs}
use Rattle.plan.specs.Plan.{Plan}
use Rattle.format.specs.Format.{Edition, block_size, kind_at, number_at, first_at, second_at, check_at, blocks_of, kind_of, first_count, second_count, content_end, check_of}
use Rattle.format.specs.Held.{two, place, byte, held}
use Rattle.blocks.specs.Rules.{blocks_in}

pub record Shaped (e : Edition) (file : List ℕ) : Type 0 where
  pub some_byte : length file ≡ 0 → ⊥
  pub not_longer : length file ≤ e.longest
  pub whole_blocks : length file % block_size ≡ 0
  pub checks : (b : ℕ) → b < blocks_in file → two file (place b check_at) ≡ check_of (byte file b)
  pub kinds : (b : ℕ) → b < blocks_in file → byte file b kind_at ≡ kind_of e b
  pub numbers : (b : ℕ) → b < blocks_in file → byte file b number_at ≡ b

pub record CountsFit (p : Plan) : Type 0 where
  pub some_node : 1 ≤ p.nodes
  pub nodes_fit : p.nodes ≤ most_nodes
  pub arcs_fit : p.arcs ≤ most_arcs

pub record Contained (e : Edition) (nodes arcs : ℕ) (file : List ℕ) : Type 0 where
  pub blocks_are : blocks_in file ≡ blocks_of e arcs
  pub firsts : (b : ℕ) → b < blocks_in file → two file (place b first_at) ≡ first_count e nodes arcs b
  pub seconds : (b : ℕ) → b < blocks_in file → two file (place b second_at) ≡ second_count arcs b
  pub unused : (b i : ℕ) → b < blocks_in file → content_end e nodes arcs b ≤ i → i < check_at → byte file b i ≡ 0

-- all of these of a file, with the plan that it holds
pub record Sound (e : Edition) (file : List ℕ) : Type 0 where
  pub shape : Shaped e file
  pub counts : CountsFit (held e file)
  pub content : Contained e (held e file).nodes (held e file).arcs file
