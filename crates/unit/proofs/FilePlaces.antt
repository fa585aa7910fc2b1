-- What the requests over a plan file tell C is small: a file has few blocks, and an accepted one few nodes and arcs.
use Prim.Native.Nat.{ℕ, ◌-◌, ◌%◌, ◌≤◌, ◌<◌}
use mathlib.Core.Path.{◌≡◌, refl, sym, ◌∙◌}
use mathlib.Core.Bool.{Bool, false, not, ◌||◌}
use mathlib.Core.List.{List, [], ◌∷◌, ◌++◌}
use native.Mathlib.Omega.{arith}
use lib.Dec.{leb, ltb, eqb}
use lib.IntN.{ℤ}
use lib.ListN.{length, take, drop}
use borrow.Author.Tests.{ltb-false}
use Rattle.std.specs.Prelude.{Ok, Err}
use Rattle.plan.specs.declared.Fault.TheVariants.{Buffer, Missing}
use Rattle.plan.specs.declared.Plan.{Plan}
use Rattle.plan.specs.Limits.{most_nodes, most_arcs}
use Rattle.plan.specs.Plan.{Plan as Meant}
use Rattle.plan.specs.Verdict.{whole, limit_rules, lists_short, Verdict}
use Rattle.plan.proofs.Refusals.{neither, both_accepted, accepted_well_formed}
use Rattle.format.specs.Format.{first_edition, block_size, payload_at, check_at, file_length}
use Rattle.format.specs.Held.{place, held}
use Rattle.blocks.specs.Rules.{blocks_in, length_wrong, content_rules, reading_rules}
use Rattle.blocks.specs.Sound.{Sound}
use Rattle.blocks.proofs.Accepted.{reading_accepted}
use Rattle.blocks.proofs.Order.{payload_there}
use Rattle.file.specs.Answer.{Answer, Written, ReadAnswers, WriteAnswers, arcs_read, written_index, written_length, judged_block, shown, read_place}
use Rattle.crossing.specs.Payload.{part_of, PayloadAnswers}
use Rattle.unit.proofs.Places.{Few, verdict_small, network_small, small_place}

-- ---- reading

blocks_few : (file : List ℕ) → length_wrong first_edition file ≡ false → blocks_in file ≤ most_arcs
blocks_few file right =
    let more = (neither (eqb (length file) 0) (ltb first_edition.longest (length file) || not (eqb (length file % block_size) 0)) right).1 in
    let not_longer = (neither (ltb first_edition.longest (length file)) (not (eqb (length file % block_size) 0)) more).0 in
    omega (arith, ltb-false first_edition.longest (length file) not_longer)

-- 11 leaves few blocks, 1 and 2 leave few nodes and arcs
reading_few : (file : List ℕ) (short : Bool) → Few (reading_rules first_edition file short)
reading_few file short = (
  omega arith,
  λ right.
      let few_blocks = blocks_few file (right 0 (omega arith)) in
      (few_blocks, λ _. (few_blocks, λ _. (omega arith, λ nodes. (omega arith, λ arcs. later few_blocks (nodes 0 (omega arith)) (arcs 0 (omega arith)))))),
)
  where
    p : Meant
    p = held first_edition file

    later : blocks_in file ≤ most_arcs → (eqb p.nodes 0 || ltb most_nodes p.nodes) ≡ false → ltb most_arcs p.arcs ≡ false
        → Few (content_rules first_edition p.nodes p.arcs file ++ (whole Buffer short ∷ limit_rules p))
    later few_blocks nodes arcs =
        let few_nodes = ltb-false most_nodes p.nodes (neither (eqb p.nodes 0) (ltb most_nodes p.nodes) nodes).1 in
        let few_arcs = ltb-false most_arcs p.arcs arcs in
        (omega arith, λ _. (few_blocks, λ _. (omega arith, λ _. (few_arcs, λ _. (few_arcs, λ _. (omega arith, λ _. (omega arith, λ _. tt)))))))

reading_sound : {file : List ℕ} {supplies : List ℤ} {arcs : List ℕ} {s : List ℤ} {a : List ℕ} {size : Plan}
    → ReadAnswers first_edition file supplies s arcs a (Ok size) → Sound first_edition file
reading_sound {file} {supplies} {arcs} x =
    (reading_accepted first_edition file (lists_short (held first_edition file) supplies arcs) x.says.0).0

pub read_small : {file : List ℕ} {supplies : List ℤ} {arcs : List ℕ} {s : List ℤ} {a : List ℕ} (r : Answer)
    → ReadAnswers first_edition file supplies s arcs a r → (read_place r < most_arcs) × (arcs_read r ≤ most_arcs)
read_small (Ok size) x = (
  omega (arith, x.says.1, (reading_sound x).counts.nodes_fit),
  omega (arith, x.says.2, (reading_sound x).counts.arcs_fit),
)
read_small {file} {supplies} {arcs} (Err r) x = (
  small_place (verdict_small (reading_rules first_edition file (lists_short (held first_edition file) supplies arcs))
      (reading_few file (lists_short (held first_edition file) supplies arcs))) x.says.0,
  omega arith,
)

-- ---- writing

pub write_small : {p : Meant} {file f : List ℕ} (r : Written)
    → WriteAnswers first_edition p file f r → (written_index r < most_arcs) × (written_length r ≤ first_edition.longest)
write_small {p} {file} (Ok n) x = (
  omega arith,
  omega (arith, x.says.1, (accepted_well_formed p (ltb (length file) (file_length first_edition p)) x.says.0).arcs_fit),
)
write_small {p} {file} (Err r) x =
    (small_place (network_small p (ltb (length file) (file_length first_edition p))) x.says.0, omega arith)

-- ---- the payload of a block

-- a block that is there starts before the longest file ends
pub part_small : (file : List ℕ) (block : ℕ) (v : Verdict) → v ≡ judged_block first_edition file block
    → (part_of block v).start ≤ first_edition.longest
part_small file block (Ok u) is =
    let missing = whole Missing (leb (blocks_in file) block) ∷ [] in
    let read = (both_accepted (reading_rules first_edition file false) missing (sym is)).0 in
    omega (arith, payload_there first_edition file block (sym is), (reading_accepted first_edition file false read).0.shape.not_longer)
part_small file block (Err r) is = omega arith

pub part_answers : (file : List ℕ) (block : ℕ) (v : Verdict) → v ≡ judged_block first_edition file block
    → PayloadAnswers first_edition file block (part_of block v)
part_answers file block v is = record { part_is = rw is; shows = by v ∙ rw is }
  where
    by : (v : Verdict) → take (part_of block v).size (drop (part_of block v).start file)
        ≡ shown v (take (check_at - payload_at) (drop (place block payload_at) file))
    by (Ok u) = refl
    by (Err r) = refl
