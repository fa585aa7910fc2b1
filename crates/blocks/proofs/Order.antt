-- The order of the rules: what one list of rules says comes before what the next one says, and a rule that concerns nothing gives
-- way to what comes after.
use Prim.Native.Nat.{ℕ, ◌≤◌, ◌<◌}
use mathlib.Core.Path.{◌≡◌, sym, ◌∙◌}
use mathlib.Core.Bool.{Bool, true, false}
use mathlib.Core.List.{List, [], ◌∷◌, ◌++◌}
use native.Mathlib.Omega.{arith}
use lib.Dec.{leb}
use borrow.Author.Tests.{lt-leb, le-leb, eq-eqb, ne_eqb, leb-false}
use Rattle.std.specs.Prelude.{Ok, Err}
use Rattle.plan.specs.declared.Fault.TheVariants.{Buffer, Missing, FileLength, FileCheck, FileLabel, FileContent}
use Rattle.plan.specs.declared.Refusal.{Refusal}
use Rattle.plan.specs.Verdict.{Rule, lowest, verdict, whole, count_rules, limit_rules, Verdict, Accepted, Refused}
use Rattle.plan.proofs.Refusals.{before_refused, before_accepted, both_accepted, rule_refuses, rule_passes, accepted_clear}
use Rattle.format.specs.Format.{Edition, blocks_of}
use Rattle.format.specs.Held.{held}
use Rattle.blocks.specs.Rules.{blocks_in, length_wrong, check_wrong, label_wrong, content_wrong, shape_rules, content_rules, block_rules, reading_rules, payload_rules}

-- ---- 11, 12, 13

module _ (e : Edition) (file : List ℕ) where
  abbrev checks : Rule
  checks = record { fault = FileCheck; places = blocks_in file; concerns = check_wrong file }

  abbrev labels : Rule
  labels = record { fault = FileLabel; places = blocks_in file; concerns = label_wrong e file }

  pub length_refused : length_wrong e file ≡ true → Refused FileLength 0 ≡ verdict (shape_rules e file)
  length_refused wrong = rw wrong

  module _ (right : length_wrong e file ≡ false) where
    past_length : verdict (shape_rules e file) ≡ verdict (checks ∷ labels ∷ [])
    past_length = rw right

    pub check_refused : {r : Refusal} → Err r ≡ lowest FileCheck (check_wrong file) (blocks_in file) Accepted → Err r ≡ verdict (shape_rules e file)
    check_refused is = rule_refuses checks (labels ∷ []) is ∙ sym past_length

    pub labels_decide : (u : Unit {0}) → Ok u ≡ lowest FileCheck (check_wrong file) (blocks_in file) Accepted
        → lowest FileLabel (label_wrong e file) (blocks_in file) Accepted ≡ verdict (shape_rules e file)
    labels_decide u none = sym (past_length ∙ rule_passes checks (labels ∷ []) u none)

-- ---- 14

module _ (e : Edition) (nodes arcs : ℕ) (file : List ℕ) where
  pub blocks_refused : (blocks_in file ≡ blocks_of e arcs → ⊥) → Refused FileContent 0 ≡ verdict (content_rules e nodes arcs file)
  blocks_refused other = rw (ne_eqb (blocks_in file) (blocks_of e arcs) other)

  pub contents_decide : blocks_in file ≡ blocks_of e arcs
      → lowest FileContent (content_wrong e nodes arcs file) (blocks_in file) Accepted ≡ verdict (content_rules e nodes arcs file)
  contents_decide same = sym (rw (eq-eqb (blocks_in file) (blocks_of e arcs) same))

-- ---- all of them, up to the buffers

module _ (e : Edition) (file : List ℕ) where
  abbrev later : List Rule
  later = count_rules (held e file) ++ content_rules e (held e file).nodes (held e file).arcs file

  pub shape_turns_down : {v : Verdict} {r : Refusal} → v ≡ verdict (shape_rules e file) → v ≡ Err r → Err r ≡ verdict (block_rules e file)
  shape_turns_down = before_refused (shape_rules e file) later

  module _ {v : Verdict} (shape : v ≡ verdict (shape_rules e file)) (passed : v ≡ Accepted) {u : Verdict} (counts : u ≡ verdict (count_rules (held e file))) where
    pub counts_turn_down : {r : Refusal} → u ≡ Err r → Err r ≡ verdict (block_rules e file)
    counts_turn_down down =
        before_refused (count_rules (held e file)) (content_rules e (held e file).nodes (held e file).arcs file) counts down
        ∙ sym (before_accepted (shape_rules e file) later shape passed)

    pub content_decides : {w : Verdict} → u ≡ Accepted → w ≡ verdict (content_rules e (held e file).nodes (held e file).arcs file)
        → w ≡ verdict (block_rules e file)
    content_decides passed' content =
        content ∙ sym (before_accepted (count_rules (held e file)) (content_rules e (held e file).nodes (held e file).arcs file) counts passed')
        ∙ sym (before_accepted (shape_rules e file) later shape passed)

-- ---- 3 and 4 to 7 after them

module _ (e : Edition) (file : List ℕ) (short : Bool) {v : Verdict} (blocks : v ≡ verdict (block_rules e file)) where
  abbrev buffers_on : List Rule
  buffers_on = whole Buffer short ∷ limit_rules (held e file)

  pub blocks_turn_down : {r : Refusal} → v ≡ Err r → verdict (reading_rules e file short) ≡ Err r
  blocks_turn_down down = sym (before_refused (block_rules e file) buffers_on blocks down)

  module _ (passed : v ≡ Accepted) where
    pub buffers_turn_down : short ≡ true → verdict (reading_rules e file short) ≡ Refused Buffer 0
    buffers_turn_down is = before_accepted (block_rules e file) buffers_on blocks passed ∙ rw is

    pub limits_decide : {w : Verdict} → short ≡ false → w ≡ verdict (limit_rules (held e file)) → verdict (reading_rules e file short) ≡ w
    limits_decide is limits = before_accepted (block_rules e file) buffers_on blocks passed ∙ rw is (sym limits)

-- ---- 8 after all of them

module _ (e : Edition) (file : List ℕ) (block : ℕ) where
  abbrev missing : List Rule
  missing = whole Missing (leb (blocks_in file) block) ∷ []

  module _ {v : Verdict} (read : v ≡ verdict (reading_rules e file false)) where
    pub file_turns_down : {r : Refusal} → v ≡ Err r → Err r ≡ verdict (payload_rules e file block)
    file_turns_down = before_refused (reading_rules e file false) missing read

    module _ (passed : v ≡ Accepted) where
      pub missing_turns_down : blocks_in file ≤ block → Refused Missing 0 ≡ verdict (payload_rules e file block)
      missing_turns_down past =
          sym (before_accepted (reading_rules e file false) missing read passed ∙ rw (le-leb (blocks_in file) block past))

      pub block_there : block < blocks_in file → Accepted ≡ verdict (payload_rules e file block)
      block_there here =
          sym (before_accepted (reading_rules e file false) missing read passed ∙ rw (lt-leb (blocks_in file) block here))

  pub payload_there : verdict (payload_rules e file block) ≡ Accepted → block < blocks_in file
  payload_there accepted = leb-false (blocks_in file) block
      ((accepted_clear missing (both_accepted (reading_rules e file false) missing accepted).1).0 0 (omega arith))
