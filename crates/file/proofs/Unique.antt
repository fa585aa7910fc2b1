-- For every input each promise admits one answer and one content of what is lent: a verdict is one, and so are a file's plan, a
-- network's file and a block's payload.
use Prim.Native.Nat.{ℕ, ◌-◌}
use mathlib.Core.Path.{◌≡◌, refl, sym, ◌∙◌}
use Rattle.std.specs.Prelude.{Ok, Err}
use mathlib.Core.List.{List, []}
use native.Mathlib.Omega.{arith}
use lib.IntN.{ℤ}
use lib.ListN.{take, drop}
use Rattle.plan.specs.Plan.{Plan}
use Rattle.plan.specs.Verdict.{verdict_number, Verdict, Accepted}
use Rattle.plan.proofs.Refusals.{accepted_or_refused, some_number}
use Rattle.lists.proofs.Entries.{entries_unique}
use Rattle.lists.proofs.Arcs.{arcs_unique}
use Rattle.format.specs.Format.{Edition, payload_at, check_at}
use Rattle.format.specs.Held.{place}
use Rattle.file.specs.Answer.{Answer, Written, ReadAnswers, WriteAnswers, judged_block, shown, payload_of}

pub read_answers_unique : (e : Edition) (file : List ℕ) (supplies : List ℤ) (arcs : List ℕ) {s s' : List ℤ} {a a' : List ℕ} (r r' : Answer)
    → ReadAnswers e file supplies s arcs a r → ReadAnswers e file supplies s' arcs a' r' → (r ≡ r') × (s ≡ s') × (a ≡ a')
read_answers_unique e file supplies arcs {s} {s'} {a} {a'} (Ok p) (Ok p') x y =
    let nodes : p'.nodes ≡ p.nodes = y.says.1 ∙ sym x.says.1 in
    let count : p'.arcs ≡ p.arcs = y.says.2 ∙ sym x.says.2 in
    (rw (← nodes, ← count) refl, entries_unique x.says.3 (rw nodes at y.says.3), arcs_unique x.says.4 (rw count at y.says.4))
read_answers_unique e file supplies arcs (Ok p) (Err r) x y = absurd (accepted_or_refused x.says.0 y.says.0)
read_answers_unique e file supplies arcs (Err r) (Ok p) x y = absurd (accepted_or_refused y.says.0 x.says.0)
read_answers_unique e file supplies arcs (Err r) (Err r') x y = (
  cc (x.says.0, y.says.0),
  x.says.1 ∙ sym y.says.1,
  x.says.2 ∙ sym y.says.2,
)

pub write_answers_unique : (e : Edition) (p : Plan) (file : List ℕ) {f f' : List ℕ} (r r' : Written)
    → WriteAnswers e p file f r → WriteAnswers e p file f' r' → (r ≡ r') × (f ≡ f')
write_answers_unique e p file {f} {f'} (Ok n) (Ok n') x y =
    let long : n' ≡ n = y.says.1 ∙ sym x.says.1 in
    (rw long, entries_unique x.says.2 (rw long at y.says.2))
write_answers_unique e p file (Ok n) (Err r) x y = absurd (accepted_or_refused x.says.0 y.says.0)
write_answers_unique e p file (Err r) (Ok n) x y = absurd (accepted_or_refused y.says.0 x.says.0)
write_answers_unique e p file (Err r) (Err r') x y = (cc (x.says.0, y.says.0), x.says.1 ∙ sym y.says.1)

pub payload_unique : (e : Edition) (file : List ℕ) (block : ℕ) {a b : List ℕ} {v w : Verdict}
    → a ≡ payload_of e file block → v ≡ judged_block e file block → b ≡ payload_of e file block → w ≡ judged_block e file block
    → (a ≡ b) × (v ≡ w)
payload_unique e file block x u y t = (x ∙ sym y, u ∙ sym t)

-- ---- number 0

-- no fault has the number 0, so a verdict that turns down has another
zero_accepted : (v : Verdict) → verdict_number v ≡ 0 → v ≡ Accepted
zero_accepted (Ok u) e = refl
zero_accepted (Err r) e = let some = some_number r.fault in absurd (omega (arith, e))

-- number 0 goes with the bytes of the block, and any other number with nothing
pub payload_exactly_if_zero : (e : Edition) (file : List ℕ) (block : ℕ)
    → (verdict_number (judged_block e file block) ≡ 0 → payload_of e file block ≡ take (check_at - payload_at) (drop (place block payload_at) file))
    × ((verdict_number (judged_block e file block) ≡ 0 → ⊥) → payload_of e file block ≡ [])
payload_exactly_if_zero e file block = (
  λ zero_is. rw (zero_accepted (judged_block e file block) zero_is),
  λ other. nothing (judged_block e file block) other,
)
  where
    nothing : (v : Verdict) → (verdict_number v ≡ 0 → ⊥) → shown v (take (check_at - payload_at) (drop (place block payload_at) file)) ≡ []
    nothing (Ok u) other = absurd (other refl)
    nothing (Err r) other = refl
