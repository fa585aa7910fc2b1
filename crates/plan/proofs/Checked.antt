-- From the check to a request's answer: which verdict it is, and what acceptance says of the plan and of two lent buffers.
use Prim.Native.Nat.{ℕ, ◌*◌, ◌/◌, ◌≤◌}
use mathlib.Core.Path.{◌≡◌, sym, ap, ◌∙◌}
use mathlib.Core.Bool.{Bool, false, ◌||◌}
use mathlib.Core.List.{List}
use lib.Dec.{ltb}
use lib.IntN.{ℤ}
use lib.ListN.{length}
use native.Mathlib.Omega.{arith}
use borrow.Author.Tests.{ltb-false, le-ltb}
use Rattle.plan.specs.Limits.{arc_entries}
use Rattle.plan.specs.Plan.{Plan, WellFormed}
use Rattle.plan.specs.declared.Fault.TheVariants.{Missing}
use Rattle.plan.specs.Verdict.{verdict, network_rules, asking_rules, lent_short, lists_short, Verdict, Accepted}
use Rattle.plan.proofs.Refusals.{accepted_well_formed, accepted_buffers_fit, well_formed_accepted, last_passes, neither}

-- two lent buffers, of which m and n entries are asked, and which the check was told of
module _ (p : Plan) (first second : List ℕ) {short : Bool} {m n m' n' : ℕ} (m_is : m ≡ m') (n_is : n ≡ n')
    (short_is : short ≡ (ltb (length first) m || ltb (length second) n)) where
  lent : short ≡ lent_short first m' second n'
  lent = rw (m_is, n_is) at short_is

  -- the check's verdict is the one that the definition asks for
  pub checked_verdict : {v : Verdict} → v ≡ verdict (network_rules p short) → verdict (network_rules p (lent_short first m' second n')) ≡ v
  checked_verdict checked = sym (ap (λ b. verdict (network_rules p b)) lent) ∙ sym checked

  pub asked_verdict : (missing : Bool) {v : Verdict} → v ≡ verdict (asking_rules p short missing)
      → verdict (asking_rules p (lent_short first m' second n') missing) ≡ v
  asked_verdict missing checked = sym (ap (λ b. verdict (asking_rules p b missing)) lent) ∙ sym checked

-- what acceptance says of the plan and of the buffers
module _ (p : Plan) (first second : List ℕ) (m n : ℕ) (accepted : verdict (network_rules p (lent_short first m second n)) ≡ Accepted) where
  pub accepted_plan : WellFormed p
  accepted_plan = accepted_well_formed p (lent_short first m second n) accepted

  both_fit : (ltb (length first) m ≡ false) × (ltb (length second) n ≡ false)
  both_fit = neither _ _ (accepted_buffers_fit p (lent_short first m second n) accepted)

  pub first_fits : m ≤ length first
  first_fits = ltb-false (length first) m both_fit.0

  pub second_fits : n ≤ length second
  second_fits = ltb-false (length second) n both_fit.1

-- and back: a well-formed plan is accepted, where no buffer is too short and nothing that is asked about is missing
module _ (p : Plan) (w : WellFormed p) {short : Bool} (long : short ≡ false) where
  pub well_formed_judged : verdict (network_rules p short) ≡ Accepted
  well_formed_judged = rw long (well_formed_accepted p w)

  pub well_formed_asked : {missing : Bool} → missing ≡ false → verdict (asking_rules p short missing) ≡ Accepted
  well_formed_asked {missing} there = last_passes (network_rules p short) Missing missing well_formed_judged there

pub both_long : (first second : List ℕ) {m n : ℕ} → m ≤ length first → n ≤ length second → lent_short first m second n ≡ false
both_long first second {m} {n} first_long second_long = rw (le-ltb (length first) m first_long, le-ltb (length second) n second_long)

-- what the two lent lists lack, told by counts that are the plan's
pub lists_told : (p : Plan) (supplies : List ℤ) (arcs : List ℕ) {nodes count : ℕ} {short : Bool} → nodes ≡ p.nodes → count ≡ p.arcs
    → short ≡ (ltb (length supplies) nodes || ltb (length arcs / arc_entries) count) → lists_short p supplies arcs ≡ short
lists_told p supplies arcs n m is = sym (rw (n, m) at is)

pub lists_fit : (p : Plan) (supplies : List ℤ) (arcs : List ℕ) → lists_short p supplies arcs ≡ false
    → (p.nodes ≤ length supplies) × (p.arcs * arc_entries ≤ length arcs)
lists_fit p supplies arcs fits =
    let both = neither (ltb (length supplies) p.nodes) (ltb (length arcs / arc_entries) p.arcs) fits in
    (ltb-false (length supplies) p.nodes both.0, omega (arith, ltb-false (length arcs / arc_entries) p.arcs both.1))
