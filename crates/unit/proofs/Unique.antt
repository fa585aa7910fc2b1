-- The struct that crosses to C is read off the answer, and there is one answer: so there is one struct, and one content of
-- each lent buffer.
use Prim.Native.Nat.{ℕ}
use mathlib.Core.Path.{◌≡◌, ap, sym, ◌∙◌}
use mathlib.Core.List.{List}
use lib.IntN.{ℤ}
use Rattle.plan.specs.Plan.{Plan}
use Rattle.flow.specs.Answer.{FlowAnswers}
use Rattle.flow.proofs.Unique.{flow_answers_unique}
use Rattle.narrow.specs.Answer.{NarrowAnswers}
use Rattle.narrow.proofs.Unique.{narrow_answers_unique}
use Rattle.reason.specs.Answer.{ReasonAnswers}
use Rattle.reason.proofs.Unique.{reason_answers_unique}
use Rattle.held.specs.Answer.{HeldAnswers}
use Rattle.held.proofs.Unique.{held_answers_unique}
use Rattle.count.specs.Answer.{Buffers, CountAnswers, NetworkAnswers}
use Rattle.count.proofs.Unique.{count_answers_unique, network_answers_unique}
use Rattle.format.specs.Format.{Edition}
use Rattle.file.specs.Answer.{ReadAnswers, WriteAnswers}
use Rattle.file.proofs.Unique.{read_answers_unique, write_answers_unique}
use Rattle.crossing.specs.Payload.{PayloadAnswers}
use Rattle.crossing.specs.declared.answer.Answer.{Answer}
use Rattle.crossing.specs.Crossing.{Reading, Crosses, crossing, flow_reading, reason_reading, held_reading, verdict_reading, read_reading, written_reading, payload_reading}

-- what two promises say that admit one answer between them, they say of what crosses
pub crosses_unique : {A Same : Type 0} {reading : Reading A} {P Q : A → Type 0} {r r' : Answer}
    → ((a b : A) → P a → Q b → (a ≡ b) × Same) → Crosses reading P r → Crosses reading Q r' → (r ≡ r') × Same
crosses_unique {reading = reading} unique x y =
    let (same, more) = unique x.answer y.answer x.answers y.answers in
    (x.crossed_is ∙ ap (crossing reading) same ∙ sym y.crossed_is, more)

-- the answer, and the two buffers together
paired : {A B C : Type 0} → A × B × C → A × (B × C)
paired (a, b, c) = (a, (b, c))

-- ---- networks

module _ (p : Plan) where
  pub flow_crosses_unique : (arcs nodes : List ℕ) {a n a' n' : List ℕ} {r r' : Answer}
      → Crosses flow_reading (FlowAnswers p arcs nodes a n) r → Crosses flow_reading (FlowAnswers p arcs nodes a' n') r'
      → (r ≡ r') × ((a ≡ a') × (n ≡ n'))
  flow_crosses_unique arcs nodes = crosses_unique (λ r s x y. paired (flow_answers_unique p arcs nodes r s x y))

  pub narrow_crosses_unique : (lows highs : List ℕ) {l h l' h' : List ℕ} {r r' : Answer}
      → Crosses flow_reading (NarrowAnswers p lows highs l h) r → Crosses flow_reading (NarrowAnswers p lows highs l' h') r'
      → (r ≡ r') × ((l ≡ l') × (h ≡ h'))
  narrow_crosses_unique lows highs = crosses_unique (λ r s x y. paired (narrow_answers_unique p lows highs r s x y))

  pub reason_crosses_unique : (arc end : ℕ) (arcs nodes : List ℕ) {a n a' n' : List ℕ} {r r' : Answer}
      → Crosses reason_reading (ReasonAnswers p arc end arcs nodes a n) r
      → Crosses reason_reading (ReasonAnswers p arc end arcs nodes a' n') r' → (r ≡ r') × ((a ≡ a') × (n ≡ n'))
  reason_crosses_unique arc end arcs nodes = crosses_unique (λ r s x y. paired (reason_answers_unique p arc end arcs nodes r s x y))

  pub held_crosses_unique : (arc count : ℕ) (arcs : List ℕ) {a a' : List ℕ} {r r' : Answer}
      → Crosses held_reading (HeldAnswers p arc count arcs a) r → Crosses held_reading (HeldAnswers p arc count arcs a') r'
      → (r ≡ r') × (a ≡ a')
  held_crosses_unique arc count arcs = crosses_unique (held_answers_unique p arc count arcs)

-- ---- counting plans

module _ (domains counts : List ℕ) where
  pub count_crosses_unique : (b : Buffers) {x y : Buffers} {r r' : Answer}
      → Crosses flow_reading (CountAnswers domains counts b x) r → Crosses flow_reading (CountAnswers domains counts b y) r' → (r ≡ r') × (x ≡ y)
  count_crosses_unique b = crosses_unique (count_answers_unique domains counts b)

  pub count_network_crosses_unique : (supplies : List ℤ) (arcs : List ℕ) {s s' : List ℤ} {a a' : List ℕ} {r r' : Answer}
      → Crosses verdict_reading (NetworkAnswers domains counts supplies arcs s a) r
      → Crosses verdict_reading (NetworkAnswers domains counts supplies arcs s' a') r' → (r ≡ r') × ((s ≡ s') × (a ≡ a'))
  count_network_crosses_unique supplies arcs = crosses_unique (λ r s x y. paired (network_answers_unique domains counts supplies arcs x y))

-- ---- plan files

module _ (e : Edition) where
  pub read_crosses_unique : (file : List ℕ) (supplies : List ℤ) (arcs : List ℕ) {s s' : List ℤ} {a a' : List ℕ} {r r' : Answer}
      → Crosses read_reading (ReadAnswers e file supplies s arcs a) r
      → Crosses read_reading (ReadAnswers e file supplies s' arcs a') r' → (r ≡ r') × ((s ≡ s') × (a ≡ a'))
  read_crosses_unique file supplies arcs = crosses_unique (λ r s x y. paired (read_answers_unique e file supplies arcs r s x y))

  pub write_crosses_unique : (p : Plan) (file : List ℕ) {f f' : List ℕ} {r r' : Answer}
      → Crosses written_reading (WriteAnswers e p file f) r → Crosses written_reading (WriteAnswers e p file f') r' → (r ≡ r') × (f ≡ f')
  write_crosses_unique p file = crosses_unique (write_answers_unique e p file)

  -- nothing is lent for writing
  pub payload_crosses_unique : (file : List ℕ) (block : ℕ) {r r' : Answer}
      → Crosses payload_reading (PayloadAnswers e file block) r → Crosses payload_reading (PayloadAnswers e file block) r' → r ≡ r'
  payload_crosses_unique file block x y =
      (crosses_unique {Same = Unit {0}} (λ r s a b. (a.part_is ∙ sym b.part_is, tt)) x y).0
