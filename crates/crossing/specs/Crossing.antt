-- How an answer crosses to C: as a struct of three numbers that say which answer it is.
use Rattle.std.specs.Prelude.{ℕ, ◌≡◌, ℤ, pos}
use Rattle.plan.specs.Verdict.{verdict_number, verdict_place, Verdict}
use Rattle.flow.specs.Answer as flow
use Rattle.reason.specs.Answer as reason
use Rattle.held.specs.Answer as held
use Rattle.file.specs.Answer as file
use Rattle.crossing.specs.Payload.{Part}
use Rattle.crossing.specs.declared.answer.Answer.{Answer}

-- how the answers of a request are read: document 01's number, and the place and the value that go with it
pub record Reading (A : Type 0) : Type 0 where
  pub number : A → ℕ
  pub place : A → ℕ
  pub carried : A → ℤ

-- the struct that an answer crosses as
abbrev pub crossing : {A : Type 0} → Reading A → A → Answer
crossing reading answer =
    record { number = reading.number answer; index = reading.place answer; value = reading.carried answer }

-- C's struct is that of an answer which the request may give
pub record Crosses {A : Type 0} (reading : Reading A) (Answers : A → Type 0) (crossed : Answer) : Type 0 where
  pub answer : A
  pub answers : Answers answer
  pub crossed_is : crossed ≡ crossing reading answer

-- narrowing's answers are the flow question's, and so are the counting request's
abbrev pub flow_reading : Reading flow.Answer
flow_reading = record { number = flow.number; place = flow.place; carried = flow.carried }

abbrev pub reason_reading : Reading reason.Answer
reason_reading = record { number = reason.number; place = reason.place; carried = reason.carried }

abbrev pub held_reading : Reading held.Answer
held_reading = record { number = held.number; place = held.place; carried = held.carried }

-- a verdict carries nothing
abbrev pub verdict_reading : Reading Verdict
verdict_reading = record { number = verdict_number; place = verdict_place; carried = λ v. pos 0 }

-- a file that was read has its node count for a place, and its arc count for a value
abbrev pub read_reading : Reading file.Answer
read_reading = record { number = file.number; place = file.read_place; carried = λ r. pos (file.arcs_read r) }

-- a file that was written has its length for a value
abbrev pub written_reading : Reading file.Written
written_reading = record { number = file.written_number; place = file.written_index; carried = λ r. pos (file.written_length r) }

-- a payload has its first byte for a place, and its length for a value
abbrev pub payload_reading : Reading Part
payload_reading = record { number = λ p. verdict_number p.judged; place = λ p. p.start; carried = λ p. pos p.size }
