-- Reading what was written gives the network back, and writing what was read gives the bytes back.
use Prim.Native.Nat.{ℕ, ◌+◌, ◌-◌, ◌*◌, ◌/◌, ◌%◌, ◌≤◌, ◌<◌}
use mathlib.Core.Path.{◌≡◌, refl, sym, ap, ◌∙◌}
use mathlib.Core.Bool.{false}
use mathlib.Core.List.{List, ◌∷◌}
use mathlib.Core.Logic.{by_cases}
use native.Mathlib.Omega.{arith}
use native.Mathlib.Decide.{ℕ_discrete, dec_lt}
use lib.Dec.{ltb}
use lib.IntN.{ℤ}
use lib.ListN.{length, take}
use lib.Seq.{ext_get_or, get_or-take, length-take-le}
use borrow.Author.Tests.{lt-ltb, le-ltb, ltb-false, eq-eqb, ne_eqb}
use Rattle.plan.specs.Limits.{arc_entries}
use Rattle.plan.specs.Plan.{Plan, plan_of}
use Rattle.plan.specs.Keeping.{SamePlan}
use Rattle.std.specs.Prelude.{Ok, Err}
use Rattle.plan.specs.declared.Fault.TheVariants.{Buffer}
use Rattle.plan.specs.Verdict.{verdict, whole, count_rules, limit_rules, lists_short, Accepted}
use Rattle.plan.proofs.Refusals.{accepted_or_refused, accepted_both, accepted_well_formed, accepted_buffers_fit}
use Rattle.plan.proofs.Checked.{lists_fit}
use Rattle.plan.proofs.Alike.{counts_alike, limits_alike}
use Rattle.lists.specs.Written.{SuppliesWritten, ArcsWritten}
use Rattle.lists.proofs.Same.{written_plan, supplies_alike, arcs_alike}
use Rattle.format.specs.Format.{first_edition, block_size, payload_at, check_at, digit, unsigned, content_end, content_byte, body_byte, block_byte, file_length, FileOf}
use Rattle.format.specs.Held.{held, Bytes}
use Rattle.blocks.specs.Rules.{FileAccepted}
use Rattle.blocks.proofs.Accepted.{reading_accepted, accepted_reading, counted_accepted}
use Rattle.file.specs.Answer.{Answer, Written, ReadAnswers, WriteAnswers, judged_network}
use Rattle.format.proofs.Places.{body_label, body_content, body_unused, check_same, inside_head, inside_arcs}
use Rattle.file.proofs.OneFile.{network_has_one_file, sound_is_the_file, accepted_is_the_file, file_accepted}

-- ---- plans that agree have one file

module _ (q p : Plan) (s : SamePlan q p) where
  content_same : (b j : ℕ) → payload_at + j < content_end first_edition p.nodes p.arcs b → content_byte first_edition q b j ≡ content_byte first_edition p b j
  content_same b j inside = by_cases (ℕ_discrete b 0)
      (λ is.
      let small = inside_head first_edition p.nodes p.arcs b j inside is in
      rw (eq-eqb b 0 is) (ap (λ z. digit (unsigned z) (j % 4)) (s.network.supply (j / 4) (omega (arith, small, s.network.nodes)))))
      (λ no.
      let k = (b - 1) * 84 + j / 6 in
      let small = inside_arcs first_edition p.nodes p.arcs b j inside no in
      let here : k < q.arcs = omega (arith, small, s.network.arcs) in
      rw (ne_eqb b 0 no, s.network.from k here, s.network.to k here, s.low k here, s.high k here))

  body_same : (b i : ℕ) → body_byte first_edition q b i ≡ body_byte first_edition p b i
  body_same b i = by_cases (dec_lt i payload_at)
      (λ first. body_label first_edition q b i first ∙ rw (s.network.nodes, s.network.arcs) (sym (body_label first_edition p b i first)))
      (λ no. by_cases (dec_lt i (content_end first_edition p.nodes p.arcs b))
      (λ inside.
      let back : payload_at + (i - payload_at) ≡ i = omega arith in
      body_content first_edition q b i (omega arith) (rw (s.network.nodes, s.network.arcs) inside)
      ∙ content_same b (i - payload_at) (rw back inside) ∙ sym (body_content first_edition p b i (omega arith) inside))
      (λ past.
      let after : content_end first_edition p.nodes p.arcs b ≤ i = omega arith in
      body_unused first_edition q b i (rw (s.network.nodes, s.network.arcs) after) ∙ sym (body_unused first_edition p b i after)))

  block_same : (b i : ℕ) → block_byte first_edition q b i ≡ block_byte first_edition p b i
  block_same b i = by_cases (dec_lt i check_at)
      (λ before. rw (lt-ltb i check_at before) (body_same b i))
      (λ no. rw (le-ltb i check_at (omega arith))
      (ap (λ c. digit c (i - check_at)) (check_same (body_byte first_edition q b) (body_byte first_edition p b) (λ j l. body_same b j))))

  long_same : file_length first_edition q ≡ file_length first_edition p
  long_same = rw s.network.arcs

  pub same_plan_one_file : {file : List ℕ} → FileOf first_edition p file → FileOf first_edition q file
  same_plan_one_file f = record {
    long = f.long ∙ sym long_same;
    bytes = λ x l. f.bytes x (omega (arith, long_same)) ∙ sym (block_same (x / block_size) (x % block_size));
  }

-- two accepted files that hold the same network are equal
pub accepted_files_one : (f g : List ℕ) → Bytes f → Bytes g → FileAccepted first_edition f → FileAccepted first_edition g
    → SamePlan (held first_edition f) (held first_edition g) → f ≡ g
accepted_files_one f g bytes_f bytes_g accepted_f accepted_g same =
    network_has_one_file first_edition (held first_edition f) f g (accepted_is_the_file f bytes_f accepted_f)
    (same_plan_one_file (held first_edition f) (held first_edition g) same (accepted_is_the_file g bytes_g accepted_g))

-- ---- reading what was written

-- the bytes written are the network's file
pub written_file : (p : Plan) (buffer file : List ℕ) (long : ℕ) → WriteAnswers first_edition p buffer file (Ok long) → FileOf first_edition p (take long file)
written_file p buffer file long a =
    let fits = ltb-false (length buffer) (file_length first_edition p) (accepted_buffers_fit p (ltb (length buffer) (file_length first_edition p)) a.says.0) in
    let is : long ≡ file_length first_edition p = a.says.1 in record {
      long = length-take-le long file (omega (arith, a.says.2.same_length, is)) ∙ is;
      bytes = λ x l. get_or-take long file x 0 (omega (arith, is)) ∙ a.says.2.there x (omega (arith, is));
    }

module _ (p : Plan) (buffer file : List ℕ) (long : ℕ) (a : WriteAnswers first_edition p buffer file (Ok long)) where
  abbrev again : List ℕ
  again = take long file

  back : FileAccepted first_edition again × SamePlan (held first_edition again) p
  back = file_accepted p (accepted_well_formed p (ltb (length buffer) (file_length first_edition p)) a.says.0) again (written_file p buffer file long a)

  -- reading those bytes into lists that are long enough gives the counts and the network
  pub read_what_was_written : (supplies supplies' : List ℤ) (arcs arcs' : List ℕ) → p.nodes ≤ length supplies → p.arcs ≤ length arcs / arc_entries
      → (r : Answer) → ReadAnswers first_edition again supplies supplies' arcs arcs' r
      → (r ≡ Ok (record { nodes = p.nodes; arcs = p.arcs })) × SuppliesWritten p p.nodes supplies supplies' × ArcsWritten p p.arcs arcs arcs'
  read_what_was_written supplies supplies' arcs arcs' enough enough' (Ok size) x =
      let same = back.1 in
      let nodes : size.nodes ≡ p.nodes = x.says.1 ∙ same.network.nodes in
      let count : size.arcs ≡ p.arcs = x.says.2 ∙ same.network.arcs in
      (rw (← nodes, ← count) refl, supplies_alike same x.says.1 x.says.3, arcs_alike same x.says.2 x.says.4)
  read_what_was_written supplies supplies' arcs arcs' enough enough' (Err r) x =
      let same = back.1 in
      let fits : lists_short (held first_edition again) supplies arcs ≡ false =
      rw (same.network.nodes, same.network.arcs, le-ltb (length supplies) p.nodes enough, le-ltb (length arcs / arc_entries) p.arcs enough') in
      let parts = reading_accepted first_edition again false back.0.accepted in
      absurd (accepted_or_refused (accepted_reading first_edition again parts.0 parts.2 fits) x.says.0)

-- ---- writing what was read

module _ (file : List ℕ) (bytes : Bytes file) (supplies supplies' : List ℤ) (arcs arcs' : List ℕ) (n m : ℕ)
    (x : ReadAnswers first_edition file supplies supplies' arcs arcs' (Ok (record { nodes = n; arcs = m }))) where
  abbrev plan : Plan
  plan = held first_edition file

  -- the entries that reading filled
  abbrev network : Plan
  network = plan_of (take (m * arc_entries) arcs') (take n supplies')

  same : SamePlan network plan
  same =
      let parts = reading_accepted first_edition file (lists_short plan supplies arcs) x.says.0 in
      let fits = lists_fit plan supplies arcs parts.1 in
      rw (x.says.1, x.says.2) (written_plan (rw x.says.2 at x.says.4) (rw x.says.1 at x.says.3)
      (omega (arith, fits.1, x.says.4.same_length)) (omega (arith, fits.0, x.says.3.same_length)))

  is_file : FileOf first_edition plan file
  is_file = sound_is_the_file file bytes (reading_accepted first_edition file (lists_short plan supplies arcs) x.says.0).0

  accepted : (buffer : List ℕ) → length file ≤ length buffer → judged_network first_edition network buffer ≡ Accepted
  accepted buffer enough =
      let parts = reading_accepted first_edition file (lists_short plan supplies arcs) x.says.0 in
      let short = ltb (length buffer) (file_length first_edition network) in
      let fits : short ≡ false = le-ltb (length buffer) (file_length first_edition network) (omega (arith, long_same network plan same, is_file.long)) in
      let limits : verdict (limit_rules network) ≡ Accepted = limits_alike same ∙ parts.2 in
      accepted_both (count_rules network) (whole Buffer short ∷ limit_rules network)
      (counts_alike same ∙ counted_accepted plan parts.0.counts) (rw fits limits)

  -- writing them to a buffer that is long enough gives the bytes of the file
  pub written_what_was_read : (buffer buffer' : List ℕ) → length file ≤ length buffer → (r : Written) → WriteAnswers first_edition network buffer buffer' r
      → (r ≡ Ok (length file)) × (take (length file) buffer' ≡ file)
  written_what_was_read buffer buffer' enough (Ok long) y =
      let is : long ≡ length file = y.says.1 ∙ long_same network plan same ∙ sym is_file.long in
      let whole : length (take (length file) buffer') ≡ length file = length-take-le (length file) buffer' (omega (arith, y.says.2.same_length, enough)) in (
        ap Ok is,
        ext_get_or 0 (take (length file) buffer') file whole
            (λ i l. get_or-take (length file) buffer' i 0 (omega (arith, whole))
            ∙ y.says.2.there i (omega (arith, whole, is))
            ∙ block_same network plan same (i / block_size) (i % block_size)
            ∙ sym (is_file.bytes i (omega (arith, whole, is_file.long)))),
      )
  written_what_was_read buffer buffer' enough (Err r) y = absurd (accepted_or_refused (accepted buffer enough) y.says.0)
