-- The bytes that stand are those of the definition, and so is their check.
use Prim.Native.Nat.{◌+◌, ◌*◌}
use mathlib.Core.Path.{◌≡◌, sym, ap, ◌∙◌}
use lib.ListN.{length-set}
use Rattle.format.specs.Format.{first_edition, digit, body_byte, check_of}
use Rattle.format.specs.Held.{place, byte}
use Rattle.lists.proofs.Entries.{entries_on}
use Rattle.format.proofs.Places.{body_at, check_low, check_high, check_same}
use native.Mathlib.Omega.{arith}
use Rattle.writing.proofs.write_check.Goals as goal

pub bounds-file-at-2 : goal.bounds-file-at-2
bounds-file-at-2 c = omega (arith, length-set c.args.file.now (c.args.b * 512 + 510) c.digit.result, c.requires)

pub shape_of-file : goal.shape_of-file
shape_of-file c = simp length-set

pub returns : goal.returns
returns c =
    λ p before filled.
    let b = c.args.b in
    let file = c.args.file.now in
    let at = b * 512 + 510 in
    let low = c.digit.result in
    let same : c.check_of-check.result ≡ check_of (body_byte first_edition p b) =
    c.check_of-check.ensures ∙ check_same (byte file b) (body_byte first_edition p b) (λ i l. filled.there (place b i) (omega arith) ∙ body_at first_edition p b i l) in
    let next : (b + 1) * 512 + 0 ≡ at + 1 + 1 = omega arith in
    rw next (entries_on (omega (arith, length-set file at low, c.requires))
    (c.digit-2.ensures ∙ ap (λ s. digit s 1) same ∙ sym (check_high first_edition p b))
    (entries_on (omega (arith, c.requires)) (c.digit.ensures ∙ ap (λ s. digit s 0) same ∙ sym (check_low first_edition p b)) filled))
