-- A page takes every listing: no number of a plan has more than five digits, and no shortfall more than twenty.
use Prim.Native.Nat.{ℕ, suc, ◌+◌, ◌*◌, ◌^◌, ◌≤◌, ◌<◌}
use mathlib.Core.Bool.{Bool, true, false, cond}
use lib.Dec.{eqb}
use mathlib.Core.List.{[], ◌∷◌, ◌++◌}
use native.Mathlib.Omega.{arith}
use lib.ListN.{length, length-append}
use Rattle.text.specs.Words.{Text, word, line_feed}
use Rattle.text.specs.Decimal.{base}
use Rattle.text.specs.Texts.{texts, fields, line, field}
use Rattle.text.proofs.Lengths.{field_short, fields_short, line_short}
use Rattle.text.proofs.Printing.{texts_short}
use Rattle.plan.specs.Plan.{Plan, Set, WellFormed}
use Rattle.plan.specs.Flow.{FirstFlow, Narrowed}
use Rattle.plan.specs.Reason.{no_marks}
use Rattle.lines.specs.Lines.{pair_line, size_line, refused_line, arc_line, none_line, member, set_line, cited_line}
use Rattle.listed.specs.Listing.{arc_of, arc_lines, cited_lines, flow_text, no_text, page_size}

module _ (d : ℕ) where
  pair_short : (first : Text) (x : ℕ) (second : Text) (y : ℕ) → x < base ^ suc d → y < base ^ suc d
      → length (pair_line first x second y) ≤ length first + length second + 2 * (2 + d) + 1
  pair_short first x second y small little = omega (
    arith,
    length-append (first ++ fields (x ∷ [])) (line second (y ∷ [])),
    length-append first (fields (x ∷ [])),
    fields_short d (x ∷ []) (small, tt),
    line_short d second (y ∷ []) (little, tt),
  )

pub refused_fits : (number index : ℕ) → number < base ^ 20 → index < base ^ 20 → length (refused_line number index) ≤ page_size
refused_fits number index small little = omega (arith, pair_short 19 (word "refused") number (word " at") index small little)

module _ (p : Plan) (w : WellFormed p) where
  size_short : length (size_line p.nodes p.arcs) ≤ 23
  size_short = omega (
    arith,
    pair_short 4 (word "nodes") p.nodes (word " arcs") p.arcs (omega (arith, w.nodes_fit)) (omega (arith, w.arcs_fit)),
  )

  pub flow_fits : {counts lows highs : ℕ → ℕ} → FirstFlow p counts → ((k : ℕ) → k < p.arcs → Narrowed p k (lows k) (highs k))
      → length (flow_text p counts lows highs) ≤ page_size
  flow_fits {counts} {lows} {highs} first narrowed = omega (
    arith,
    length-append (size_line p.nodes p.arcs) (arc_lines p counts lows highs),
    size_short,
    w.arcs_fit,
    texts_short (λ k. arc_line k (arc_of p k) (counts k) (lows k) (highs k)) 52 p.arcs arc_short,
  )
    where
      arc_short : (k : ℕ) → k < p.arcs → length (arc_line k (arc_of p k) (counts k) (lows k) (highs k)) ≤ 52
      arc_short k l =
          let low_occurs = (narrowed k l).low_end.occurs in
          let high_occurs = (narrowed k l).high_end.occurs in
          let most = w.high_fits k l in
          line_short 4 (word "arc") (k ∷ p.from k ∷ p.to k ∷ p.low k ∷ p.high k ∷ counts k ∷ lows k ∷ highs k ∷ []) (
            omega (arith, w.arcs_fit),
            (
              omega (arith, w.nodes_fit, w.from_node k l),
              (
                omega (arith, w.nodes_fit, w.to_node k l),
                (
                  omega (arith, most, w.uncrossed k l),
                  (
                    omega (arith, most),
                    (
                      omega (arith, most, first.flow.within.most k l),
                      (
                        omega (arith, most, low_occurs.there, low_occurs.flow.within.most k l),
                        (omega (arith, most, high_occurs.there, high_occurs.flow.within.most k l), tt),
                      ),
                    ),
                  ),
                ),
              ),
            ),
          )

  pub no_fits : {shortfall : ℕ} (S : Set) → shortfall < base ^ 20 → length (no_text p shortfall S) ≤ page_size
  no_fits {shortfall} S small = omega (
    arith,
    length-append (size_line p.nodes p.arcs ++ none_line shortfall ++ set_line p.nodes S) (cited_lines p (no_marks p S)),
    length-append (size_line p.nodes p.arcs ++ none_line shortfall) (set_line p.nodes S),
    length-append (size_line p.nodes p.arcs) (none_line shortfall),
    length-append (word "in" ++ texts p.nodes (member S)) (line_feed ∷ []),
    length-append (word "in") (texts p.nodes (member S)),
    size_short,
    line_short 19 (word "none") (shortfall ∷ []) (small, tt),
    texts_short (member S) 6 p.nodes member_short,
    texts_short (λ k. cited_line (no_marks p S k) k (arc_of p k)) 23 p.arcs (λ k l. cited_short k l (no_marks p S k)),
    w.nodes_fit,
    w.arcs_fit,
  )
    where
      member_short : (v : ℕ) → v < p.nodes → length (member S v) ≤ 6
      member_short v l = by (S v)
        where
          by : (t : Bool) → length (cond t (field v) []) ≤ 6
          by true = field_short 4 v (omega (arith, w.nodes_fit))
          by false = omega arith

      cited_short : (k : ℕ) → k < p.arcs → (mark : ℕ) → length (cited_line mark k (arc_of p k)) ≤ 23
      cited_short k l mark = by (eqb mark 2) (eqb mark 1)
        where
          k_short : k < base ^ 5
          k_short = omega (arith, w.arcs_fit)

          high_short : p.high k < base ^ 5
          high_short = omega (arith, w.high_fits k l)

          low_short : p.low k < base ^ 5
          low_short = omega (arith, w.high_fits k l, w.uncrossed k l)

          by : (high low : Bool) → length (cond high (pair_line (word "cites") k (word " high") (p.high k))
              (cond low (pair_line (word "cites") k (word " low") (p.low k)) [])) ≤ 23
          by true low = pair_short 4 (word "cites") k (word " high") (p.high k) k_short high_short
          by false true = omega (arith, pair_short 4 (word "cites") k (word " low") (p.low k) k_short low_short)
          by false false = omega arith
