-- Assignments are the flows of the network. A variable's node sends out 1 and takes in nothing, and so exactly one of its arcs
-- has 1, the one to its value. A value's node takes in how often it is used and sends that out on its one arc, to the last node.
-- So an assignment's counts are a flow, and a flow's counts are those of the assignment that can be read off it.
use Prim.Native.Nat.{ℕ, zero, suc, ◌+◌, ◌-◌, ◌*◌, ◌/◌, ◌%◌, ◌≤◌, ◌<◌}
use mathlib.Core.Path.{◌≡◌, refl, ap, ap₂, sym, ◌∙◌, subst}
use mathlib.Core.Bool.{Bool, true, false, cond}
use mathlib.Core.Logic.{⊎_elim, by_cases}
use native.Mathlib.Omega.{arith}
use native.Mathlib.Nat.{add-sub_cancel_left, add-sub_of_le}
use native.Mathlib.Decide.{dec_lt}
use lib.Dec.{eqb, ltb}
use lib.IntN.{pos, neg_ℤ}
use borrow.Author.Tests.{eq-eqb, ne_eqb, ltb-true, ltb-false, lt-ltb, le-ltb}
use Rattle.numbers.specs.Sums.{sum, only, sum_in}
use Rattle.numbers.specs.Parts.{plus, minus}
use Rattle.numbers.proofs.Parts.{neg_plus, neg_minus}
use Rattle.numbers.proofs.Sums.{last_or_before, eqb_cases, sum_same, sum_zero, sum_member, sum_swap, sum_picked}
use Rattle.plan.specs.Flow.{out, into, Within, Flow}
use Rattle.plan.proofs.Cut.{flow_balance, balance_flow}
use Rattle.counting.specs.Counting.{Counting, uses, Assignment}
use Rattle.counting.specs.Network.{pairs, last, network}
use Rattle.counting.proofs.Grid.{sum_split, sum_grid, sum_in_one, sum_in_none, sum_in_all, sum_ones}
use Rattle.counting.proofs.Grid.{pair_below, pair_row, pair_column, row_below, column_below, pair_number}

-- the counts that an assignment gives the arcs: 1 from each variable to its value, and from each value how often it is used
abbrev pub flow_of : Counting → (ℕ → ℕ) → ℕ → ℕ
flow_of c a k = cond (ltb k (pairs c)) (only (eqb (a (k / c.values)) (k % c.values)) 1) (uses c a (k - pairs c))

-- ---- the arcs and the nodes of the network

-- the number of the arc from a variable to a value, and that of the arc from a value to the last node
abbrev pub pair : Counting → ℕ → ℕ → ℕ
pair c i j = i * c.values + j

abbrev pub end : Counting → ℕ → ℕ
end c j = pairs c + j

-- what is true of both kinds of arcs is true of all
pub arc_cases : (c : Counting) (C : ℕ → Type 0)
    → ((i j : ℕ) → i < c.variables → j < c.values → C (pair c i j)) → ((j : ℕ) → j < c.values → C (end c j))
    → (k : ℕ) → k < (network c).arcs → C k
arc_cases c C of_pair of_end k l = by_cases (dec_lt k (pairs c))
    (λ m. subst C (sym (pair_number k c.values))
    (of_pair (k / c.values) (k % c.values) (row_below k c.variables c.values m)
    (column_below k c.variables c.values m)))
    (λ m. subst C (add-sub_of_le (omega arith)) (of_end (k - pairs c) (omega arith)))

-- what is true of the three kinds of nodes is true of all
pub node_cases : (c : Counting) (C : ℕ → Type 0)
    → ((i : ℕ) → i < c.variables → C i) → ((j : ℕ) → j < c.values → C (c.variables + j)) → C (last c)
    → (v : ℕ) → v < (network c).nodes → C v
node_cases c C of_variable of_value of_last v l = by_cases (dec_lt v c.variables)
    (of_variable v)
    (λ m. by_cases (dec_lt v (last c))
    (λ m'. subst C (add-sub_of_le (omega arith)) (of_value (v - c.variables) (omega arith)))
    (λ m'. subst C (omega arith) of_last))

-- of the two branches of a test whether an arc is one of the pairs, a pair's arc has the one and a value's arc the other
module _ (c : Counting) (at : ℕ → ℕ → ℕ) (after : ℕ → ℕ) where
  abbrev branch : Bool → ℕ → ℕ
  branch t k = cond t (at (k / c.values) (k % c.values)) (after (k - pairs c))

  at_pair : (i j : ℕ) → i < c.variables → j < c.values → branch (ltb (pair c i j) (pairs c)) (pair c i j) ≡ at i j
  at_pair i j l m =
      ap (λ t. branch t (pair c i j)) (lt-ltb (pair c i j) (pairs c) (pair_below l m))
      ∙ ap₂ at (pair_row i m) (pair_column i m)

  at_end : (j : ℕ) → branch (ltb (end c j) (pairs c)) (end c j) ≡ after j
  at_end j =
      ap (λ t. branch t (end c j)) (le-ltb (end c j) (pairs c) (omega arith))
      ∙ ap after (add-sub_cancel_left (pairs c) j)

module _ (c : Counting) where
  module _ (i j : ℕ) (l : i < c.variables) (m : j < c.values) where
    pub pair_from : (network c).from (pair c i j) ≡ i
    pair_from = at_pair c (λ x y. x) (λ y. c.variables + y) i j l m

    pub pair_to : (network c).to (pair c i j) ≡ c.variables + j
    pair_to = at_pair c (λ x y. c.variables + y) (λ y. last c) i j l m

    pub pair_low : (network c).low (pair c i j) ≡ 0
    pair_low = at_pair c (λ x y. 0) c.low i j l m

    pub pair_high : (network c).high (pair c i j) ≡ only (c.allowed i j) 1
    pair_high = at_pair c (λ x y. only (c.allowed x y) 1) c.high i j l m

    pub pair_flow : (a : ℕ → ℕ) → flow_of c a (pair c i j) ≡ only (eqb (a i) j) 1
    pair_flow a = at_pair c (λ x y. only (eqb (a x) y) 1) (uses c a) i j l m

  module _ (j : ℕ) where
    pub end_from : (network c).from (end c j) ≡ c.variables + j
    end_from = at_end c (λ x y. x) (λ y. c.variables + y) j

    pub end_to : (network c).to (end c j) ≡ last c
    end_to = at_end c (λ x y. c.variables + y) (λ y. last c) j

    pub end_low : (network c).low (end c j) ≡ c.low j
    end_low = at_end c (λ x y. 0) c.low j

    pub end_high : (network c).high (end c j) ≡ c.high j
    end_high = at_end c (λ x y. only (c.allowed x y) 1) c.high j

    pub end_flow : (a : ℕ → ℕ) → flow_of c a (end c j) ≡ uses c a j
    end_flow a = at_end c (λ x y. only (eqb (a x) y) 1) (uses c a) j

  -- the supplies: of a variable, of a value, of the last node
  pub variable_supply : (i : ℕ) → i < c.variables → (network c).supply i ≡ pos 1
  variable_supply i l = rw (lt-ltb i c.variables l)

  pub value_supply : (j : ℕ) → j < c.values → (network c).supply (c.variables + j) ≡ pos 0
  value_supply j l =
      rw (le-ltb (c.variables + j) c.variables (omega arith), lt-ltb (c.variables + j) (last c) (omega arith))

  pub last_supply : (network c).supply (last c) ≡ neg_ℤ (pos c.variables)
  last_supply = rw (le-ltb (last c) c.variables (omega arith), le-ltb (last c) (last c) (omega arith))

-- ---- what goes out of a node and what comes in

module _ (c : Counting) (f : ℕ → ℕ) where
  -- a sum over the arcs at a node: over the pairs at it, and over the values at it
  gathered : (at : ℕ → ℕ) (of_pair : ℕ → ℕ → ℕ) (of_end : ℕ → ℕ)
      → ((i j : ℕ) → i < c.variables → j < c.values → at (pair c i j) ≡ of_pair i j)
      → ((j : ℕ) → j < c.values → at (end c j) ≡ of_end j) → (v : ℕ)
      → sum_in (network c).arcs (λ k. eqb (at k) v) f
      ≡ sum c.variables (λ i. sum_in c.values (λ j. eqb (of_pair i j) v) (λ j. f (pair c i j)))
      + sum_in c.values (λ j. eqb (of_end j) v) (λ j. f (end c j))
  gathered at of_pair of_end pair_at end_at v = omega (
    arith,
    sum_split (pairs c) c.values (λ k. only (eqb (at k) v) (f k)),
    sum_grid c.variables c.values (λ k. only (eqb (at k) v) (f k)),
    sum_same c.variables
        (λ i. sum c.values (λ j. only (eqb (at (pair c i j)) v) (f (pair c i j))))
        (λ i. sum c.values (λ j. only (eqb (of_pair i j) v) (f (pair c i j))))
        (λ i l. sum_same c.values
        (λ j. only (eqb (at (pair c i j)) v) (f (pair c i j)))
        (λ j. only (eqb (of_pair i j) v) (f (pair c i j)))
        (λ j m. ap (λ x. only (eqb x v) (f (pair c i j))) (pair_at i j l m))),
    sum_same c.values
        (λ j. only (eqb (at (end c j)) v) (f (end c j)))
        (λ j. only (eqb (of_end j) v) (f (end c j)))
        (λ j m. ap (λ x. only (eqb x v) (f (end c j))) (end_at j m)),
  )

  gathered_out : (v : ℕ) → out (network c) f v
      ≡ sum c.variables (λ i. sum_in c.values (λ j. eqb i v) (λ j. f (pair c i j)))
      + sum_in c.values (λ j. eqb (c.variables + j) v) (λ j. f (end c j))
  gathered_out = gathered (network c).from (λ i j. i) (λ j. c.variables + j) (pair_from c) (λ j m. end_from c j)

  gathered_into : (v : ℕ) → into (network c) f v
      ≡ sum c.variables (λ i. sum_in c.values (λ j. eqb (c.variables + j) v) (λ j. f (pair c i j)))
      + sum_in c.values (λ j. eqb (last c) v) (λ j. f (end c j))
  gathered_into = gathered (network c).to (λ i j. c.variables + j) (λ j. last c) (pair_to c) (λ j m. end_to c j)

  -- a variable's node: its arcs go out
  pub out_variable : (i : ℕ) → i < c.variables → out (network c) f i ≡ sum c.values (λ j. f (pair c i j))
  out_variable i l = omega (
    arith,
    gathered_out i,
    only_row,
    sum_in_none c.values (λ j. eqb (c.variables + j) i) (λ j. f (end c j))
        (λ j m. ne_eqb (c.variables + j) i (λ e. omega arith)),
  )
    where
      row : ℕ → ℕ
      row x = sum c.values (λ j. f (pair c x j))

      counted : (x : ℕ) → sum_in c.values (λ j. eqb x i) (λ j. f (pair c x j)) ≡ only (eqb x i) (row x)
      counted x = eqb_cases (λ t. sum_in c.values (λ j. t) (λ j. f (pair c x j)) ≡ only t (row x)) x i
          (λ e. refl) (λ ne. sum_zero c.values (λ j. 0) (λ j m. refl))

      only_row : sum c.variables (λ x. sum_in c.values (λ j. eqb x i) (λ j. f (pair c x j))) ≡ row i
      only_row =
          sum_same c.variables (λ x. sum_in c.values (λ j. eqb x i) (λ j. f (pair c x j))) (λ x. only (eqb x i) (row x))
          (λ x m. counted x)
          ∙ sum_in_one c.variables (λ x. eqb x i) row i l (eq-eqb i i refl) (λ x m ne. ne_eqb x i ne)

  pub into_variable : (i : ℕ) → i < c.variables → into (network c) f i ≡ 0
  into_variable i l = omega (
    arith,
    gathered_into i,
    sum_zero c.variables (λ x. sum_in c.values (λ j. eqb (c.variables + j) i) (λ j. f (pair c x j)))
        (λ x m. sum_in_none c.values (λ j. eqb (c.variables + j) i) (λ j. f (pair c x j))
        (λ j m'. ne_eqb (c.variables + j) i (λ e. omega arith))),
    sum_in_none c.values (λ j. eqb (last c) i) (λ j. f (end c j)) (λ j m. ne_eqb (last c) i (λ e. omega arith)),
  )

  -- a value's node: one arc goes out, and one comes in from each variable
  pub out_value : (j : ℕ) → j < c.values → out (network c) f (c.variables + j) ≡ f (end c j)
  out_value j l = omega (
    arith,
    gathered_out (c.variables + j),
    sum_zero c.variables (λ i. sum_in c.values (λ y. eqb i (c.variables + j)) (λ y. f (pair c i y)))
        (λ i m. sum_in_none c.values (λ y. eqb i (c.variables + j)) (λ y. f (pair c i y))
        (λ y m'. ne_eqb i (c.variables + j) (λ e. omega arith))),
    sum_in_one c.values (λ y. eqb (c.variables + y) (c.variables + j)) (λ y. f (end c y)) j l
        (eq-eqb (c.variables + j) (c.variables + j) refl)
        (λ y m ne. ne_eqb (c.variables + y) (c.variables + j) (λ e. ne (omega arith))),
  )

  pub into_value : (j : ℕ) → j < c.values → into (network c) f (c.variables + j) ≡ sum c.variables (λ i. f (pair c i j))
  into_value j l = omega (
    arith,
    gathered_into (c.variables + j),
    sum_same c.variables
        (λ i. sum_in c.values (λ y. eqb (c.variables + y) (c.variables + j)) (λ y. f (pair c i y)))
        (λ i. f (pair c i j))
        (λ i m. sum_in_one c.values (λ y. eqb (c.variables + y) (c.variables + j)) (λ y. f (pair c i y)) j l
        (eq-eqb (c.variables + j) (c.variables + j) refl)
        (λ y m' ne. ne_eqb (c.variables + y) (c.variables + j) (λ e. ne (omega arith)))),
    sum_in_none c.values (λ y. eqb (last c) (c.variables + j)) (λ y. f (end c y))
        (λ y m. ne_eqb (last c) (c.variables + j) (λ e. omega arith)),
  )

  -- the last node: one arc comes in from each value
  pub out_last : out (network c) f (last c) ≡ 0
  out_last = omega (
    arith,
    gathered_out (last c),
    sum_zero c.variables (λ i. sum_in c.values (λ y. eqb i (last c)) (λ y. f (pair c i y)))
        (λ i m. sum_in_none c.values (λ y. eqb i (last c)) (λ y. f (pair c i y))
        (λ y m'. ne_eqb i (last c) (λ e. omega arith))),
    sum_in_none c.values (λ y. eqb (c.variables + y) (last c)) (λ y. f (end c y))
        (λ y m. ne_eqb (c.variables + y) (last c) (λ e. omega arith)),
  )

  pub into_last : into (network c) f (last c) ≡ sum c.values (λ j. f (end c j))
  into_last = omega (
    arith,
    gathered_into (last c),
    sum_zero c.variables (λ i. sum_in c.values (λ y. eqb (c.variables + y) (last c)) (λ y. f (pair c i y)))
        (λ i m. sum_in_none c.values (λ y. eqb (c.variables + y) (last c)) (λ y. f (pair c i y))
        (λ y m'. ne_eqb (c.variables + y) (last c) (λ e. omega arith))),
    sum_in_all c.values (λ y. f (end c y)) (eq-eqb (last c) (last c) refl),
  )

-- ---- from assignments to flows

module _ (c : Counting) (a : ℕ → ℕ) (s : Assignment c a) where
  -- a variable uses one value
  used_once : (i : ℕ) → i < c.variables → sum c.values (λ j. only (eqb (a i) j) 1) ≡ 1
  used_once i l = sum_picked c.values (a i) (λ j. 1) (s.value i l)

  -- the values are used as often as there are variables
  pub uses_in_all : sum c.values (uses c a) ≡ c.variables
  uses_in_all =
      sum_swap c.values c.variables (λ j i. only (eqb (a i) j) 1)
      ∙ sum_same c.variables (λ i. sum c.values (λ j. only (eqb (a i) j) 1)) (λ i. 1) used_once
      ∙ sum_ones c.variables

  pub assignment_within : Within (network c) (flow_of c a)
  assignment_within = record {
    least = arc_cases c (λ k. (network c).low k ≤ flow_of c a k)
        (λ i j l m. omega (arith, pair_low c i j l m))
        (λ j m. omega (arith, end_low c j, end_flow c j a, s.least j m));
    most = arc_cases c (λ k. flow_of c a k ≤ (network c).high k)
        (λ i j l m. omega (arith, pair_high c i j l m, pair_flow c i j l m a, allowed i j l))
        (λ j m. omega (arith, end_high c j, end_flow c j a, s.most j m));
  }
    where
      allowed : (i j : ℕ) → i < c.variables → only (eqb (a i) j) 1 ≤ only (c.allowed i j) 1
      allowed i j l = eqb_cases (λ t. only t 1 ≤ only (c.allowed i j) 1) (a i) j
          (λ e. omega (arith, ap (λ t. only t 1) (sym (ap (c.allowed i) e) ∙ s.in_domain i l)))
          (λ ne. omega arith)

  -- its counts balance at a node
  abbrev BalancedAt : ℕ → Type 0
  BalancedAt v =
      out (network c) (flow_of c a) v + minus ((network c).supply v) ≡ into (network c) (flow_of c a) v + plus ((network c).supply v)

  balanced_at_variable : (i : ℕ) → i < c.variables → BalancedAt i
  balanced_at_variable i l = omega (
    arith,
    out_variable c (flow_of c a) i l,
    into_variable c (flow_of c a) i l,
    ap minus (variable_supply c i l),
    ap plus (variable_supply c i l),
    sum_same c.values (λ j. flow_of c a (pair c i j)) (λ j. only (eqb (a i) j) 1) (λ j m. pair_flow c i j l m a),
    used_once i l,
  )

  balanced_at_value : (j : ℕ) → j < c.values → BalancedAt (c.variables + j)
  balanced_at_value j m = omega (
    arith,
    out_value c (flow_of c a) j m,
    into_value c (flow_of c a) j m,
    ap minus (value_supply c j m),
    ap plus (value_supply c j m),
    end_flow c j a,
    sum_same c.variables (λ i. flow_of c a (pair c i j)) (λ i. only (eqb (a i) j) 1) (λ i l. pair_flow c i j l m a),
  )

  balanced_at_last : BalancedAt (last c)
  balanced_at_last = omega (
    arith,
    out_last c (flow_of c a),
    into_last c (flow_of c a),
    ap minus (last_supply c) ∙ neg_minus (pos c.variables),
    ap plus (last_supply c) ∙ neg_plus (pos c.variables),
    sum_same c.values (λ j. flow_of c a (end c j)) (uses c a) (λ j m. end_flow c j a),
    uses_in_all,
  )

pub assignment_flows : (c : Counting) (a : ℕ → ℕ) → Assignment c a → Flow (network c) (flow_of c a)
assignment_flows c a s = balance_flow (assignment_within c a s) (node_cases c (BalancedAt c a s)
    (balanced_at_variable c a s) (balanced_at_value c a s) (balanced_at_last c a s))

-- ---- from flows to assignments

-- the first number below n that has a count: among those before the last, if these have one, or else the last
abbrev pub first_counted : ℕ → (ℕ → ℕ) → ℕ
first_counted zero g = 0
first_counted (suc n) g = cond (ltb 0 (sum n g)) (first_counted n g) n

-- a number below n has 1, and the others have none
abbrev OneCounted : ℕ → (ℕ → ℕ) → ℕ → Type 0
OneCounted n g x = (x < n) × ((j : ℕ) → j < n → g j ≡ only (eqb x j) 1)

-- where the counts come to 1, that is so of the first that has a count
first_counted_alone : (n : ℕ) (g : ℕ → ℕ) → sum n g ≡ 1 → OneCounted n g (first_counted n g)
first_counted_alone zero g e = absurd (omega arith)
first_counted_alone (suc n) g e = by (λ e'. first_counted_alone n g e') (ltb 0 (sum n g)) refl
  where
    by : (sum n g ≡ 1 → OneCounted n g (first_counted n g)) → (t : Bool) → ltb 0 (sum n g) ≡ t
        → OneCounted (suc n) g (cond t (first_counted n g) n)
    by before true some =
        let (below, counts) = before (omega (arith, ltb-true 0 (sum n g) some)) in (
          omega arith,
          λ j l. ⊎_elim
              (λ e'. rw (ne_eqb (first_counted n g) j (λ e''. omega arith)) (omega (arith, ap g e', ltb-true 0 (sum n g) some)))
              (counts j)
              (last_or_before l),
        )
    by before false none = (
      omega arith,
      λ j l. ⊎_elim
          (λ e'. rw (eq-eqb n j (sym e')) (omega (arith, ap g e', ltb-false 0 (sum n g) none)))
          (λ l'. rw (ne_eqb n j (λ e''. omega arith)) (omega (arith, sum_member n g j l', ltb-false 0 (sum n g) none)))
          (last_or_before l),
    )

-- the value that counts give a variable
abbrev pub value_at : Counting → (ℕ → ℕ) → ℕ → ℕ
value_at c f i = first_counted c.values (λ j. f (pair c i j))

module _ (c : Counting) (f : ℕ → ℕ) (s : Flow (network c) f) where
  -- a variable's arcs have 1 in all, so the one to its value has 1 and the others have 0
  pub variable_sends_one : (i : ℕ) → i < c.variables → sum c.values (λ j. f (pair c i j)) ≡ 1
  variable_sends_one i l = omega (
    arith,
    flow_balance s i (omega arith),
    out_variable c f i l,
    into_variable c f i l,
    ap minus (variable_supply c i l),
    ap plus (variable_supply c i l),
  )

  pub value_below : (i : ℕ) → i < c.variables → value_at c f i < c.values
  value_below i l = (first_counted_alone c.values (λ j. f (pair c i j)) (variable_sends_one i l)).0

  pub pair_counts : (i j : ℕ) → i < c.variables → j < c.values → f (pair c i j) ≡ only (eqb (value_at c f i) j) 1
  pair_counts i j l m = (first_counted_alone c.values (λ j. f (pair c i j)) (variable_sends_one i l)).1 j m

  -- a value's arc has how often it is used
  pub end_counts : (j : ℕ) → j < c.values → f (end c j) ≡ uses c (value_at c f) j
  end_counts j m = omega (
    arith,
    flow_balance s (c.variables + j) (omega arith),
    out_value c f j m,
    into_value c f j m,
    ap minus (value_supply c j m),
    ap plus (value_supply c j m),
    sum_same c.variables (λ i. f (pair c i j)) (λ i. only (eqb (value_at c f i) j) 1) (λ i l. pair_counts i j l m),
  )

pub flow_assigns : (c : Counting) (f : ℕ → ℕ) → Flow (network c) f → Assignment c (value_at c f)
flow_assigns c f s = record {
  value = value_below c f s;
  in_domain = λ i l. by i l (c.allowed i (value_at c f i)) refl;
  least = λ j m. omega (arith, end_counts c f s j m, end_low c j, s.within.least (end c j) (omega arith));
  most = λ j m. omega (arith, end_counts c f s j m, end_high c j, s.within.most (end c j) (omega arith));
}
  where
    -- an arc that has 1 has a high of 1
    by : (i : ℕ) → i < c.variables → (t : Bool) → c.allowed i (value_at c f i) ≡ t → t ≡ true
    by i l true e = refl
    by i l false e =
        let m = value_below c f s i l in
        absurd (omega (
          arith,
          pair_counts c f s i (value_at c f i) l m,
          ap (λ t. only t 1) (eq-eqb (value_at c f i) (value_at c f i) refl),
          pair_high c i (value_at c f i) l m,
          ap (λ t. only t 1) e,
          s.within.most (pair c i (value_at c f i)) (omega (arith, pair_below l m)),
        ))

pub flow_is : (c : Counting) (f : ℕ → ℕ) → Flow (network c) f → (k : ℕ) → k < (network c).arcs
    → f k ≡ flow_of c (value_at c f) k
flow_is c f s = arc_cases c (λ k. f k ≡ flow_of c (value_at c f) k)
    (λ i j l m. pair_counts c f s i j l m ∙ sym (pair_flow c i j l m (value_at c f)))
    (λ j m. end_counts c f s j m ∙ sym (end_flow c j (value_at c f)))
