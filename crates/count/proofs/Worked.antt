-- All plans that document 01 proves by hand, in one table under one theorem: the rows of `plan`, and P10. A row of counting is
-- tried by the definitions alone, over assignments: every way to give the variables values is gone through.
use Prim.Native.Nat.{ℕ, zero, suc, ◌^◌, ◌≤◌, ◌<◌}
use mathlib.Core.Path.{◌≡◌, refl, sym, ◌∙◌}
use mathlib.Core.Bool.{true, Bool-discrete, true≢false}
use mathlib.Core.List.{List, [], ◌∷◌, map}
use mathlib.Core.Logic.Dec
use mathlib.Core.Logic.{by_cases, ⊎_elim}
use mathlib.Core.Option
use mathlib.Core.Option.{Option, none, some, get, or_else, bind as ◌>>=◌}
use native.Mathlib.Omega.{arith}
use native.Mathlib.Decide.{ℕ_discrete, dec_le, dec_lt, map_dec}
use lib.Dec.{eqb}
use lib.ListN.{length, get_or}
use borrow.Author.Tests.{ne_eqb, eq-eqb}
use Rattle.numbers.specs.Sums.{only, put}
use Rattle.numbers.proofs.Sums.{sum_same, last_or_before}
use Rattle.rooms.specs.Room.{at}
use Rattle.plan.specs.Verdict.{verdict, Accepted}
use Rattle.plan.proofs.Tried.{decided?, if?, each?, accepts?}
use Rattle.plan.proofs.Worked as plans
use Rattle.words.specs.Word.{holds}
use Rattle.words.proofs.Bits.{past_holds}
use Rattle.counting.specs.Counting.{Counting, counting_of, uses, Assignment, Taken}
use Rattle.counting.specs.Rules.{counting_rules}
use Rattle.count.specs.Answer.{Buffers, Counted}

-- ---- the table

-- a plan's row; or a counting plan's lists, the lists that become of them, and for the proof assignments that attain them
pub data Row : Type 0 where
  plan : (r : plans.Row) → Row
  counting : (domains counts : List ℕ) (new_domains lows highs : List ℕ) (assignments : List (List ℕ)) → Row

-- a domain is a word: value j counts 2 ^ j
abbrev pub table : List Row
table =
    -- P10: domains {1,3}, {1,3}, {0,1}, {0,2,3}, counts 0..1: domains become {1,3}, {1,3}, {0}, {2}; every count 1..1
    counting (10 ∷ 10 ∷ 3 ∷ 13 ∷ []) (0 ∷ 1 ∷ 0 ∷ 1 ∷ 0 ∷ 1 ∷ 0 ∷ 1 ∷ []) (10 ∷ 10 ∷ 1 ∷ 4 ∷ []) (1 ∷ 1 ∷ 1 ∷ 1 ∷ []) (1 ∷ 1 ∷ 1 ∷ 1 ∷ [])
    ((1 ∷ 3 ∷ 0 ∷ 2 ∷ []) ∷ (3 ∷ 1 ∷ 0 ∷ 2 ∷ []) ∷ [])
    -- P1 to P6, P8 and P9
    ∷ map plan plans.table

-- ---- what a row says, by the definitions of specs/ alone

-- a counting plan that is accepted, with a word for each variable and a range for each value
pub record CountingHolds (domains counts : List ℕ) (b : Buffers) : Type 0 where
  pub accepted : verdict (counting_rules domains (counting_of domains counts)) ≡ Accepted
  pub each_domain : length b.domains ≡ (counting_of domains counts).variables
  pub each_low : length b.lows ≡ (counting_of domains counts).values
  pub each_high : length b.highs ≡ (counting_of domains counts).values
  pub counted : Counted (counting_of domains counts) b b

abbrev pub Holds : Row → Type 0
Holds (plan r) = plans.Holds r
Holds (counting domains counts new_domains lows highs assignments) =
    CountingHolds domains counts (record { domains = new_domains; lows = lows; highs = highs })

-- ---- every way to give n variables values below w

-- the values a below n, and the values f from there on
abbrev mix : ℕ → (a f : ℕ → ℕ) → ℕ → ℕ
mix zero a f = f
mix (suc n) a f = mix n a (put f n (a n))

mix_past : (n : ℕ) (a f : ℕ → ℕ) (i : ℕ) → n ≤ i → mix n a f i ≡ f i
mix_past zero a f i l = refl
mix_past (suc n) a f i l =
    mix_past n a (put f n (a n)) i (omega arith) ∙ rw (ne_eqb i n (λ e. omega arith))

mix_below : (n : ℕ) (a f : ℕ → ℕ) (i : ℕ) → i < n → mix n a f i ≡ a i
mix_below zero a f i l = absurd (omega arith)
mix_below (suc n) a f i l = ⊎_elim
    (λ e. rw e (mix_past n a (put f n (a n)) n (omega arith) ∙ rw (eq-eqb n n refl)))
    (mix_below n a (put f n (a n)) i)
    (last_or_before l)

abbrev every_way? : {P : (ℕ → ℕ) → Type 0} (w n : ℕ) (f : ℕ → ℕ) → ((g : ℕ → ℕ) → Option (P g))
    → Option ((a : ℕ → ℕ) → ((i : ℕ) → i < n → a i < w) → P (mix n a f))
every_way? w zero f try = Option.map (λ p a h. p) (try f)
every_way? {P} w (suc n) f try = do
  all ← each? {P = λ x. (a : ℕ → ℕ) → ((i : ℕ) → i < n → a i < w) → P (mix n a (put f n x))} w (λ x l. every_way? {P = P} w n (put f n x) try)
  some (λ a h. all (a n) (h n (omega arith)) a (λ i l. h i (omega arith)))

-- ---- a counting plan is tried

-- what is decided at each index below n
abbrev one_more : {P : ℕ → Type 0} (n : ℕ) → Dec ((k : ℕ) → k < n → P k) → Dec (P n) → Dec ((k : ℕ) → k < suc n → P k)
one_more n (yes before) (yes last) = yes (λ k l. ⊎_elim (λ e. rw e last) (before k) (last_or_before l))
one_more n (yes before) (no last) = no (λ all. last (all n (omega arith)))
one_more n (no before) d = no (λ all. before (λ k l. all k (omega arith)))

abbrev each_decided : {P : ℕ → Type 0} (n : ℕ) → ((k : ℕ) → Dec (P k)) → Dec ((k : ℕ) → k < n → P k)
each_decided zero d = yes (λ k l. absurd (omega arith))
each_decided {P} (suc n) d = one_more {P = P} n (each_decided {P = P} n d) (d n)

module _ (c : Counting) where
  abbrev assigns : (a : ℕ → ℕ) → Dec (Assignment c a)
  assigns a = map_dec
      (λ h. record { value = h.0.0; in_domain = h.0.1; least = h.1.0; most = h.1.1 })
      (λ s. ((s.value, s.in_domain), (s.least, s.most)))
      (Dec.and
      (Dec.and (each_decided c.variables (λ i. dec_lt (a i) c.values))
      (each_decided c.variables (λ i. Bool-discrete (c.allowed i (a i)) true)))
      (Dec.and (each_decided c.values (λ j. dec_le (c.low j) (uses c a j)))
      (each_decided c.values (λ j. dec_le (uses c a j) (c.high j)))))

  -- one of the assignments gives the variable the value, or uses the value so often
  abbrev taken? : (i j : ℕ) → List (ℕ → ℕ) → Option (Taken c i j)
  taken? i j [] = none
  taken? i j (a ∷ more) = or_else (taken? i j more) (do
    assignment ← decided? (assigns a)
    there ← decided? (ℕ_discrete (a i) j)
    some (record { values = a; assignment = assignment; there = there }))

  abbrev Attained : (j count : ℕ) → Type 0
  Attained j count = (a : ℕ → ℕ) × Assignment c a × (uses c a j ≡ count)

  abbrev attained? : (j count : ℕ) → List (ℕ → ℕ) → Option (Attained j count)
  attained? j count [] = none
  attained? j count (a ∷ more) = or_else (attained? j count more) (do
    assignment ← decided? (assigns a)
    there ← decided? (ℕ_discrete (uses c a j) count)
    some (a, assignment, there))

  abbrev some? : List (ℕ → ℕ) → Option ((a : ℕ → ℕ) × Assignment c a)
  some? [] = none
  some? (a ∷ more) = Option.map (λ s. (a, s)) (decided? (assigns a))

  -- an assignment keeps to the new domains and count ranges
  abbrev Kept : Buffers → (ℕ → ℕ) → Type 0
  Kept b a =
      ((i : ℕ) → i < c.variables → holds (at b.domains i) (a i) ≡ true)
      × ((j : ℕ) → j < c.values → at b.lows j ≤ uses c a j)
      × ((j : ℕ) → j < c.values → uses c a j ≤ at b.highs j)

  abbrev kept? : (b : Buffers) (a : ℕ → ℕ) → Option (Assignment c a → Kept b a)
  kept? b a = if? (assigns a) (do
    in_domain ← each? c.variables (λ i l. decided? (Bool-discrete (holds (at b.domains i) (a i)) true))
    least ← each? c.values (λ j l. decided? (dec_le (at b.lows j) (uses c a j)))
    most ← each? c.values (λ j l. decided? (dec_le (uses c a j) (at b.highs j)))
    some (in_domain, least, most))

  -- what holds of every way holds of every assignment: it goes by the values of the variables alone
  module _ (a : ℕ → ℕ) (s : Assignment c a) where
    same_at : (i : ℕ) → i < c.variables → mix c.variables a (λ i. 0) i ≡ a i
    same_at = mix_below c.variables a (λ i. 0)

    same_uses : (j : ℕ) → uses c (mix c.variables a (λ i. 0)) j ≡ uses c a j
    same_uses j =
        sum_same c.variables (λ i. only (eqb (mix c.variables a (λ i. 0) i) j) 1) (λ i. only (eqb (a i) j) 1)
        (λ i l. rw (same_at i l))

    same_assigns : Assignment c (mix c.variables a (λ i. 0))
    same_assigns = record {
      value = λ i l. rw (same_at i l) (s.value i l);
      in_domain = λ i l. rw (same_at i l) (s.in_domain i l);
      least = λ j l. rw (same_uses j) (s.least j l);
      most = λ j l. rw (same_uses j) (s.most j l);
    }

    same_kept : (b : Buffers) → Kept b (mix c.variables a (λ i. 0)) → Kept b a
    same_kept b k = (
      λ i l. rw (same_at i l) at (k.0 i l),
      λ j l. rw (same_uses j) at (k.1 j l),
      λ j l. rw (same_uses j) at (k.2 j l),
    )

  -- a word below 2 ^ w has no value from w on
  word_small : (domains : List ℕ) (i j : ℕ) → at domains i < 2 ^ c.values → holds (at domains i) j ≡ true → j < c.values
  word_small domains i j small there = by_cases (dec_lt j c.values) (λ l. l) (λ no. absurd (true≢false
      (sym there ∙ past_holds c.values (at domains i) j small (omega arith))))

  abbrev counted? : (b : Buffers) → List (ℕ → ℕ) → Option (Counted c b b)
  counted? b assignments = do
    first ← some? assignments
    kept ← every_way? {P = λ a. Assignment c a → Kept b a} c.values c.variables (λ i. 0) (kept? b)
    small ← each? c.variables (λ i l. decided? (dec_lt (at b.domains i) (2 ^ c.values)))
    taken ← each? c.variables (λ i l. each? c.values (λ j m.
        if? (Bool-discrete (holds (at b.domains i) j) true) (taken? i j assignments)))
    fewest ← each? c.values (λ j l. attained? j (at b.lows j) assignments)
    most ← each? c.values (λ j l. attained? j (at b.highs j) assignments)
    let all : (a : ℕ → ℕ) → Assignment c a → Kept b a = λ a s. same_kept a s b (kept a s.value (same_assigns a s))
    some (record {
      values = first.0;
      assignment = first.1;
      domain = λ i l j. (
        λ there. taken i l j (word_small b.domains i j (small i l) there) there,
        λ t. rw t.there at ((all t.values t.assignment).0 i l),
      );
      fewest = λ j l. record {
        values = (fewest j l).0;
        assignment = (fewest j l).1;
        there = (fewest j l).2;
        fewest = λ a s. (all a s).1 j l;
      };
      most = λ j l. record { values = (most j l).0; assignment = (most j l).1; there = (most j l).2; most = λ a s. (all a s).2 j l };
      domains_past = λ i l. refl;
      lows_past = λ j l. refl;
      highs_past = λ j l. refl;
    })

abbrev counting? : (domains counts : List ℕ) (b : Buffers) → List (ℕ → ℕ) → Option (CountingHolds domains counts b)
counting? domains counts b assignments = do
  accepted ← accepts? (verdict (counting_rules domains (counting_of domains counts)))
  each_domain ← decided? (ℕ_discrete (length b.domains) (counting_of domains counts).variables)
  each_low ← decided? (ℕ_discrete (length b.lows) (counting_of domains counts).values)
  each_high ← decided? (ℕ_discrete (length b.highs) (counting_of domains counts).values)
  counted ← counted? (counting_of domains counts) b assignments
  some (record { accepted = accepted; each_domain = each_domain; each_low = each_low; each_high = each_high; counted = counted })

-- ---- the theorem

-- row i of the table
abbrev pub worked : ℕ → Row
worked i = get_or table i (plan (plans.worked 0))

-- a row of counting is tried; a row of `plan` holds by the theorem there
abbrev row? : (r : Row) → Option (Holds r)
row? (plan r) = none
row? (counting domains counts new_domains lows highs assignments) =
    counting? domains counts (record { domains = new_domains; lows = lows; highs = highs }) (map (λ values i. get_or values i 0) assignments)

first_row : Holds (worked 0)
unfolding ◌>>=◌ or_else ℕ_discrete dec_lt dec_le Dec.and
first_row = get (row? (worked 0)) tt

planned : (rows : List plans.Row) (other : plans.Row) (default : Row)
    → ((i : ℕ) → i < length rows → plans.Holds (get_or rows i other)) → (i : ℕ) → i < length rows → Holds (get_or (map plan rows) i default)
planned [] other default holds i l = absurd (omega arith)
planned (r ∷ rows) other default holds zero l = holds 0 (omega arith)
planned (r ∷ rows) other default holds (suc i) l = planned rows other default (λ k m. holds (suc k) (omega arith)) i (omega arith)

pub worked_plans : (i : ℕ) → i < length table → Holds (worked i)
worked_plans zero l = first_row
worked_plans (suc i) l = planned plans.table _ _ plans.worked_plans i (omega arith)
