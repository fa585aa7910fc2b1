-- The network of a counting plan, after source document 001: variables are the first nodes, with supply 1, then the values, with
-- supply 0, then the last node. An arc for each variable and value, then one from each value to the last node.
use Rattle.std.specs.Prelude.{ℕ, ◌+◌, ◌-◌, ◌*◌, ◌/◌, ◌%◌, cond, ltb, pos, neg_ℤ}
use Rattle.numbers.specs.Sums.{only}
use Rattle.plan.specs.Plan.{Plan}
use Rattle.counting.specs.Counting.{Counting}

-- the arcs from variables to values: arc i * values + j runs from variable i to value j
abbrev pub pairs : Counting → ℕ
pairs c = c.variables * c.values

-- the last node
abbrev pub last : Counting → ℕ
last c = c.variables + c.values

abbrev pub network : Counting → Plan
network c = record {
  nodes = last c + 1;
  arcs = pairs c + c.values;
  supply = λ v. cond (ltb v c.variables) (pos 1) (cond (ltb v (last c)) (pos 0) (neg_ℤ (pos c.variables)));
  from = λ k. cond (ltb k (pairs c)) (k / c.values) (c.variables + (k - pairs c));
  to = λ k. cond (ltb k (pairs c)) (c.variables + k % c.values) (last c);
  low = λ k. cond (ltb k (pairs c)) 0 (c.low (k - pairs c));
  high = λ k. cond (ltb k (pairs c)) (only (c.allowed (k / c.values) (k % c.values)) 1) (c.high (k - pairs c));
}
