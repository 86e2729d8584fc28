-- Acceptance formulas as they are written, with parentheses (HOA v1, acceptance).
use Rattle.std.specs.Prelude.{ℕ, ◌+◌, Bool, List, max}

-- an acceptance formula as it is written; an atom has its identifier's bytes, whether a `!` precedes its set, and the
-- set
pub data RawAccTree : Type 0 where
  constant : Bool → RawAccTree
  atom : List ℕ → Bool → ℕ → RawAccTree
  conjunction : RawAccTree → RawAccTree → RawAccTree
  disjunction : RawAccTree → RawAccTree → RawAccTree
  group : RawAccTree → RawAccTree

-- an atom has depth 1, parentheses add one, and an operator has one more than its deeper part
abbrev pub raw_acc_depth : RawAccTree → ℕ
raw_acc_depth (constant value) = 1
raw_acc_depth (atom name negated set) = 1
raw_acc_depth (conjunction left right) = max (raw_acc_depth left) (raw_acc_depth right) + 1
raw_acc_depth (disjunction left right) = max (raw_acc_depth left) (raw_acc_depth right) + 1
raw_acc_depth (group part) = raw_acc_depth part + 1
