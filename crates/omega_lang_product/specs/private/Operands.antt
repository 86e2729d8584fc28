-- What a product is formed of, and what is said of it by the words of products.
use Rattle.std.specs.Prelude.{◌≤◌, ◌+◌, List}
use Rattle.omega_text.specs.declared.refusal.task.TaskFault.{TaskFault}
use Rattle.omega_hoa_automaton.specs.Automaton.{Description}
use Rattle.omega_hoa_syntax.specs.declared.raw_state.RawState.{RawState}
use Rattle.omega_lang_product.specs.Limits.{most_joint_sets}
use Rattle.omega_lang_product.specs.Pairs.{Pair, first_leaving, first_view}
use Rattle.omega_lang_product.specs.Pairs.{second_leaving, second_view, targets_of}
use Rattle.omega_lang_product.specs.Written.{raw_state_of, raw_states}
use Rattle.omega_lang_product.specs.declared.operands.Operands.{Operands}
use Rattle.omega_lang_product.specs.declared.tables.Tables.{Tables}
use Rattle.omega_lang_product.specs.private.Meeting.{HasUnmet}
use Rattle.omega_lang_product.specs.private.Tables.{HasRow, IsTableOf}

-- the tables hold edges of two automata as the product sees them, whose sets all have numbers
pub record AreTables (one other : Description) (tables : Tables) : Type 0 where
  pub room : one.sets + other.sets ≤ most_joint_sets
  pub firsts : IsTableOf (first_view one other) one.defined tables.firsts
  pub seconds : IsTableOf (second_view one other) other.defined tables.seconds

-- the tables of the operands hold edges of both
abbrev pub AreTabled : Operands → Type 0
AreTabled operands = AreTables operands.one.now operands.other.now operands.tables.now

-- the edges of both states of a pair are made
pub record HaveRows (tables : Tables) (pair : Pair) : Type 0 where
  pub first : HasRow tables.firsts pair.0
  pub second : HasRow tables.seconds pair.1

-- tables of two automata once the edges of a pair are made, and those that were made
pub record Reaches (one other : Description) (pair : Pair) (before after : Tables) : Type 0 where
  pub tables : AreTables one other after
  pub made : HaveRows after pair
  pub kept : (earlier : Pair) → HaveRows before earlier → HaveRows after earlier

-- the pairs that a pair leads to in one step
abbrev pub targets_in : Operands → Pair → List Pair
targets_in operands = targets_of operands.one.now operands.other.now

-- the state of the product for a pair
abbrev pub state_in : Operands → List Pair → Pair → RawState
state_in operands = raw_state_of operands.one.now operands.other.now

-- the states of the product for all pairs
abbrev pub states_in : Operands → List Pair → List RawState
states_in operands = raw_states operands.one.now operands.other.now

-- this fault has some edge that leaves the first state of a pair with some edge that leaves the second
abbrev pub HasUnmetAt : Operands → Pair → TaskFault → Type 0
HasUnmetAt operands pair =
    let one = operands.one.now in
    let other = operands.other.now in
    HasUnmet (first_leaving one other pair) (second_leaving one other pair)
