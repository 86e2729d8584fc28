-- The sets of a state of an automaton have numbers after others, if the last set of the automaton has one.
use Rattle.std.proofs.Common.{◌+◌, ◌<◌, ◌≤◌, ℕ, List, arith}
use Rattle.std.specs.Prelude.{slice_index_or}
use Rattle.omega_hoa_automaton.specs.Automaton.{AreBelow, Description, IsState}
use Rattle.omega_hoa_automaton.specs.declared.state.State.{State}
use Rattle.omega_lang_product.specs.Limits.{most_joint_sets}
use Rattle.omega_lang_product.specs.private.Room.{HasRoom, HaveRoom}

room_below : (before count : ℕ) (sets : List ℕ) → before + count ≤ most_joint_sets → AreBelow count sets → HaveRoom before sets
room_below before count sets room below k d within =
    let less : slice_index_or sets k d < count = below k d within in omega arith

pub state_has_room : (before : ℕ) (a : Description) (state : State) → before + a.sets ≤ most_joint_sets → IsState a state → HasRoom before state
state_has_room before a state room is = record {
  marks = room_below before a.sets state.marks room is.marks.below;
  edges = λ k d within. room_below before a.sets (slice_index_or state.edges k d).marks room (is.edges k d within).marks.below;
}
