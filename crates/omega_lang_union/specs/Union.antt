-- The union of two automata, which accepts the words that one of them accepts: the states of both beside each other, so
-- that each run is one of the first or one of the second.
use Rattle.std.specs.Prelude.{◌≡◌, ◌+◌, [], ◌++◌, None}
use Rattle.omega_hoa_automaton.specs.Automaton.{Description}
use Rattle.omega_lang_product.specs.Joining.{joined_names, places_among}
use Rattle.omega_lang_union.specs.Parts.{Part, starts_in, states_in}
use Rattle.omega_lang_union.specs.Sharing.{IsSharing, union_acceptance, union_name}
use Rattle.omega_lang_union.specs.declared.sharing.Sharing.{Sharing}

-- the first automaton, which keeps the numbers of its states and sets
abbrev pub first_part : Sharing → Description → Description → Part
first_part sharing one other = record {
  places = places_among (joined_names one.propositions other.propositions) one.propositions;
  states = 0;
  sets = 0;
  guard = sharing.first;
}

-- the second automaton, whose states are numbered after those of the first
abbrev pub second_part : Sharing → Description → Description → Part
second_part sharing one other = record {
  places = places_among (joined_names one.propositions other.propositions) other.propositions;
  states = one.states;
  sets = sharing.before;
  guard = sharing.second;
}

-- the two automata with these sets beside each other
abbrev pub united : Sharing → Description → Description → Description
united sharing one other =
    let first = first_part sharing one other in
    let second = second_part sharing one other in
    record {
      tool = None;
      name = None;
      states = one.states + other.states;
      starts = starts_in first one.starts ++ starts_in second other.starts;
      propositions = joined_names one.propositions other.propositions;
      acc_name = union_name sharing one other;
      sets = sharing.sets;
      acceptance = union_acceptance sharing one other;
      properties = [];
      unknown = [];
      defined = states_in first one.defined ++ states_in second other.defined;
    }

-- an automaton is the union of two
pub record IsUnion (one other a : Description) : Type 0 where
  pub sharing : Sharing
  pub shared : IsSharing one other sharing
  pub is : a ≡ united sharing one other
