-- What a union is formed of, in the words of unions, and why it can't be.
use Rattle.std.specs.Prelude.{◌⊎◌, ℕ, ◌+◌, ◌<◌, List}
use Rattle.omega_text.specs.Limits.{most_number}
use Rattle.omega_hoa_expression.specs.Limits.{most_depth}
use Rattle.omega_hoa_acceptance.specs.Acceptance.{AccTree, disjunction}
use Rattle.omega_hoa_acceptance.specs.Raw.{raw_acc_depth}
use Rattle.omega_hoa_acceptance.specs.Writing.{acc_written}
use Rattle.omega_hoa_automaton.specs.Automaton.{Description, edge_count}
use Rattle.omega_hoa_edges.specs.Limits.{most_edges, most_states}
use Rattle.omega_lang_union.specs.Parts.{Part}
use Rattle.omega_lang_product.specs.Acceptance.{moved_after}
use Rattle.omega_lang_product.specs.Joining.{places_among}
use Rattle.omega_lang_union.specs.Sharing.{IsSharing, guarded}
use Rattle.omega_lang_union.specs.declared.operand.Operand.{Operand}
use Rattle.omega_lang_union.specs.declared.sharing.Sharing.{Sharing}

-- how the union has an operand
abbrev pub part_of : Operand → Part
part_of operand = record {
  places = operand.places.now;
  states = operand.states;
  sets = operand.sets;
  guard = operand.guard;
}

-- the first automaton over some names, which keeps the numbers of its states and sets
abbrev pub first_over : Sharing → List (List ℕ) → Description → Part
first_over sharing names one = record {
  places = places_among names one.propositions;
  states = 0;
  sets = 0;
  guard = sharing.first;
}

-- the second automaton over some names, whose states are numbered after those of the first
abbrev pub second_over : Sharing → List (List ℕ) → Description → Description → Part
second_over sharing names one other = record {
  places = places_among names other.propositions;
  states = one.states;
  sets = sharing.before;
  guard = sharing.second;
}

-- a text has no number for some set of the union
abbrev pub HaveManySets : Description → Description → Type 0
HaveManySets one other = (sharing : Sharing) × IsSharing one other sharing
    × (most_number < sharing.sets)

-- both automata together have more states or edges than a union may have
abbrev pub AreLarge : Description → Description → Type 0
AreLarge one other =
    (most_states < one.states + other.states) ⊎ (most_edges < edge_count one + edge_count other)

-- a formula is too deep as it is written
abbrev pub IsDeepFormula : AccTree → Type 0
IsDeepFormula formula = most_depth < raw_acc_depth (acc_written formula)

-- the formula of the first, or that of the second, each with its guard, where they do not share their sets
abbrev pub either_guarded : Sharing → Description → Description → AccTree
either_guarded sharing one other = disjunction (guarded sharing.first one.acceptance)
    (guarded sharing.second (moved_after sharing.before other.acceptance))
