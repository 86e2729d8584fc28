-- Universal branching: a start or an edge that lists two states or more (HOA v1, section 3.2).
use Rattle.std.specs.Prelude.{◌||◌, Bool, nat_lt, length}
use Rattle.std.specs.List.{list_any}
use Rattle.omega_hoa_automaton.specs.Automaton.{Description}
use Rattle.omega_hoa_automaton.specs.declared.state.State.{State}

-- whether an edge of a state lists two states or more
abbrev pub state_branches : State → Bool
state_branches state = list_any (λ edge. nat_lt 1 (length edge.targets)) state.edges

-- whether a start or an edge lists two states or more
abbrev pub has_universal_branching : Description → Bool
has_universal_branching a =
    list_any (λ start. nat_lt 1 (length start)) a.starts || list_any state_branches a.defined
