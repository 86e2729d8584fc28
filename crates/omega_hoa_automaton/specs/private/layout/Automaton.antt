-- How an automaton lies in memory: its parts side by side, and the count of its edges.
use Rattle.std.specs.Prelude.{◌≡◌}
use Rattle.omega_hoa_automaton.specs.Automaton.{Description, IsAutomaton, edge_count}
use Rattle.omega_hoa_automaton.specs.declared.automaton.Automaton.TheInside.{Inside}

-- the automaton of its fields
abbrev pub description_of : Inside → Description
description_of a = record {
  tool = a.tool;
  name = a.name;
  states = a.state_count;
  starts = a.starts;
  propositions = a.propositions;
  acc_name = a.acc_name;
  sets = a.set_count;
  acceptance = a.acceptance;
  properties = a.properties;
  unknown = a.unknown;
  defined = a.defined;
}

-- what the fields keep: what each automaton does, and the count of its edges
pub record IsLaidOut (a : Inside) : Type 0 where
  pub automaton : IsAutomaton (description_of a)
  pub counted : edge_count (description_of a) ≡ a.edge_count
