-- The acceptance of an automaton by its kind (HOA v1, section on acc-name).
use Rattle.std.specs.Prelude.{◌≡◌, Some}
use Rattle.omega_hoa_acceptance.specs.Names.{IsAcceptanceRow}
use Rattle.omega_hoa_acceptance.specs.declared.name.AccName.{AccName}
use Rattle.omega_hoa_acceptance.specs.declared.kind.AccKind.{AccKind}
use Rattle.omega_hoa_automaton.specs.Automaton.{Description}

-- the acceptance kind of an automaton, by its name, its count of sets and its formula
pub record HasKind (a : Description) (kind : AccKind) : Type 0 where
  pub name : AccName
  pub named : a.acc_name ≡ Some name
  pub row : IsAcceptanceRow name a.sets a.acceptance kind
