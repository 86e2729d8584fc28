-- A deterministic automaton and its complement.
use Rattle.omega_hoa_automaton.specs.Automaton.{Description, IsAutomaton}
use Rattle.omega_lang_complement.specs.Complement.{HasComplement, IsComplement}

-- an automaton has a complement, which is `rest`
pub record IsComplemented (other rest : Description) : Type 0 where
  pub is_other : IsAutomaton other
  pub given : HasComplement other
  pub is_rest : IsComplement other rest
