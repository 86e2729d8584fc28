-- A counter-strategy and its complement, and what a search of the two says.
use Rattle.omega_hoa_automaton.specs.Automaton.{Description, IsAutomaton}
use Rattle.omega_lang_complement.specs.Complement.{HasComplement, IsComplement}
use Rattle.omega_synth_check.specs.declared.without_letter.StateWithoutLetter.{StateWithoutLetter}
use Rattle.omega_synth_formula.specs.declared.counter.LetterlessState.{LetterlessState}

-- an automaton is the complement of a strategy
pub record IsComplementOf (strategy complement : Description) : Type 0 where
  pub is_strategy : IsAutomaton strategy
  pub given : HasComplement strategy
  pub complemented : IsComplement strategy complement
  pub is_complement : IsAutomaton complement

-- a state without a letter that was found
abbrev pub letterless_of : StateWithoutLetter → LetterlessState
letterless_of found = record { state = found.state; stem = found.stem }
