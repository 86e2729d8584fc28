-- Laws of all tokens and the automata that they are written as.
use Rattle.omega_hoa_syntax.specs.Grammar.{ReadsAutomaton, ReadsNoOther}
use Rattle.omega_hoa_syntax.specs.Symbols.{Tokens}
use Rattle.omega_hoa_syntax.specs.declared.raw_automaton.RawAutomaton.{RawAutomaton}

-- tokens begin with at most one automaton, after which one rest is left
abbrev pub RawsAreOne : Type 0
RawsAreOne = (tokens : Tokens) (raw : RawAutomaton) (rest : Tokens) → ReadsAutomaton tokens raw rest
    → ReadsNoOther tokens raw rest
