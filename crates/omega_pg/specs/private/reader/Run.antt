-- Runs of an automaton over the symbols of a text.
use Rattle.std.specs.Prelude.{Option, Some, List, [], ◌∷◌, option_and_then}

-- the state after symbols, one step after the other, or none if no text of the grammar goes on so
abbrev pub run_by : {State Symbol : Type 0} → (State → Symbol → Option State) → State → List Symbol
    → Option State
run_by step state [] = Some state
run_by step state (symbol ∷ symbols) =
    option_and_then (λ next. run_by step next symbols) (step state symbol)
