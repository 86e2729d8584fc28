-- Strategies of the system and of the environment over names, and the formulas that they realize or beat. The system
-- controls the propositions of some names, the outputs, and the environment all others. In each round the environment
-- gives its letter, and then the system answers.
use Rattle.std.specs.Prelude.{if◌then◌else◌, ℕ, zero, suc, List, [], ◌∷◌}
use Rattle.std.specs.List.{list_any}
use Rattle.std.specs.Str.{bytes_eq}
use Rattle.omega_ltl_formula.specs.Formula.{FormulaTree}
use Rattle.omega_ltl_formula.specs.Meaning.{Satisfies}
use Rattle.omega_synth_check.specs.CounterJudging.{NamedLetter}
use Rattle.omega_text.specs.NamedWords.{NamedWord}

-- a strategy of one side: its letter, from letters of the other side, the last first
abbrev pub NamedStrategy : Type 0
NamedStrategy = List NamedLetter → NamedLetter

-- the letters of the first rounds, the last first
abbrev pub letters_before : NamedWord → (rounds : ℕ) → List NamedLetter
letters_before word zero = []
letters_before word (suc round) = word round ∷ letters_before word round

-- the letter of a round: the system's for the outputs, the environment's for all other names
abbrev pub played : (outs : List (List ℕ)) → (own given : NamedLetter) → NamedLetter
played outs own given name = if list_any (bytes_eq name) outs then own name else given name

-- a strategy of the system realizes a formula: whatever the environment gives, the word satisfies the formula. The
-- system knows the letter that it answers
abbrev pub RealizesFormula : FormulaTree → (outs : List (List ℕ)) → (system : NamedStrategy) → Type 0
RealizesFormula formula outs system = (given : NamedWord)
    → Satisfies formula (λ round. played outs (system (letters_before given (suc round))) (given round))

-- a strategy of the environment beats a formula: whatever the system answers, the word does not satisfy the formula.
-- The environment does not know the answer to the letter that it gives
abbrev pub BeatsFormula : FormulaTree → (outs : List (List ℕ)) → (environment : NamedStrategy) → Type 0
BeatsFormula formula outs environment = (own : NamedWord)
    → ¬ Satisfies formula (λ round. played outs (own round) (environment (letters_before own round)))
