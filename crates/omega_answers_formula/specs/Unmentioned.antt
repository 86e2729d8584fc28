-- The names of formulas that an automaton does not have, which are free: a misspelt name is one of them.
use Rattle.std.specs.Prelude.{◌≡◌, Bool, false, true, List, [], ℕ}
use Rattle.std.specs.List.{AllZip, flat_map}
use Rattle.omega_hoa.specs.Alone.{IsAutomatonText}
use Rattle.omega_hoa_automaton.specs.Automaton.{Description}
use Rattle.omega_ltl_formula.specs.Table.{NumberedFormula}
use Rattle.omega_ltl_satisfaction.specs.Names.{unmentioned_names}
use Rattle.omega_answers.specs.TwoTexts.{OfBoth}
use Rattle.omega_answers_formula.specs.Formula.{IsFormulaOfText}

-- if they are asked for, the names of each formula that no proposition of an automaton has, formula by formula
abbrev pub unmentioned_in : (names : Bool) → List NumberedFormula → Description → List (List ℕ)
unmentioned_in false formulas a = []
unmentioned_in true formulas a = flat_map (λ formula. unmentioned_names formula a) formulas

-- these are the names of the formulas of the texts, formula by formula, that the automaton of the text does not have
abbrev pub AreUnmentioned : (names : Bool) → (formulas : List (List ℕ)) → (text : List ℕ)
    → List (List ℕ) → Type 0
AreUnmentioned names formulas text found =
    OfBoth (AllZip IsFormulaOfText formulas) (IsAutomatonText text)
    (λ read a. found ≡ unmentioned_in names read a)
