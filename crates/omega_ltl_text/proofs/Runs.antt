-- Runs of the grammar of formulas over symbols, one list after the other.
use Rattle.std.proofs.Common.{◌≡◌, Option, Some, None, List, [], ◌∷◌, ◌++◌, refl, ap, ◌∙◌}
use Rattle.std.specs.Prelude.{option_and_then}
use Rattle.omega_ltl_text.specs.Symbols.{FormulaSymbol}
use Rattle.omega_ltl_text.specs.private.Reading.{ReadState, run, step}

-- a run over two joined lists is a run over the first and then over the second
pub run-append : (state : ReadState) (xs ys : List FormulaSymbol) → run state (xs ++ ys) ≡ option_and_then (λ next. run next ys) (run state xs)
run-append state [] ys = refl
run-append state (x ∷ xs) ys =
    elim (step state x)
    as (λ o. option_and_then (λ next. run next (xs ++ ys)) o ≡ option_and_then (λ next. run next ys) (option_and_then (λ next. run next xs) o))
    [ None ↦ refl | Some next ↦ run-append next xs ys ]

-- a run that went on from where another ended
pub run_on : (state middle : ReadState) (xs ys : List FormulaSymbol) → run state xs ≡ Some middle → run state (xs ++ ys) ≡ run middle ys
run_on state middle xs ys e = run-append state xs ys ∙ ap (option_and_then (λ next. run next ys)) e

-- a run over one symbol is a step
pub run_one : (state : ReadState) (x : FormulaSymbol) → run state (x ∷ []) ≡ step state x
run_one state x = alone (step state x)
  where
    alone : (o : Option ReadState) → option_and_then (λ next. run next []) o ≡ o
    alone None = refl
    alone (Some next) = refl

-- a run over one symbol more
pub run_push : (state middle : ReadState) (xs : List FormulaSymbol) (x : FormulaSymbol) → run state xs ≡ Some middle → run state (xs ++ x ∷ []) ≡ step middle x
run_push state middle xs x e = run_on state middle xs (x ∷ []) e ∙ run_one middle x

-- a run that stopped stays so
pub run_stopped : (state : ReadState) (xs ys : List FormulaSymbol) → run state xs ≡ None → run state (xs ++ ys) ≡ None
run_stopped state xs ys e = run-append state xs ys ∙ ap (option_and_then (λ next. run next ys)) e

-- a step, and a run from there
pub run_step : (state next : ReadState) (x : FormulaSymbol) (xs : List FormulaSymbol) → step state x ≡ Some next → run state (x ∷ xs) ≡ run next xs
run_step state next x xs e = ap (option_and_then (λ middle. run middle xs)) e
