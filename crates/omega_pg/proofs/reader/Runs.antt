-- Runs of an automaton over symbols, joined.
use Rattle.std.proofs.Common.{◌≡◌, Option, Some, None, IfSome, List, [], ◌∷◌, ◌++◌, refl, ap, sym, ◌∙◌, subst, append_assoc, append-nil}
use Rattle.std.specs.Prelude.{option_and_then}
use Rattle.omega_pg.specs.private.reader.Run.{run_by}

module _ {State Symbol : Type 0} (step : State → Symbol → Option State) where
  -- a run over two lists is a run over the one and then over the other
  pub run_by-append : (state : State) (xs ys : List Symbol)
      → run_by step state (xs ++ ys) ≡ option_and_then (λ next. run_by step next ys) (run_by step state xs)
  run_by-append state [] ys = refl
  run_by-append state (x ∷ xs) ys =
      elim (step state x)
      as (λ o. option_and_then (λ next. run_by step next (xs ++ ys)) o
      ≡ option_and_then (λ next. run_by step next ys) (option_and_then (λ next. run_by step next xs) o))
      [ None ↦ refl | Some next ↦ run_by-append next xs ys ]

  -- a run that went on from where another ended
  pub run_by_on : (state middle : State) (xs ys : List Symbol) → run_by step state xs ≡ Some middle
      → run_by step state (xs ++ ys) ≡ run_by step middle ys
  run_by_on state middle xs ys e = run_by-append state xs ys ∙ ap (option_and_then (λ next. run_by step next ys)) e

  -- a run over one symbol more
  pub run_by_push : (state middle : State) (xs : List Symbol) (x : Symbol) → run_by step state xs ≡ Some middle
      → run_by step state (xs ++ x ∷ []) ≡ step middle x
  run_by_push state middle xs x e = run_by_on state middle xs (x ∷ []) e ∙ alone (step middle x)
    where
      alone : (o : Option State) → option_and_then (λ next. run_by step next []) o ≡ o
      alone None = refl
      alone (Some next) = refl

  -- a run that stopped stays so
  pub run_by_stopped : (state : State) (xs ys : List Symbol) → run_by step state xs ≡ None → run_by step state (xs ++ ys) ≡ None
  run_by_stopped state xs ys e = run_by-append state xs ys ∙ ap (option_and_then (λ next. run_by step next ys)) e

  -- what holds of each step holds of a run
  pub run_by_shown : (Shows : State → List Symbol → Type 0)
      → ((state : State) (xs : List Symbol) (x : Symbol) → Shows state xs → IfSome (step state x) (λ next. Shows next (xs ++ x ∷ [])))
      → (state : State) (xs ys : List Symbol) → Shows state xs → IfSome (run_by step state ys) (λ next. Shows next (xs ++ ys))
  run_by_shown Shows step_shown state xs [] shows = subst (Shows state) (sym (append-nil xs)) shows
  run_by_shown Shows step_shown state xs (y ∷ ys) shows =
      elim (step state y)
      as (λ o. IfSome o (λ next. Shows next (xs ++ y ∷ [])) → IfSome (option_and_then (λ next. run_by step next ys) o) (λ next. Shows next (xs ++ y ∷ ys))) [
        | None ↦ λ h. tt
        | Some next ↦ λ h. subst (λ list. IfSome (run_by step next ys) (λ last. Shows last list)) (append_assoc xs (y ∷ []) ys)
            (run_by_shown Shows step_shown next (xs ++ y ∷ []) ys h)
      ]
      (step_shown state xs y shows)
