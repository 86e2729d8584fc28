-- Runs of the grammar of lasso texts over symbols: over each text, over nothing else.
use Rattle.std.proofs.Common.{◌≡◌, ℕ, ◌⊎◌, inl, inr, Option, Some, None, List, [], ◌∷◌, ◌++◌, map, refl, ap, sym, ◌∙◌, subst, append_assoc, append-nil, arith, length-append}
use Rattle.std.specs.Prelude.{option_and_then}
use Rattle.std.proofs.lemmas.List.{map-append}
use Rattle.omega_lang_lasso_text.specs.Grammar.{SpellsLasso, lasso_symbols}
use Rattle.omega_lang_lasso_text.specs.Symbols.{LassoSymbol, cycle, number, stem}
use Rattle.omega_lang_lasso_text.specs.declared.lasso.LassoText.{LassoText}
use Rattle.omega_lang_lasso_text.specs.declared.stage.LassoStage.{LassoStage}
use Rattle.omega_lang_lasso_text.specs.declared.stage.LassoStage.TheVariants.{Cycle, Start, Stem}
use Rattle.omega_lang_lasso_text.specs.private.Reading.{IsEnded, LassoState, initial, kept, run, step}

-- a run over two joined lists is a run over the first and then over the second
run-append : (state : LassoState) (xs ys : List LassoSymbol) → run state (xs ++ ys) ≡ option_and_then (λ next. run next ys) (run state xs)
run-append state [] ys = refl
run-append state (x ∷ xs) ys =
    elim (step state x)
    as (λ o. option_and_then (λ next. run next (xs ++ ys)) o ≡ option_and_then (λ next. run next ys) (option_and_then (λ next. run next xs) o))
    [ None ↦ refl | Some next ↦ run-append next xs ys ]

-- a run that went on from where another ended
pub run_on : (state middle : LassoState) (xs ys : List LassoSymbol) → run state xs ≡ Some middle → run state (xs ++ ys) ≡ run middle ys
run_on state middle xs ys e = run-append state xs ys ∙ ap (option_and_then (λ next. run next ys)) e

-- a run over one symbol more
pub run_push : (state middle : LassoState) (xs : List LassoSymbol) (x : LassoSymbol) → run state xs ≡ Some middle → run state (xs ++ x ∷ []) ≡ step middle x
run_push state middle xs x e = run_on state middle xs (x ∷ []) e ∙ alone (step middle x)
  where
    alone : (o : Option LassoState) → option_and_then (λ next. run next []) o ≡ o
    alone None = refl
    alone (Some next) = refl

-- a run that stopped stays so
pub run_stopped : (state : LassoState) (xs ys : List LassoSymbol) → run state xs ≡ None → run state (xs ++ ys) ≡ None
run_stopped state xs ys e = run-append state xs ys ∙ ap (option_and_then (λ next. run next ys)) e

-- the numbers of a stem
run_before : (before more : List ℕ) (rest : List LassoSymbol) → run (kept Stem before []) (map number more ++ rest) ≡ run (kept Stem (before ++ more) []) rest
run_before before [] rest = ap (λ list. run (kept Stem list []) rest) (sym (append-nil before))
run_before before (n ∷ more) rest = run_before (before ++ n ∷ []) more rest ∙ ap (λ list. run (kept Stem list []) rest) (append_assoc before (n ∷ []) more)

-- the numbers of a cycle
run_around : (before around more : List ℕ) → run (kept Cycle before around) (map number more) ≡ Some (kept Cycle before (around ++ more))
run_around before around [] = ap (λ list. Some (kept Cycle before list)) (sym (append-nil around))
run_around before around (n ∷ more) = run_around before (around ++ n ∷ []) more ∙ ap (λ list. Some (kept Cycle before list)) (append_assoc around (n ∷ []) more)

-- each text is run
pub run_text : (symbols : List LassoSymbol) (lasso : LassoText) → SpellsLasso symbols lasso → run initial symbols ≡ Some (kept Cycle lasso.stem lasso.cycle)
run_text symbols lasso spells = ap (run initial) spells.spelled ∙ run_before [] lasso.stem (cycle ∷ map number lasso.cycle) ∙ run_around lasso.stem [] lasso.cycle

-- the symbols that led to a stage with these numbers
abbrev IsReached : List LassoSymbol → LassoStage → List ℕ → List ℕ → Type 0
IsReached front Start before around = (front ≡ []) × (before ≡ []) × (around ≡ [])
IsReached front Stem before around = (front ≡ stem ∷ map number before) × (around ≡ [])
IsReached front Cycle before around = front ≡ lasso_symbols before around

-- these symbols, and one number more
numbers_push : (numbers : List ℕ) (n : ℕ) → map number numbers ++ number n ∷ [] ≡ map number (numbers ++ n ∷ [])
numbers_push numbers n = sym (map-append number numbers (n ∷ []))

-- one symbol more leads to the next stage
reached_step : (front : List LassoSymbol) (stage : LassoStage) (before around : List ℕ) (symbol : LassoSymbol) (next : LassoState)
    → IsReached front stage before around → step (kept stage before around) symbol ≡ Some next → IsReached (front ++ symbol ∷ []) next.stage next.before next.around
reached_step front Start before around (number n) next reached e = absurd cc
reached_step front Start before around stem next reached e =
    let same : kept Stem before around ≡ next = cc in
    let first : front ++ stem ∷ [] ≡ stem ∷ map number before = ap (λ list. list ++ stem ∷ []) reached.0 ∙ ap (λ list. stem ∷ map number list) (sym reached.1) in
    subst (λ (s : LassoState). IsReached (front ++ stem ∷ []) s.stage s.before s.around) same (first, reached.2)
reached_step front Start before around cycle next reached e = absurd cc
reached_step front Stem before around (number n) next reached e =
    let same : kept Stem (before ++ n ∷ []) around ≡ next = cc in
    let first : front ++ number n ∷ [] ≡ stem ∷ map number (before ++ n ∷ []) = ap (λ list. list ++ number n ∷ []) reached.0 ∙ ap (λ list. stem ∷ list) (numbers_push before n) in
    subst (λ (s : LassoState). IsReached (front ++ number n ∷ []) s.stage s.before s.around) same (first, reached.1)
reached_step front Stem before around stem next reached e = absurd cc
reached_step front Stem before around cycle next reached e =
    let same : kept Cycle before around ≡ next = cc in
    let first : front ++ cycle ∷ [] ≡ lasso_symbols before around = ap (λ list. list ++ cycle ∷ []) reached.0 ∙ ap (λ list. stem ∷ (map number before ++ cycle ∷ map number list)) (sym reached.1) in
    subst (λ (s : LassoState). IsReached (front ++ cycle ∷ []) s.stage s.before s.around) same first
reached_step front Cycle before around (number n) next reached e =
    let same : kept Cycle before (around ++ n ∷ []) ≡ next = cc in
    let first : front ++ number n ∷ [] ≡ lasso_symbols before (around ++ n ∷ []) =
    ap (λ list. list ++ number n ∷ []) reached
    ∙ ap (λ list. stem ∷ list) (append_assoc (map number before) (cycle ∷ map number around) (number n ∷ []))
    ∙ ap (λ list. stem ∷ (map number before ++ cycle ∷ list)) (numbers_push around n) in
    subst (λ (s : LassoState). IsReached (front ++ number n ∷ []) s.stage s.before s.around) same first
reached_step front Cycle before around stem next reached e = absurd cc
reached_step front Cycle before around cycle next reached e = absurd cc

-- and so do symbols
reached_run : (front symbols : List LassoSymbol) (state last : LassoState) → IsReached front state.stage state.before state.around → run state symbols ≡ Some last
    → IsReached (front ++ symbols) last.stage last.before last.around
reached_run front [] state last reached e =
    let same : state ≡ last = cc in
    subst (λ list. IsReached list last.stage last.before last.around) (sym (append-nil front))
    (subst (λ (s : LassoState). IsReached front s.stage s.before s.around) same reached)
reached_run front (symbol ∷ symbols) state last reached e =
    elim (step state symbol)
    as (λ o. step state symbol ≡ o → option_and_then (λ next. run next symbols) o ≡ Some last → IsReached (front ++ symbol ∷ symbols) last.stage last.before last.around) [
      | None ↦ λ is stopped. absurd cc
      | Some next ↦ λ is runs. subst (λ list. IsReached list last.stage last.before last.around) (append_assoc front (symbol ∷ []) symbols)
          (reached_run (front ++ symbol ∷ []) symbols next last (reached_step front state.stage state.before state.around symbol next reached is) runs)
    ]
    refl e

-- what a state has read
abbrev pub lasso_in : LassoState → LassoText
lasso_in state = record { stem = state.before; cycle = state.around }

-- symbols that are run to an end are a text
pub text_run : (symbols : List LassoSymbol) (state : LassoState) → run initial symbols ≡ Some state → IsEnded state → SpellsLasso symbols (lasso_in state)
text_run symbols state e ended = record {
  spelled = subst (λ stage. IsReached symbols stage state.before state.around) ended.0 (reached_run [] symbols initial state (refl, refl, refl) e);
  longer = ended.1;
}

-- symbols that lead from a state to an end
pub record Completes (from : LassoState) : Type 0 where
  pub more : List LassoSymbol
  pub state : LassoState
  pub runs : run from more ≡ Some state
  pub ended : IsEnded state

-- there are such from each state
completes_at : (stage : LassoStage) (before around : List ℕ) → Completes (kept stage before around)
completes_at Start before around = record {
  more = stem ∷ cycle ∷ number 0 ∷ [];
  state = kept Cycle before (around ++ 0 ∷ []);
  runs = refl;
  ended = (refl, omega (arith, length-append around (0 ∷ [])));
}
completes_at Stem before around = record {
  more = cycle ∷ number 0 ∷ [];
  state = kept Cycle before (around ++ 0 ∷ []);
  runs = refl;
  ended = (refl, omega (arith, length-append around (0 ∷ [])));
}
completes_at Cycle before around = record {
  more = number 0 ∷ [];
  state = kept Cycle before (around ++ 0 ∷ []);
  runs = refl;
  ended = (refl, omega (arith, length-append around (0 ∷ [])));
}

pub completes : (state : LassoState) → Completes state
completes state = completes_at state.stage state.before state.around

-- a state is one of a whole text or not
ends_at : (stage : LassoStage) (before around : List ℕ) → IsEnded (kept stage before around) ⊎ (IsEnded (kept stage before around) → ⊥)
ends_at Start before around = inr (λ ended. let clash : Start ≡ Cycle = ended.0 in cc)
ends_at Stem before around = inr (λ ended. let clash : Stem ≡ Cycle = ended.0 in cc)
ends_at Cycle before [] = inr (λ ended. omega (arith, ended.1))
ends_at Cycle before (n ∷ around) = inl (refl, omega arith)

pub ends : (state : LassoState) → IsEnded state ⊎ (IsEnded state → ⊥)
ends state = ends_at state.stage state.before state.around
