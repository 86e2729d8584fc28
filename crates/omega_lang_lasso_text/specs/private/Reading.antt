-- The grammar of lasso texts as an automaton over symbols, which keeps what it has read.
use Rattle.std.specs.Prelude.{◌≡◌, ℕ, ◌<◌, Bool, true, false, Option, Some, None}
use Rattle.std.specs.Prelude.{List, [], ◌∷◌, ◌++◌, length, option_and_then}
use Rattle.omega_lang_lasso_text.specs.Symbols.{LassoSymbol, cycle, number, stem}
use Rattle.omega_lang_lasso_text.specs.declared.stage.LassoStage.{LassoStage}
use Rattle.omega_lang_lasso_text.specs.declared.stage.LassoStage.TheVariants.{Cycle, Start, Stem}

-- what was read so far: the stage, and the numbers of the stem and of the cycle
pub record LassoState : Type 0 where
  pub stage : LassoStage
  pub before : List ℕ
  pub around : List ℕ

-- the state of these parts
abbrev pub kept : LassoStage → List ℕ → List ℕ → LassoState
kept stage before around = record { stage = stage; before = before; around = around }

-- the state before the first symbol
abbrev pub initial : LassoState
initial = kept Start [] []

-- the state after the number `n`, if a number may come at this stage
abbrev pub number_at : LassoStage → ℕ → LassoState → Option LassoState
number_at Start n state = None
number_at Stem n state = Some (kept Stem (state.before ++ n ∷ []) state.around)
number_at Cycle n state = Some (kept Cycle state.before (state.around ++ n ∷ []))

-- the state after the word `stem`, if it may come at this stage
abbrev pub stem_at : LassoStage → LassoState → Option LassoState
stem_at Start state = Some (kept Stem state.before state.around)
stem_at Stem state = None
stem_at Cycle state = None

-- the state after the word `cycle`, if it may come at this stage
abbrev pub cycle_at : LassoStage → LassoState → Option LassoState
cycle_at Start state = None
cycle_at Stem state = Some (kept Cycle state.before state.around)
cycle_at Cycle state = None

-- the state after a symbol, or none if no text goes on with it
abbrev pub step : LassoState → LassoSymbol → Option LassoState
step state (number n) = number_at state.stage n state
step state stem = stem_at state.stage state
step state cycle = cycle_at state.stage state

-- the state after the symbols, one by one
abbrev pub run : LassoState → List LassoSymbol → Option LassoState
run state [] = Some state
run state (symbol ∷ symbols) = option_and_then (λ next. run next symbols) (step state symbol)

-- the state is one of a whole text: `cycle` was read, and a number after it
abbrev pub IsEnded : LassoState → Type 0
IsEnded state = (state.stage ≡ Cycle) × (0 < length state.around)

-- the symbol was taken and the next state is kept, or it was refused and there is no next state
abbrev pub Goes : Bool → Option LassoState → LassoState → Type 0
Goes true next state = next ≡ Some state
Goes false next state = next ≡ None
