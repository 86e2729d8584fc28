-- What was read of a solution text, whatever a reader keeps of its lines.
use Rattle.std.specs.Prelude.{◌≡◌, ℕ, Bool, true, false, Option, Some, None, List}
use Rattle.omega_game_values.specs.Game.{Node}
use Rattle.omega_pg.specs.private.solution.reader.Automaton.{SolutionReaderState, initial, run}
use Rattle.omega_pg.specs.solution.Grammar.{SolutionLine}
use Rattle.omega_pg.specs.Symbols.{PgSymbol}
use Rattle.omega_pg.specs.declared.solution.stage.SolutionStage.{SolutionStage}

-- a reader keeps a state: the stage, the header's number, and the lines in its own way
pub record Keeps {L : Type 0}
    (KeepsLines : List Node → List SolutionLine → L → Type 0) (nodes : List Node)
    (state : SolutionReaderState) (stage : SolutionStage) (greatest : ℕ) (lines : L) : Type 0 where
  pub same_stage : stage ≡ state.stage
  pub same_greatest : greatest ≡ state.greatest
  pub kept : KeepsLines nodes state.lines lines

-- a reader keeps the state to which these symbols lead
pub record HasTaken {L : Type 0}
    (KeepsLines : List Node → List SolutionLine → L → Type 0) (nodes : List Node)
    (symbols : List PgSymbol) (stage : SolutionStage) (greatest : ℕ) (lines : L) : Type 0 where
  pub state : SolutionReaderState
  pub runs : run initial symbols ≡ Some state
  pub keeps : Keeps KeepsLines nodes state stage greatest lines

-- a call took a symbol, and the next state is kept; or it refused it, and there is no next state
abbrev pub KeepsNext : {L : Type 0} → (List Node → List SolutionLine → L → Type 0) → Bool → List Node
    → Option SolutionReaderState → SolutionStage → ℕ → L → Type 0
KeepsNext KeepsLines true nodes next stage greatest lines = (after : SolutionReaderState)
    × (next ≡ Some after) × Keeps KeepsLines nodes after stage greatest lines
KeepsNext KeepsLines false nodes next stage greatest lines = next ≡ None

-- a call went on to the next stage, if there is one, and changed nothing else
abbrev pub GoesOnTo : {L : Type 0} → Bool → Option SolutionStage → SolutionStage → ℕ → L
    → SolutionStage → ℕ → L → Type 0
GoesOnTo true next stage greatest lines stage' greatest' lines' =
    (next ≡ Some stage') × (greatest' ≡ greatest) × (lines' ≡ lines)
GoesOnTo false next stage greatest lines stage' greatest' lines' = next ≡ None
