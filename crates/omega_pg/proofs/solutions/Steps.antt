-- One token more of a solution text.
use Rattle.std.proofs.Common.{◌≡◌, ℕ, Bool, true, false, Option, Some, Result, Ok, Err, IfOk, List, [], ◌∷◌, ◌++◌, refl, ap, sym, ◌∙◌, subst}
use Rattle.std.specs.Prelude.{◌↔◌, IsTrue}
use Rattle.omega_text.specs.declared.refusal.Refusal.{Refusal}
use Rattle.omega_game_values.specs.Game.{Node}
use Rattle.omega_game_values.specs.declared.player.Player.{Player}
use Rattle.omega_pg.specs.private.solution.reader.Automaton.{SolutionReaderState, after_semicolon, step, with_line}
use Rattle.omega_pg.specs.private.solution.reader.Reading.{HasTaken, Keeps, KeepsNext}
use Rattle.omega_pg.specs.solution.Grammar.{SolutionLine, line_for, solution_syntax}
use Rattle.omega_text.specs.Lexeme.{Lexeme}
use Rattle.omega_text.specs.Reading.{IsWholeOrUnfinished, TakesOrRefuses}
use Rattle.omega_text.specs.Syntax.{TokensBegin, TokensComplete}
use Rattle.omega_text.specs.declared.pg.kind.PgKind.{PgKind}
use Rattle.omega_pg.specs.Symbols.{pg_symbol_of}
use Rattle.omega_pg.specs.private.reader.Symbols.{symbols_of}
use Rattle.omega_pg.specs.private.solution.reader.Reader.{HasBecome}
use Rattle.omega_pg.specs.declared.solution.reader.SolutionReader.{SolutionReader}
use Rattle.omega_pg.specs.declared.solution.stage.SolutionStage.{SolutionStage}
use Rattle.omega_pg.specs.declared.solution.stage.SolutionStage.TheVariants.{Ended, Number}
use Rattle.omega_pg.proofs.reader.Deciding.{refused_from_run, run_taken, unfinished_from_run}
use Rattle.omega_pg.proofs.solutions.Grammar.{SpellsSolution-from_run, decides_solutions, raw_of}

module _ {L : Type 0} (KeepsLines : List Node → List SolutionLine → L → Type 0) where
  -- the header ends
  pub header_ends : (nodes : List Node) (state : SolutionReaderState) (stage : SolutionStage) (greatest n : ℕ) (lines : L)
      → stage ≡ Number n → Keeps KeepsLines nodes state stage greatest lines
      → KeepsNext KeepsLines true nodes (after_semicolon state.stage state) Ended n lines
  header_ends nodes state stage greatest n lines is keeps = (
    record { stage = Ended; greatest = n; lines = state.lines },
    ap (λ s. after_semicolon s state) (sym keeps.same_stage ∙ is),
    record { same_stage = refl; same_greatest = refl; kept = keeps.kept },
  )

  -- a line ends
  pub line_ends : (nodes : List Node) (state : SolutionReaderState) (stage : SolutionStage) (greatest id : ℕ) (winner : Player) (successor : Option ℕ) (lines lines' : L)
      → after_semicolon stage state ≡ Some (with_line id winner successor state) → Keeps KeepsLines nodes state stage greatest lines
      → ((before : List SolutionLine) → KeepsLines nodes before lines
      → KeepsLines nodes (before ++ line_for id winner successor ∷ []) lines')
      → KeepsNext KeepsLines true nodes (after_semicolon state.stage state) Ended greatest lines'
  line_ends nodes state stage greatest id winner successor lines lines' is keeps added = (
    with_line id winner successor state,
    ap (λ s. after_semicolon s state) (sym keeps.same_stage) ∙ is,
    record { same_stage = refl; same_greatest = keeps.same_greatest; kept = added state.lines keeps.kept },
  )

  -- a token that is taken leads on, and one that is refused ends what begins a text
  taken_on : (taken : Bool) (nodes : List Node) (lexemes : List (Lexeme PgKind)) (lexeme : Lexeme PgKind) (stage stage' : SolutionStage) (greatest greatest' : ℕ) (lines lines' : L)
      → ((state : SolutionReaderState) → Keeps KeepsLines nodes state stage greatest lines → KeepsNext KeepsLines taken nodes (step state (pg_symbol_of lexeme)) stage' greatest' lines')
      → HasTaken KeepsLines nodes (symbols_of lexemes) stage greatest lines
      → TakesOrRefuses taken (TokensBegin solution_syntax) (λ all. HasTaken KeepsLines nodes (symbols_of all) stage' greatest' lines') lexemes lexeme
  taken_on true nodes lexemes lexeme stage stage' greatest greatest' lines lines' takes has =
      let next = takes has.state has.keeps in
      record { state = next.0; runs = run_taken decides_solutions lexemes lexeme has.state has.runs ∙ next.1; keeps = next.2 }
  taken_on false nodes lexemes lexeme stage stage' greatest greatest' lines lines' takes has =
      refused_from_run decides_solutions lexemes lexeme has.state has.runs (takes has.state has.keeps)

  -- the same of a call, which keeps the game
  pub taken_on_all : (result : Result Bool Refusal) (reader next : SolutionReader L) (lexeme : Lexeme PgKind) → next.game.now ≡ reader.game.now
      → IfOk result (λ taken. (state : SolutionReaderState) → Keeps KeepsLines reader.game.now state reader.stage reader.greatest reader.lines
      → KeepsNext KeepsLines taken reader.game.now (step state (pg_symbol_of lexeme)) next.stage next.greatest next.lines)
      → IfOk result (λ taken. (start : SolutionReader L) (lexemes : List (Lexeme PgKind)) → HasBecome KeepsLines start lexemes reader
      → TakesOrRefuses taken (TokensBegin solution_syntax) (λ all. HasBecome KeepsLines start all next) lexemes lexeme)
  taken_on_all (Err refusal) reader next lexeme same takes = tt
  taken_on_all (Ok true) reader next lexeme same takes = λ start lexemes has. (
    same ∙ has.0,
    subst (λ nodes. HasTaken KeepsLines nodes (symbols_of (lexemes ++ lexeme ∷ [])) next.stage next.greatest next.lines) has.0
        (taken_on true reader.game.now lexemes lexeme reader.stage next.stage reader.greatest next.greatest reader.lines next.lines takes
        (subst (λ nodes. HasTaken KeepsLines nodes (symbols_of lexemes) reader.stage reader.greatest reader.lines) (sym has.0) has.1)),
  )
  taken_on_all (Ok false) reader next lexeme same takes = λ start lexemes has.
      taken_on false reader.game.now lexemes lexeme reader.stage next.stage reader.greatest next.greatest reader.lines next.lines takes
      (subst (λ nodes. HasTaken KeepsLines nodes (symbols_of lexemes) reader.stage reader.greatest reader.lines) (sym has.0) has.1)

  -- tokens that lead after the header or a line are a text, and others are unfinished
  pub judged_end : (done : Bool) (start reader : SolutionReader L) (lexemes : List (Lexeme PgKind)) → IsTrue done ↔ (reader.stage ≡ Ended) → HasBecome KeepsLines start lexemes reader
      → IsWholeOrUnfinished done (TokensBegin solution_syntax) (TokensComplete solution_syntax) lexemes
  judged_end true start reader lexemes ended has =
      (raw_of has.1.state, SpellsSolution-from_run (symbols_of lexemes) has.1.state has.1.runs (sym has.1.keeps.same_stage ∙ ended.0 refl))
  judged_end false start reader lexemes ended has =
      unfinished_from_run decides_solutions lexemes has.1.state has.1.runs
      (λ e. (let clash : false ≡ true = ended.1 (has.1.keeps.same_stage ∙ e) in cc))
