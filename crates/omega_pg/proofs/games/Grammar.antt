-- The automaton of game texts decides their grammar.
use Rattle.std.proofs.Common.{◌≡◌, ℕ, ◌⊎◌, inl, inr, Bool, true, false, Result, Ok, Err, IfOk, Option, Some, List, [], ◌∷◌, refl, ◌∙◌, subst, IfSome, append-nil}
use Rattle.omega_game_values.specs.declared.node_spec.NodeSpec.{NodeSpec}
use Rattle.omega_text.specs.declared.refusal.Refusal.{Refusal}
use Rattle.omega_pg.specs.private.game.reader.Automaton.{IsReachedBy, GameReaderState, Takes, initial, run, step}
use Rattle.omega_pg.specs.game.Grammar.{RawGame, SpellsGame, game_syntax}
use Rattle.omega_text.specs.Reading.{IsWholeOrUnfinished, TakesOrRefuses}
use Rattle.omega_pg.specs.game.Refusing.{is_header_small}
use Rattle.omega_pg.specs.Symbols.{PgSymbol, number, semicolon, pg_symbol_of}
use Rattle.omega_pg.specs.private.reader.Symbols.{symbols_of}
use Rattle.omega_text.specs.Syntax.{TokensBegin, TokensComplete}
use Rattle.omega_text.specs.Lexeme.{Lexeme}
use Rattle.omega_text.specs.declared.pg.kind.PgKind.{PgKind}
use Rattle.std.specs.Prelude.{◌↔◌, IsTrue}
use Rattle.omega_pg.specs.declared.game.stage.GameStage.{GameStage}
use Rattle.omega_pg.specs.declared.game.stage.GameStage.TheVariants.{Comma, Ended, Headed, Identifier, Listed, Named, Number, Owner, Priority, Start, Word}
use Rattle.omega_pg.proofs.reader.Deciding.{Completes, Decides, Reads, refused_from_run, run_taken, unfinished_from_run}
use Rattle.omega_pg.proofs.reader.Runs.{run_by_shown}
use Rattle.omega_pg.proofs.games.Shown.{Shows, ShowsAt, spelled, step_shown}
use Rattle.omega_pg.proofs.games.Spelled.{at, run_text}

-- the raw text that a state has kept
abbrev pub raw_of : GameReaderState → RawGame
raw_of state = record { header = state.header; specs = state.specs }

-- a run from the beginning is shown by its state
shown_by_run : (symbols : List PgSymbol) (state : GameReaderState) → run initial symbols ≡ Some state → Shows state symbols
shown_by_run symbols state e =
    let shown : IfSome (run initial symbols) (λ next. Shows next symbols) =
    run_by_shown step Shows step_shown initial [] symbols (record { there = record { none = refl; empty = refl; shown = refl }; small = refl }) in
    subst (λ o. IfSome o (λ next. Shows next symbols)) e shown

-- a run that ends after a node has read a text
pub SpellsGame-from_run : (symbols : List PgSymbol) (state : GameReaderState) → run initial symbols ≡ Some state → state.stage ≡ Ended → SpellsGame symbols (raw_of state)
SpellsGame-from_run symbols state e ended =
    let there : ShowsAt Ended state.header state.specs symbols =
    subst (λ stage. ShowsAt stage state.header state.specs symbols) ended (shown_by_run symbols state e).there in
    record {
      specified = there.0;
      continued = there.1.continued;
      spelled = there.1.shown ∙ append-nil (spelled state.header state.specs);
    }

-- what it knows of the header
pub small_from_run : (symbols : List PgSymbol) (state : GameReaderState) → run initial symbols ≡ Some state → state.header_too_small ≡ is_header_small state.header state.specs
small_from_run symbols state e = (shown_by_run symbols state e).small

-- what completes a text from a stage
abbrev completion : GameStage → List PgSymbol
completion Start = number 0 ∷ number 0 ∷ number 0 ∷ number 0 ∷ semicolon ∷ []
completion Word = number 0 ∷ semicolon ∷ number 0 ∷ number 0 ∷ number 0 ∷ number 0 ∷ semicolon ∷ []
completion (Number n) = semicolon ∷ number 0 ∷ number 0 ∷ number 0 ∷ number 0 ∷ semicolon ∷ []
completion Headed = number 0 ∷ number 0 ∷ number 0 ∷ number 0 ∷ semicolon ∷ []
completion Ended = []
completion (Identifier id) = number 0 ∷ number 0 ∷ number 0 ∷ semicolon ∷ []
completion (Priority id priority) = number 0 ∷ number 0 ∷ semicolon ∷ []
completion (Owner id priority owner) = number 0 ∷ semicolon ∷ []
completion Listed = semicolon ∷ []
completion Comma = number 0 ∷ semicolon ∷ []
completion Named = semicolon ∷ []

-- a text has ended after a node
abbrev pub IsEnded : GameReaderState → Type 0
IsEnded state = state.stage ≡ Ended

-- the completion leads to the end of a node
completes : (stage : GameStage) (header : Option ℕ) (specs : List NodeSpec) (small : Bool) → Completes step IsEnded (at stage header specs small)
completes Start header specs small = record { more = completion Start; state = _; runs = refl; ended = refl }
completes Word header specs small = record { more = completion Word; state = _; runs = refl; ended = refl }
completes (Number n) header specs small = record { more = completion (Number n); state = _; runs = refl; ended = refl }
completes Headed header specs small = record { more = completion Headed; state = _; runs = refl; ended = refl }
completes Ended header specs small = record { more = completion Ended; state = _; runs = refl; ended = refl }
completes (Identifier id) header specs small = record { more = completion (Identifier id); state = _; runs = refl; ended = refl }
completes (Priority id priority) header specs small = record { more = completion (Priority id priority); state = _; runs = refl; ended = refl }
completes (Owner id priority owner) header specs small = record { more = completion (Owner id priority owner); state = _; runs = refl; ended = refl }
completes Listed header specs small = record { more = completion Listed; state = _; runs = refl; ended = refl }
completes Comma header specs small = record { more = completion Comma; state = _; runs = refl; ended = refl }
completes Named header specs small = record { more = completion Named; state = _; runs = refl; ended = refl }

-- each text of the grammar is run to its end
reads : (symbols : List PgSymbol) (raw : RawGame) → SpellsGame symbols raw → Reads step initial IsEnded raw_of symbols raw
reads symbols raw text =
    let found = run_text symbols raw text in
    record { state = at Ended raw.header raw.specs found.small; runs = found.runs; ended = refl; kept = refl }

-- it has ended after a node, or has not
ended_or_open : (stage : GameStage) → (stage ≡ Ended) ⊎ (stage ≡ Ended → ⊥)
ended_or_open Ended = inl refl
ended_or_open _ = inr (λ e. cc)

-- the automaton decides the grammar
pub decides_games : Decides game_syntax step initial IsEnded raw_of
decides_games = record {
  reads = reads;
  text = SpellsGame-from_run;
  completes = λ state. completes state.stage state.header state.specs state.header_too_small;
  ends = λ state. ended_or_open state.stage;
}

-- a token that is taken leads on, and one that is refused ends what begins a text
taken_reached : (taken : Bool) (state next : GameReaderState) (lexemes : List (Lexeme PgKind)) (lexeme : Lexeme PgKind) → Takes taken (step state (pg_symbol_of lexeme)) next
    → IsReachedBy (symbols_of lexemes) state
    → TakesOrRefuses taken (TokensBegin game_syntax) (λ all. IsReachedBy (symbols_of all) next) lexemes lexeme
taken_reached true state next lexemes lexeme takes reached = (run_taken decides_games lexemes lexeme state reached.0 ∙ takes.0, takes.1)
taken_reached false state next lexemes lexeme takes reached = refused_from_run decides_games lexemes lexeme state reached.0 takes

-- the same of a call
pub taken_reached_all : (Self : Type 0) (result : Result Bool Refusal) (state next : GameReaderState) (lexeme : Lexeme PgKind)
    → IfOk result (λ taken. Takes taken (step state (pg_symbol_of lexeme)) next)
    → IfOk result (λ taken. (start : Self) (lexemes : List (Lexeme PgKind)) → IsReachedBy (symbols_of lexemes) state
    → TakesOrRefuses taken (TokensBegin game_syntax) (λ all. IsReachedBy (symbols_of all) next) lexemes lexeme)
taken_reached_all Self (Ok taken) state next lexeme takes = λ start lexemes reached. taken_reached taken state next lexemes lexeme takes reached
taken_reached_all Self (Err refusal) state next lexeme takes = tt

-- tokens that lead after a node are a text, and others are unfinished
pub judged_end : (done : Bool) (state : GameReaderState) (lexemes : List (Lexeme PgKind)) → IsTrue done ↔ (state.stage ≡ Ended) → IsReachedBy (symbols_of lexemes) state
    → IsWholeOrUnfinished done (TokensBegin game_syntax) (TokensComplete game_syntax) lexemes
judged_end true state lexemes ended reached = (raw_of state, SpellsGame-from_run (symbols_of lexemes) state reached.0 (ended.0 refl))
judged_end false state lexemes ended reached =
    unfinished_from_run decides_games lexemes state reached.0 (λ e. (let clash : false ≡ true = ended.1 e in cc))
