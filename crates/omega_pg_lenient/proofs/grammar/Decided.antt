-- The automaton of lenient texts decides their grammar.
use Rattle.std.proofs.Common.{◌≡◌, ◌<◌, ◌⊎◌, inl, inr, Bool, true, false, Result, Ok, Err, IfOk, Option, Some, None, List, [], ◌∷◌, ◌++◌, length, map, refl, ap, sym, ◌∙◌, subst, IfSome, arith}
use Rattle.std.specs.Prelude.{◌↔◌, IsTrue}
use Rattle.std.proofs.lemmas.List.{length-map}
use Rattle.omega_game_values.specs.declared.node_spec.NodeSpec.{NodeSpec}
use Rattle.omega_text.specs.Lexeme.{Lexeme}
use Rattle.omega_text.specs.Reading.{IsWholeOrUnfinished, TakesOrRefuses}
use Rattle.omega_text.specs.Syntax.{TokensBegin, TokensComplete}
use Rattle.omega_text.specs.declared.refusal.Refusal.{Refusal}
use Rattle.omega_pg_lenient.specs.DeadEnds.{completed}
use Rattle.omega_pg_lenient.specs.Grammar.{SpellsLenient, lenient_syntax, nothing}
use Rattle.omega_pg_lenient.specs.Symbols.{LenientSymbol, number, semicolon, symbol_of}
use Rattle.omega_pg_lenient.specs.declared.kind.LenientKind.{LenientKind}
use Rattle.omega_pg_lenient.specs.private.Automaton.{IsReachedBy, LenientState, MayEnd, Takes, after_semicolon, ended_specs, initial, run, step}
use Rattle.omega_pg_lenient.specs.declared.stage.LenientStage.{LenientStage}
use Rattle.omega_pg_lenient.specs.declared.stage.LenientStage.TheVariants.{Comma, Ended, HeaderNumber, HeaderWord, Identifier, Listed, Named, Opening, Owner, Priority, StartNumber, StartWord}
use Rattle.omega_pg.proofs.reader.Deciding.{Completes, Decides, Reads, refused_from_run, run_taken, unfinished_from_run}
use Rattle.omega_pg_lenient.proofs.grammar.Symbols.{symbols_of}
use Rattle.omega_pg.proofs.reader.Runs.{run_by_push, run_by_shown, run_by_stopped}
use Rattle.omega_pg_lenient.proofs.grammar.Shown.{AreNodes, Shows, ShowsAt, at, semicolon_shown, step_shown}
use Rattle.omega_pg_lenient.proofs.grammar.Spelled.{run_whole}

-- the specifications of a text that ends at a state
abbrev pub specs_of : LenientState → List NodeSpec
specs_of state = ended_specs state.stage state.specs

-- a text may end at a state
abbrev pub IsEnded : LenientState → Type 0
IsEnded state = MayEnd state.stage

-- a run from the beginning is shown by its state
shown_by_run : (symbols : List LenientSymbol) (state : LenientState) → run initial symbols ≡ Some state → Shows state symbols
shown_by_run symbols state e =
    let shown : IfSome (run initial symbols) (λ next. Shows next symbols) =
    run_by_shown step Shows step_shown initial [] symbols (refl, nothing) in
    subst (λ o. IfSome o (λ next. Shows next symbols)) e shown

-- completed specifications are as many as the written ones
some_written : (specs written : List NodeSpec) → specs ≡ map completed written → 0 < length specs → 0 < length written
some_written specs written is some = omega (arith, some, ap length is, length-map {B = NodeSpec} written completed)

-- whole nodes are a text, and so are those without their last semicolon
spelled_whole : (specs : List NodeSpec) (symbols : List LenientSymbol) → AreNodes specs symbols → SpellsLenient symbols specs
spelled_whole specs symbols nodes = record {
  headed = nodes.1.headed;
  started = nodes.1.started;
  opening = nodes.1.opening;
  opens = nodes.1.opens;
  written = nodes.1.written;
  specified = some_written specs nodes.1.written nodes.1.completes nodes.0;
  spelled = inl nodes.1.spelled;
  completes = nodes.1.completes;
}

spelled_openly : (specs : List NodeSpec) (symbols : List LenientSymbol) → AreNodes specs (symbols ++ semicolon ∷ []) → SpellsLenient symbols specs
spelled_openly specs symbols nodes = record {
  headed = nodes.1.headed;
  started = nodes.1.started;
  opening = nodes.1.opening;
  opens = nodes.1.opens;
  written = nodes.1.written;
  specified = some_written specs nodes.1.written nodes.1.completes nodes.0;
  spelled = inr nodes.1.spelled;
  completes = nodes.1.completes;
}

-- what is shown where a text may end is a text
spelled_at : (stage : LenientStage) (specs : List NodeSpec) (symbols : List LenientSymbol) → ShowsAt stage specs symbols → MayEnd stage
    → SpellsLenient symbols (ended_specs stage specs)
spelled_at (Opening headed started) specs symbols shows ended = absurd ended
spelled_at (HeaderWord started) specs symbols shows ended = absurd ended
spelled_at (HeaderNumber started) specs symbols shows ended = absurd ended
spelled_at (StartWord headed) specs symbols shows ended = absurd ended
spelled_at (StartNumber headed) specs symbols shows ended = absurd ended
spelled_at Ended specs symbols shows ended = spelled_whole specs symbols shows
spelled_at (Identifier id) specs symbols shows ended = absurd ended
spelled_at (Priority id priority) specs symbols shows ended = absurd ended
spelled_at (Owner id priority owner) specs symbols shows ended =
    spelled_openly (ended_specs (Owner id priority owner) specs) symbols (semicolon_shown (Owner id priority owner) specs symbols shows)
spelled_at Listed specs symbols shows ended = spelled_openly specs symbols (semicolon_shown Listed specs symbols shows)
spelled_at Comma specs symbols shows ended = absurd ended
spelled_at Named specs symbols shows ended = spelled_openly specs symbols shows

pub SpellsLenient-from_run : (symbols : List LenientSymbol) (state : LenientState) → run initial symbols ≡ Some state → IsEnded state
    → SpellsLenient symbols (specs_of state)
SpellsLenient-from_run symbols state e ended = spelled_at state.stage state.specs symbols (shown_by_run symbols state e) ended

-- what completes a text from a stage
abbrev completion : LenientStage → List LenientSymbol
completion (Opening headed started) = number 0 ∷ number 0 ∷ number 0 ∷ []
completion (HeaderWord started) = number 0 ∷ semicolon ∷ number 0 ∷ number 0 ∷ number 0 ∷ []
completion (HeaderNumber started) = semicolon ∷ number 0 ∷ number 0 ∷ number 0 ∷ []
completion (StartWord headed) = number 0 ∷ semicolon ∷ number 0 ∷ number 0 ∷ number 0 ∷ []
completion (StartNumber headed) = semicolon ∷ number 0 ∷ number 0 ∷ number 0 ∷ []
completion Ended = []
completion (Identifier id) = number 0 ∷ number 0 ∷ []
completion (Priority id priority) = number 0 ∷ []
completion (Owner id priority owner) = []
completion Listed = []
completion Comma = number 0 ∷ []
completion Named = []

-- the completion leads to where a text may end
completes : (stage : LenientStage) (specs : List NodeSpec) → Completes step IsEnded (at stage specs)
completes (Opening headed started) specs = record { more = completion (Opening headed started); state = _; runs = refl; ended = tt }
completes (HeaderWord started) specs = record { more = completion (HeaderWord started); state = _; runs = refl; ended = tt }
completes (HeaderNumber started) specs = record { more = completion (HeaderNumber started); state = _; runs = refl; ended = tt }
completes (StartWord headed) specs = record { more = completion (StartWord headed); state = _; runs = refl; ended = tt }
completes (StartNumber headed) specs = record { more = completion (StartNumber headed); state = _; runs = refl; ended = tt }
completes Ended specs = record { more = completion Ended; state = _; runs = refl; ended = tt }
completes (Identifier id) specs = record { more = completion (Identifier id); state = _; runs = refl; ended = tt }
completes (Priority id priority) specs = record { more = completion (Priority id priority); state = _; runs = refl; ended = tt }
completes (Owner id priority owner) specs = record { more = completion (Owner id priority owner); state = _; runs = refl; ended = tt }
completes Listed specs = record { more = completion Listed; state = _; runs = refl; ended = tt }
completes Comma specs = record { more = completion Comma; state = _; runs = refl; ended = tt }
completes Named specs = record { more = completion Named; state = _; runs = refl; ended = tt }

-- the stage and the specifications of a state that may be none
abbrev stage_in : Option LenientState → LenientStage
stage_in None = Ended
stage_in (Some state) = state.stage

abbrev specs_in : Option LenientState → List NodeSpec
specs_in None = []
specs_in (Some state) = state.specs

-- where a semicolon ends a node, a text may end before it
open_end : (stage : LenientStage) (specs all : List NodeSpec) → after_semicolon stage (at stage specs) ≡ Some (at Ended all)
    → MayEnd stage × (ended_specs stage specs ≡ all)
open_end (Opening headed started) specs all e = cc
open_end (HeaderWord started) specs all e = cc
open_end (HeaderNumber started) specs all e = (let clash : Opening true started ≡ Ended = ap stage_in e in cc)
open_end (StartWord headed) specs all e = cc
open_end (StartNumber headed) specs all e = (let clash : Opening headed true ≡ Ended = ap stage_in e in cc)
open_end Ended specs all e = cc
open_end (Identifier id) specs all e = cc
open_end (Priority id priority) specs all e = cc
open_end (Owner id priority owner) specs all e = (tt, ap specs_in e)
open_end Listed specs all e = (tt, ap specs_in e)
open_end Comma specs all e = cc
open_end Named specs all e = (tt, ap specs_in e)

-- a run over one symbol more was a run, and a step
run_split : (symbols : List LenientSymbol) (symbol : LenientSymbol) (next : LenientState) → run initial (symbols ++ symbol ∷ []) ≡ Some next
    → (state : LenientState) × (run initial symbols ≡ Some state) × (step state symbol ≡ Some next)
run_split symbols symbol next e =
    elim (run initial symbols)
    as (λ o. run initial symbols ≡ o → (state : LenientState) × (run initial symbols ≡ Some state) × (step state symbol ≡ Some next)) [
      | None ↦ λ none. (let clash : ◌≡◌ {A = Option LenientState} None (Some next) = sym (run_by_stopped step initial symbols (symbol ∷ []) none) ∙ e in cc)
      | Some state ↦ λ some. (state, some, sym (run_by_push step initial state symbols symbol some) ∙ e)
    ]
    refl

-- each text of the grammar is run to an end
reads : (symbols : List LenientSymbol) (specs : List NodeSpec) → SpellsLenient symbols specs → Reads step initial IsEnded specs_of symbols specs
reads symbols specs text =
    let whole = run_whole text.headed text.started text.opening text.written text.opens text.specified in
    elim text.spelled as (λ _. Reads step initial IsEnded specs_of symbols specs) [
      | inl is ↦ record {
        state = at Ended (map completed text.written);
        runs = ap (run initial) is ∙ whole;
        ended = tt;
        kept = sym text.completes;
      }
      | inr is ↦
          let found = run_split symbols semicolon (at Ended (map completed text.written)) (ap (run initial) is ∙ whole) in
          let end = open_end found.0.stage found.0.specs (map completed text.written) found.2 in
          record { state = found.0; runs = found.1; ended = end.0; kept = end.1 ∙ sym text.completes }
    ]

-- a text may end at a stage, or may not
ended_or_open : (stage : LenientStage) → MayEnd stage ⊎ (MayEnd stage → ⊥)
ended_or_open (Owner id priority owner) = inl tt
ended_or_open Listed = inl tt
ended_or_open Named = inl tt
ended_or_open Ended = inl tt
ended_or_open _ = inr (λ ended. ended)

-- the automaton decides the grammar
pub decides_lenient : Decides lenient_syntax step initial IsEnded specs_of
decides_lenient = record {
  reads = reads;
  text = SpellsLenient-from_run;
  completes = λ state. completes state.stage state.specs;
  ends = λ state. ended_or_open state.stage;
}

-- a token that is taken leads on, and one that is refused ends what begins a text
taken_reached : (taken : Bool) (state next : LenientState) (lexemes : List (Lexeme LenientKind)) (lexeme : Lexeme LenientKind)
    → Takes taken (step state (symbol_of lexeme)) next → IsReachedBy (symbols_of lexemes) state
    → TakesOrRefuses taken (TokensBegin lenient_syntax) (λ all. IsReachedBy (symbols_of all) next) lexemes lexeme
taken_reached true state next lexemes lexeme takes reached = (run_taken decides_lenient lexemes lexeme state reached.0 ∙ takes.0, takes.1)
taken_reached false state next lexemes lexeme takes reached = refused_from_run decides_lenient lexemes lexeme state reached.0 takes

-- the same of a call
pub taken_reached_all : (Self : Type 0) (result : Result Bool Refusal) (state next : LenientState) (lexeme : Lexeme LenientKind)
    → IfOk result (λ taken. Takes taken (step state (symbol_of lexeme)) next)
    → IfOk result (λ taken. (start : Self) (lexemes : List (Lexeme LenientKind)) → IsReachedBy (symbols_of lexemes) state
    → TakesOrRefuses taken (TokensBegin lenient_syntax) (λ all. IsReachedBy (symbols_of all) next) lexemes lexeme)
taken_reached_all Self (Ok taken) state next lexeme takes = λ start lexemes reached. taken_reached taken state next lexemes lexeme takes reached
taken_reached_all Self (Err refusal) state next lexeme takes = tt

-- tokens that lead to where a text may end are a text, and others are unfinished
pub judged_end : (done : Bool) (state : LenientState) (lexemes : List (Lexeme LenientKind)) → IsTrue done ↔ IsEnded state → IsReachedBy (symbols_of lexemes) state
    → IsWholeOrUnfinished done (TokensBegin lenient_syntax) (TokensComplete lenient_syntax) lexemes
judged_end true state lexemes ended reached = (specs_of state, SpellsLenient-from_run (symbols_of lexemes) state reached.0 (ended.0 refl))
judged_end false state lexemes ended reached =
    unfinished_from_run decides_lenient lexemes state reached.0 (λ e. (let clash : false ≡ true = ended.1 e in cc))
