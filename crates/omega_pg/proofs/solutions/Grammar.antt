-- The automaton of solution texts decides their grammar.
use Rattle.std.proofs.Common.{◌≡◌, ℕ, ◌⊎◌, inl, inr, Option, Some, None, IfSome, List, [], ◌∷◌, ◌++◌, refl, ap, sym, ◌∙◌, subst, append_assoc, append-nil}
use Rattle.std.specs.Prelude.{option_map}
use Rattle.std.specs.List.{flat_map}
use Rattle.std.proofs.lemmas.List.Concat.{flat_map-append}
use Rattle.omega_game_values.specs.declared.player.Player.{Player}
use Rattle.omega_game_values.specs.declared.player.Player.TheVariants.{One, Zero}
use Rattle.omega_pg.specs.private.game.reader.Automaton.{player_of}
use Rattle.omega_pg.specs.solution.Grammar.{SolutionLine, RawSolution, SpellsSolution, line_symbols, solution_syntax}
use Rattle.omega_pg.specs.private.solution.reader.Automaton.{SolutionReaderState, after_number, after_semicolon, after_word, initial, run, step, to_stage}
use Rattle.omega_pg.specs.Symbols.{PgSymbol, comma, name, number, parity, paritysol, semicolon}
use Rattle.omega_game_values.specs.Player.{player_number}
use Rattle.omega_pg.specs.declared.solution.stage.SolutionStage.{SolutionStage}
use Rattle.omega_pg.specs.declared.solution.stage.SolutionStage.TheVariants.{Chosen, Ended, Identifier, Number, Start, Winner, Word}
use Rattle.omega_pg.proofs.reader.Deciding.{Completes, Decides, Reads}
use Rattle.omega_pg.proofs.reader.Runs.{run_by_shown}
use Rattle.omega_pg.proofs.games.Players.{player_of-number}

-- a state with these parts
abbrev at : SolutionStage → ℕ → List SolutionLine → SolutionReaderState
at stage greatest lines = record { stage = stage; greatest = greatest; lines = lines }

-- the raw text that a state has kept
abbrev pub raw_of : SolutionReaderState → RawSolution
raw_of state = record { greatest = state.greatest; lines = state.lines }

-- the symbols of a header and lines
abbrev spelled : ℕ → List SolutionLine → List PgSymbol
spelled greatest lines = paritysol ∷ number greatest ∷ semicolon ∷ flat_map line_symbols lines

-- what completes a text from a stage
abbrev completion : SolutionStage → List PgSymbol
completion Start = paritysol ∷ number 0 ∷ semicolon ∷ []
completion Word = number 0 ∷ semicolon ∷ []
completion (Number greatest) = semicolon ∷ []
completion Ended = []
completion (Identifier id) = number 0 ∷ semicolon ∷ []
completion (Winner id winner) = semicolon ∷ []
completion (Chosen id winner successor) = semicolon ∷ []

-- a text has ended after the header or a line
abbrev pub IsEnded : SolutionReaderState → Type 0
IsEnded state = state.stage ≡ Ended

-- the completion leads to the end of the header or of a line
completes : (stage : SolutionStage) (greatest : ℕ) (lines : List SolutionLine) → Completes step IsEnded (at stage greatest lines)
completes Start greatest lines = record { more = completion Start; state = _; runs = refl; ended = refl }
completes Word greatest lines = record { more = completion Word; state = _; runs = refl; ended = refl }
completes (Number n) greatest lines = record { more = completion (Number n); state = _; runs = refl; ended = refl }
completes Ended greatest lines = record { more = completion Ended; state = _; runs = refl; ended = refl }
completes (Identifier id) greatest lines = record { more = completion (Identifier id); state = _; runs = refl; ended = refl }
completes (Winner id winner) greatest lines = record { more = completion (Winner id winner); state = _; runs = refl; ended = refl }
completes (Chosen id winner successor) greatest lines =
    record { more = completion (Chosen id winner successor); state = _; runs = refl; ended = refl }

-- the symbols of a line add it
run_line : (greatest : ℕ) (lines : List SolutionLine) (id : ℕ) (winner : Player) (successor : Option ℕ) (rest : List PgSymbol)
    → run (at Ended greatest lines) (line_symbols (record { identifier = id; winner = winner; successor = successor }) ++ rest)
    ≡ run (at Ended greatest (lines ++ record { identifier = id; winner = winner; successor = successor } ∷ [])) rest
run_line greatest lines id Zero None rest = refl
run_line greatest lines id Zero (Some chosen) rest = refl
run_line greatest lines id One None rest = refl
run_line greatest lines id One (Some chosen) rest = refl

run_lines : (greatest : ℕ) (lines more : List SolutionLine) → run (at Ended greatest lines) (flat_map line_symbols more) ≡ Some (at Ended greatest (lines ++ more))
run_lines greatest lines [] = ap (λ list. Some (at Ended greatest list)) (sym (append-nil lines))
run_lines greatest lines (line ∷ more) =
    run_line greatest lines line.identifier line.winner line.successor (flat_map line_symbols more)
    ∙ run_lines greatest (lines ++ line ∷ []) more
    ∙ ap (λ list. Some (at Ended greatest list)) (append_assoc lines (line ∷ []) more)

-- each text of the grammar is run to its end
reads : (symbols : List PgSymbol) (raw : RawSolution) → SpellsSolution symbols raw → Reads step initial IsEnded raw_of symbols raw
reads symbols raw text =
    record { state = at Ended raw.greatest raw.lines; runs = ap (run initial) text ∙ run_lines raw.greatest [] raw.lines; ended = refl; kept = refl }

-- nothing but the beginning of a header
record IsHeader (lines : List SolutionLine) (begun symbols : List PgSymbol) : Type 0 where
  pub empty : lines ≡ []
  pub shown : symbols ≡ begun

-- the symbols that lead to a state
abbrev Shows : SolutionStage → ℕ → List SolutionLine → List PgSymbol → Type 0
Shows Start greatest lines symbols = IsHeader lines [] symbols
Shows Word greatest lines symbols = IsHeader lines (paritysol ∷ []) symbols
Shows (Number n) greatest lines symbols = IsHeader lines (paritysol ∷ number n ∷ []) symbols
Shows Ended greatest lines symbols = symbols ≡ spelled greatest lines
Shows (Identifier id) greatest lines symbols = symbols ≡ spelled greatest lines ++ number id ∷ []
Shows (Winner id winner) greatest lines symbols = symbols ≡ spelled greatest lines ++ number id ∷ number (player_number winner) ∷ []
Shows (Chosen id winner successor) greatest lines symbols =
    symbols ≡ spelled greatest lines ++ number id ∷ number (player_number winner) ∷ number successor ∷ []

-- what a state shows
abbrev IsShown : SolutionReaderState → List PgSymbol → Type 0
IsShown state symbols = Shows state.stage state.greatest state.lines symbols

-- what a number leads to is shown
number_shown : (stage : SolutionStage) (greatest : ℕ) (lines : List SolutionLine) (symbols : List PgSymbol) (n : ℕ) → Shows stage greatest lines symbols
    → IfSome (after_number stage (at stage greatest lines) n) (λ next. IsShown next (symbols ++ number n ∷ []))
number_shown Start greatest lines symbols n shows = tt
number_shown Word greatest lines symbols n shows = record { empty = shows.empty; shown = ap (λ list. list ++ number n ∷ []) shows.shown }
number_shown (Number m) greatest lines symbols n shows = tt
number_shown Ended greatest lines symbols n shows = ap (λ list. list ++ number n ∷ []) shows
number_shown (Identifier id) greatest lines symbols n shows =
    elim (player_of n)
    as (λ o. IfSome o (λ winner. player_number winner ≡ n)
    → IfSome (option_map (λ next. to_stage next (at (Identifier id) greatest lines)) (option_map (λ winner. Winner id winner) o)) (λ next. IsShown next (symbols ++ number n ∷ []))) [
      | None ↦ λ e. tt
      | Some winner ↦ λ e. ap (λ list. list ++ number n ∷ []) shows ∙ append_assoc (spelled greatest lines) (number id ∷ []) (number n ∷ [])
          ∙ ap (λ m. spelled greatest lines ++ number id ∷ number m ∷ []) (sym e)
    ]
    (player_of-number n)
number_shown (Winner id winner) greatest lines symbols n shows =
    ap (λ list. list ++ number n ∷ []) shows ∙ append_assoc (spelled greatest lines) (number id ∷ number (player_number winner) ∷ []) (number n ∷ [])
number_shown (Chosen id winner successor) greatest lines symbols n shows = tt

-- what the word `paritysol` leads to is shown
word_shown : (stage : SolutionStage) (greatest : ℕ) (lines : List SolutionLine) (symbols : List PgSymbol) → Shows stage greatest lines symbols
    → IfSome (after_word stage (at stage greatest lines)) (λ next. IsShown next (symbols ++ paritysol ∷ []))
word_shown Start greatest lines symbols shows = record { empty = shows.empty; shown = ap (λ list. list ++ paritysol ∷ []) shows.shown }
word_shown _ greatest lines symbols shows = tt

-- a line more is spelled after the others
spelled-push : (greatest : ℕ) (lines : List SolutionLine) (line : SolutionLine) → spelled greatest (lines ++ line ∷ []) ≡ spelled greatest lines ++ line_symbols line
spelled-push greatest lines line =
    ap (λ list. paritysol ∷ number greatest ∷ semicolon ∷ list)
    (flat_map-append line_symbols lines (line ∷ []) ∙ ap (λ list. flat_map line_symbols lines ++ list) (append-nil (line_symbols line)))

-- what a semicolon leads to is shown
semicolon_shown : (stage : SolutionStage) (greatest : ℕ) (lines : List SolutionLine) (symbols : List PgSymbol) → Shows stage greatest lines symbols
    → IfSome (after_semicolon stage (at stage greatest lines)) (λ next. IsShown next (symbols ++ semicolon ∷ []))
semicolon_shown (Number n) greatest lines symbols shows =
    ap (λ list. list ++ semicolon ∷ []) shows.shown ∙ ap (λ list. paritysol ∷ number n ∷ semicolon ∷ flat_map line_symbols list) (sym shows.empty)
semicolon_shown (Winner id winner) greatest lines symbols shows =
    ap (λ list. list ++ semicolon ∷ []) shows
    ∙ append_assoc (spelled greatest lines) (number id ∷ number (player_number winner) ∷ []) (semicolon ∷ [])
    ∙ sym (spelled-push greatest lines (record { identifier = id; winner = winner; successor = None }))
semicolon_shown (Chosen id winner successor) greatest lines symbols shows =
    ap (λ list. list ++ semicolon ∷ []) shows
    ∙ append_assoc (spelled greatest lines) (number id ∷ number (player_number winner) ∷ number successor ∷ []) (semicolon ∷ [])
    ∙ sym (spelled-push greatest lines (record { identifier = id; winner = winner; successor = Some successor }))
semicolon_shown _ greatest lines symbols shows = tt

-- what a symbol leads to is shown
step_shown : (state : SolutionReaderState) (symbols : List PgSymbol) (symbol : PgSymbol) → IsShown state symbols
    → IfSome (step state symbol) (λ next. IsShown next (symbols ++ symbol ∷ []))
step_shown state symbols (number n) shows = number_shown state.stage state.greatest state.lines symbols n shows
step_shown state symbols parity shows = tt
step_shown state symbols paritysol shows = word_shown state.stage state.greatest state.lines symbols shows
step_shown state symbols semicolon shows = semicolon_shown state.stage state.greatest state.lines symbols shows
step_shown state symbols comma shows = tt
step_shown state symbols (name bytes) shows = tt

-- a run that ends after the header or a line has read a text
pub SpellsSolution-from_run : (symbols : List PgSymbol) (state : SolutionReaderState) → run initial symbols ≡ Some state → state.stage ≡ Ended
    → SpellsSolution symbols (raw_of state)
SpellsSolution-from_run symbols state e ended =
    let shown : IfSome (run initial symbols) (λ next. IsShown next symbols) = run_by_shown step IsShown step_shown initial [] symbols (record { empty = refl; shown = refl }) in
    let there : IsShown state symbols = subst (λ o. IfSome o (λ next. IsShown next symbols)) e shown in
    subst (λ stage. Shows stage state.greatest state.lines symbols) ended there

-- it has ended after the header or a line, or has not
ended_or_open : (stage : SolutionStage) → (stage ≡ Ended) ⊎ (stage ≡ Ended → ⊥)
ended_or_open Ended = inl refl
ended_or_open _ = inr (λ e. cc)

-- the automaton decides the grammar
pub decides_solutions : Decides solution_syntax step initial IsEnded raw_of
decides_solutions = record {
  reads = reads;
  text = SpellsSolution-from_run;
  completes = λ state. completes state.stage state.greatest state.lines;
  ends = λ state. ended_or_open state.stage;
}
