-- What is read of a game text is what its grammar says, and each text is in the grammar or is refused otherwise.
use Rattle.std.proofs.Common.{◌≡◌, ℕ, inl, inr, true, IfOk, List, map, refl, ap, ◌∙◌}
use Rattle.std.specs.Prelude.{◌↔◌, IsTrue}
use Rattle.omega_pg_diagnostics.specs.GameCauses.{WritesGame}
use Rattle.omega_pg_diagnostics.specs.private.AnyText.{any_syntax}
use Rattle.omega_pg_diagnostics.specs.private.Grammar.{is_in_grammar}
use Rattle.omega_pg_diagnostics.specs.private.WrittenGame.{Keeps, Written, nothing, run}
use Rattle.omega_pg_diagnostics.proofs.games.Spelled.{read_is_kept}
use Rattle.omega_game_values.specs.Game.{Node}
use Rattle.omega_pg.specs.Symbols.{pg_symbol_of}
use Rattle.omega_pg.specs.game.Grammar.{RawGame, game_syntax}
use Rattle.omega_pg.specs.game.Refusing.{IsReadRefusal}
use Rattle.omega_pg.specs.game.Text.{IsGameText}
use Rattle.omega_text.specs.Cut.{CutsAreOne, IsCut}
use Rattle.omega_text.specs.Lexeme.{Lexeme}
use Rattle.omega_text.specs.Reading.{IsReadText}
use Rattle.omega_text.specs.Syntax.{IsTextOf, TextsHaveNoFault, TokensComplete}
use Rattle.omega_text.specs.pg.Format.{pg_format}
use Rattle.omega_text.specs.declared.pg.kind.PgKind.{PgKind}
use Rattle.omega_text.specs.declared.refusal.Refusal.{Refusal}
use Rattle.omega_text.specs.declared.refusal.Refusal.TheVariants.{Automaton, Circuit, Game, Io, Memory, Task, Text}

-- what is read of the tokens of a text is what is written
pub text_is_kept : (source : List ℕ) (lexemes : List (Lexeme PgKind)) (written : Written) (raw : RawGame) → CutsAreOne pg_format → IsCut pg_format source lexemes
    → written ≡ run nothing (map pg_symbol_of lexemes) → IsTextOf game_syntax source raw → Keeps raw written
text_is_kept source lexemes written raw one cut read text =
    read_is_kept raw written
    (read ∙ ap (λ list. run nothing (map pg_symbol_of list)) (one source lexemes text.lexemes cut text.cut) ∙ ap (run nothing) text.text.spelled)

-- the same of what was read of a text from the beginning on
pub whole_is_kept : (source : List ℕ) (start written : Written) → CutsAreOne pg_format → start ≡ nothing
    → IsReadText pg_format (λ lexemes. written ≡ run start (map pg_symbol_of lexemes)) (TokensComplete any_syntax) source
    → (raw : RawGame) → IsTextOf game_syntax source raw → Keeps raw written
whole_is_kept source start written one begun whole raw text =
    text_is_kept source whole.lexemes written raw one whole.cut
    (whole.all_taken ∙ ap (λ first. run first (map pg_symbol_of whole.lexemes)) begun) text

-- a text of the grammar can be cut into tokens
pub cut_into_tokens : (source : List ℕ) → WritesGame source → IsTextOf any_syntax source tt
cut_into_tokens source text = record { lexemes = text.writes.lexemes; cut = text.writes.cut; text = tt }

-- a text of a game is in the grammar
pub game_tells : (source : List ℕ) (nodes : List Node) → IsGameText source nodes → IsTrue true ↔ WritesGame source
game_tells source nodes text = (λ t. record { short = text.short; raw = text.raw; writes = text.writes }, λ w. refl)

-- a refusal of a text tells whether it is in the grammar
pub refusal_tells : (source : List ℕ) (refusal : Refusal) → TextsHaveNoFault game_syntax → IsReadRefusal source refusal
    → IfOk (is_in_grammar refusal) (λ written. IsTrue written ↔ WritesGame source)
refusal_tells source (Text fault) law (inl e) = cc
refusal_tells source (Text fault) law (inr faulty) = (λ t. cc, λ written. absurd (law source written.raw fault written.short written.writes faulty))
refusal_tells source (Game fault) law (inl e) = cc
refusal_tells source (Game fault) law (inr text) = (λ t. record { short = text.short; raw = text.raw; writes = text.writes }, λ w. refl)
refusal_tells source (Automaton fault) law (inl e) = cc
refusal_tells source (Circuit fault) law (inl e) = cc
refusal_tells source (Automaton fault) law (inr none) = absurd none
refusal_tells source (Circuit fault) law (inr none) = absurd none
refusal_tells source (Task fault) law (inl e) = cc
refusal_tells source (Task fault) law (inr none) = absurd none
refusal_tells source Memory law why = tt
refusal_tells source Io law (inl e) = cc
refusal_tells source Io law (inr none) = absurd none
