-- What is read of a solution text is what its grammar says, and each text is in the grammar or is refused otherwise.
use Rattle.std.proofs.Common.{◌≡◌, ℕ, inl, inr, true, IfOk, List, map, refl, ap, ◌∙◌}
use Rattle.std.specs.Prelude.{◌↔◌, IsTrue}
use Rattle.omega_pg_diagnostics.specs.SolutionCauses.{WritesSolution}
use Rattle.omega_pg_diagnostics.specs.private.AnyText.{any_syntax}
use Rattle.omega_pg_diagnostics.specs.private.Grammar.{is_in_grammar}
use Rattle.omega_pg_diagnostics.specs.private.WrittenSolution.{Keeps, Written, nothing, run}
use Rattle.omega_pg_diagnostics.proofs.solutions.Spelled.{read_is_kept}
use Rattle.omega_game_values.specs.Game.{Node}
use Rattle.omega_game_values.specs.declared.solution.Solution.{Solution}
use Rattle.omega_pg.specs.Symbols.{pg_symbol_of}
use Rattle.omega_pg.specs.solution.Grammar.{RawSolution, solution_syntax}
use Rattle.omega_pg.specs.solution.Refusing.{IsReadSolutionRefusal}
use Rattle.omega_pg.specs.solution.Text.{IsSolutionText, raw_solution}
use Rattle.omega_text.specs.Cut.{CutsAreOne, IsCut}
use Rattle.omega_text.specs.Lexeme.{Lexeme}
use Rattle.omega_text.specs.Reading.{IsReadText}
use Rattle.omega_text.specs.Syntax.{IsTextOf, TextsHaveNoFault, TokensComplete}
use Rattle.omega_text.specs.pg.Format.{pg_format}
use Rattle.omega_text.specs.declared.pg.kind.PgKind.{PgKind}
use Rattle.omega_text.specs.declared.refusal.Refusal.{Refusal}
use Rattle.omega_text.specs.declared.refusal.Refusal.TheVariants.{Automaton, Circuit, Game, Io, Memory, Task, Text}

-- what is read of the tokens of a text is what is written
pub text_is_kept : (source : List ℕ) (lexemes : List (Lexeme PgKind)) (written : Written) (raw : RawSolution) → CutsAreOne pg_format → IsCut pg_format source lexemes
    → written ≡ run nothing (map pg_symbol_of lexemes) → IsTextOf solution_syntax source raw → Keeps raw written
text_is_kept source lexemes written raw one cut read text =
    read_is_kept raw written
    (read ∙ ap (λ list. run nothing (map pg_symbol_of list)) (one source lexemes text.lexemes cut text.cut) ∙ ap (run nothing) text.text)

-- the same of what was read of a text from the beginning on
pub whole_is_kept : (source : List ℕ) (start written : Written) → CutsAreOne pg_format → start ≡ nothing
    → IsReadText pg_format (λ lexemes. written ≡ run start (map pg_symbol_of lexemes)) (TokensComplete any_syntax) source
    → (raw : RawSolution) → IsTextOf solution_syntax source raw → Keeps raw written
whole_is_kept source start written one begun whole raw text =
    text_is_kept source whole.lexemes written raw one whole.cut
    (whole.all_taken ∙ ap (λ first. run first (map pg_symbol_of whole.lexemes)) begun) text

-- a text of the grammar can be cut into tokens
pub cut_into_tokens : (source : List ℕ) → WritesSolution source → IsTextOf any_syntax source tt
cut_into_tokens source text = record { lexemes = text.writes.lexemes; cut = text.writes.cut; text = tt }

-- a text of a solution is in the grammar
pub tells : (nodes : List Node) (source : List ℕ) (solution : Solution) → IsSolutionText nodes source solution → IsTrue true ↔ WritesSolution source
tells nodes source solution text =
    (λ t. record { short = text.short; raw = raw_solution nodes solution; writes = text.writes }, λ w. refl)

-- a refusal of a text tells whether it is in the grammar
pub refusal_tells : (nodes : List Node) (source : List ℕ) (refusal : Refusal) → TextsHaveNoFault solution_syntax → IsReadSolutionRefusal nodes source refusal
    → IfOk (is_in_grammar refusal) (λ written. IsTrue written ↔ WritesSolution source)
refusal_tells nodes source (Text fault) law (inl e) = cc
refusal_tells nodes source (Text fault) law (inr faulty) = (λ t. cc, λ written. absurd (law source written.raw fault written.short written.writes faulty))
refusal_tells nodes source (Game fault) law (inl e) = cc
refusal_tells nodes source (Game fault) law (inr none) = absurd none
refusal_tells nodes source (Automaton fault) law (inl e) = cc
refusal_tells nodes source (Circuit fault) law (inl e) = cc
refusal_tells nodes source (Automaton fault) law (inr none) = absurd none
refusal_tells nodes source (Circuit fault) law (inr none) = absurd none
refusal_tells nodes source (Task fault) law (inl e) = cc
refusal_tells nodes source (Task fault) law (inr (e, text)) = (λ t. record { short = text.short; raw = text.raw; writes = text.writes }, λ w. refl)
refusal_tells nodes source Memory law why = tt
refusal_tells nodes source Io law (inl e) = cc
refusal_tells nodes source Io law (inr none) = absurd none
