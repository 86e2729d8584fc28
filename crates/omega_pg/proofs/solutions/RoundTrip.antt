-- The written form of a solution describes that solution.
use Rattle.std.proofs.Common.{◌≡◌, ℕ, ◌-◌, ◌<◌, ◌≤◌, Option, Some, None, IfSome, List, [], ◌∷◌, ◌++◌, length, refl, sym, subst, append_assoc, arith, All}
use Rattle.std.specs.Prelude.{decimal, option_map}
use Rattle.std.specs.List.{flat_map}
use Rattle.std.proofs.lemmas.List.Elements.{All-from_get_or, All-head, All-tail}
use Rattle.std.proofs.lemmas.List.FromFn.{get_or-map-range_with_len, length-map-range_with_len}
use Rattle.omega_text.specs.pg.Laws.{EndsAreGaps, NamesAreLongest, NumbersAreLongest, SignsAreLongest, TokensFollow, WordsAreLongest}
use Rattle.omega_game_values.specs.Game.{IsGame, IsWithinLimits, Node, owner_at, greatest_identifier, identifier_at}
use Rattle.omega_text.specs.Limits.{most_number}
use Rattle.omega_pg.specs.solution.Grammar.{SolutionLine, RawSolution, no_line, choice_symbols, line_symbols}
use Rattle.omega_game_values.specs.Solution.{IsSolution, choices_of}
use Rattle.omega_game_values.specs.Winning.{choice_at}
use Rattle.omega_pg.specs.solution.Text.{line_at, raw_solution}
use Rattle.omega_pg.specs.solution.Laws.{WrittenSolutionsAreRead}
use Rattle.omega_pg.specs.solution.Canonical.{choice_part, solution_line, solution_text, written_solution}
use Rattle.omega_pg.specs.Symbols.{PgSymbol, number, paritysol, semicolon}
use Rattle.omega_game_values.specs.Player.{player_number}
use Rattle.omega_game_values.specs.declared.solution.Solution.{Solution}
use Rattle.omega_pg.proofs.games.Written.{line_feed, player_number-le, space}
use Rattle.omega_pg.proofs.reader.Pieces.{EndsNumber, IsWritten, end_written, number_written, paritysol_written, semicolon_written}
use Rattle.omega_pg.proofs.games.RoundTrip.{identifier_fits}
use Rattle.omega_pg.proofs.solutions.Choices.{chosen_inside}

-- a line whose numbers a text can hold
record IsWritableLine (line : SolutionLine) : Type 0 where
  pub identifier : line.identifier ≤ most_number
  pub successor : IfSome line.successor (λ id. id ≤ most_number)

-- a successor or a semicolon ends a number
choice_ends : (successor : Option ℕ) (rest : List ℕ) → EndsNumber (choice_part successor ++ (59 ∷ rest))
choice_ends None rest = refl
choice_ends (Some id) rest = refl

module _ (tokens : TokensFollow) (gaps : EndsAreGaps) (numbers : NumbersAreLongest) (words : WordsAreLongest) (signs : SignsAreLongest) (names : NamesAreLongest) where
  -- a successor, the semicolon, and what is after
  choice_end_written : (successor : Option ℕ) (rest : List ℕ) (symbols : List PgSymbol) → IfSome successor (λ id. id ≤ most_number) → IsWritten rest symbols
      → IsWritten (choice_part successor ++ (59 ∷ rest)) (choice_symbols successor ++ (semicolon ∷ symbols))
  choice_end_written None rest symbols fits then = semicolon_written tokens gaps numbers words signs names rest symbols then
  choice_end_written (Some id) rest symbols fits then =
      number_written tokens gaps numbers words signs names (32 ∷ []) (59 ∷ rest) id (semicolon ∷ symbols) space fits refl
      (semicolon_written tokens gaps numbers words signs names rest symbols then)

  -- a line after a line feed
  line_written : (line : SolutionLine) (rest : List ℕ) (symbols : List PgSymbol) → IsWritableLine line → IsWritten (10 ∷ rest) symbols
      → IsWritten (10 ∷ (solution_line line ++ rest)) (line_symbols line ++ symbols)
  line_written line rest symbols fits then =
      let ending = choice_part line.successor ++ (59 ∷ 10 ∷ rest) in
      let winner = decimal (player_number line.winner) ++ ending in
      let text : decimal line.identifier ++ (32 ∷ winner) ≡ solution_line line ++ rest = sym (simp append_assoc) in
      let spelled : choice_symbols line.successor ++ (semicolon ∷ symbols) ≡ (choice_symbols line.successor ++ semicolon ∷ []) ++ symbols = sym (simp append_assoc) in
      subst (λ bytes. IsWritten (10 ∷ bytes) (line_symbols line ++ symbols)) text
      (subst (λ list. IsWritten (10 ∷ (decimal line.identifier ++ (32 ∷ winner))) (number line.identifier ∷ number (player_number line.winner) ∷ list)) spelled
      (number_written tokens gaps numbers words signs names (10 ∷ []) (32 ∷ winner) line.identifier _ line_feed fits.identifier refl
      (number_written tokens gaps numbers words signs names (32 ∷ []) ending (player_number line.winner) _ space (player_number-le line.winner)
      (choice_ends line.successor (10 ∷ rest))
      (choice_end_written line.successor (10 ∷ rest) symbols fits.successor then))))

  -- lines after a line feed
  lines_written : (lines : List SolutionLine) → All IsWritableLine lines → IsWritten (10 ∷ flat_map solution_line lines) (flat_map line_symbols lines)
  lines_written [] fits = end_written tokens gaps numbers words signs names
  lines_written (line ∷ lines) fits =
      line_written line (flat_map solution_line lines) (flat_map line_symbols lines) (All-head IsWritableLine line lines fits)
      (lines_written lines (All-tail IsWritableLine line lines fits))

  -- a header and lines
  raw_written : (raw : RawSolution) → raw.greatest ≤ most_number → All IsWritableLine raw.lines
      → IsWritten (written_solution raw) (paritysol ∷ number raw.greatest ∷ semicolon ∷ flat_map line_symbols raw.lines)
  raw_written raw fits all =
      let lines = flat_map solution_line raw.lines in
      paritysol_written tokens gaps numbers words signs names (decimal raw.greatest ++ (59 ∷ 10 ∷ lines)) _
      (number_written tokens gaps numbers words signs names (32 ∷ []) (59 ∷ 10 ∷ lines) raw.greatest _ space fits refl
      (semicolon_written tokens gaps numbers words signs names (10 ∷ lines) _ (lines_written raw.lines all)))

-- a named place is within the game, and its identifier fits
choice_fits : (nodes : List Node) (choice : Option ℕ) → IsWithinLimits nodes → IfSome choice (λ w. w < length nodes)
    → IfSome (option_map (identifier_at nodes) choice) (λ id. id ≤ most_number)
choice_fits nodes None limits inside = tt
choice_fits nodes (Some w) limits inside = identifier_fits nodes w limits inside

-- the lines of a solution are writable
lines_fit : (nodes : List Node) (solution : Solution) → IsGame nodes → IsWithinLimits nodes → IsSolution nodes solution
    → All IsWritableLine (raw_solution nodes solution).lines
lines_fit nodes solution game limits fits =
    All-from_get_or IsWritableLine (raw_solution nodes solution).lines no_line (λ v h.
    let owner = owner_at nodes v in
    let choices = choices_of solution owner in
    let inside : v < length nodes = omega (arith, h, length-map-range_with_len (line_at nodes solution) 0 (length nodes)) in
    subst IsWritableLine (sym (get_or-map-range_with_len (line_at nodes solution) 0 (length nodes) v v no_line inside (omega arith)))
    (record {
      identifier = identifier_fits nodes v limits inside;
      successor = choice_fits nodes (choice_at choices v) limits (chosen_inside nodes owner choices v game (fits.strategies owner));
    }))

-- the written form describes the solution
pub solution_written : TokensFollow → EndsAreGaps → NumbersAreLongest → WordsAreLongest → SignsAreLongest → NamesAreLongest → WrittenSolutionsAreRead
solution_written tokens gaps numbers words signs names nodes solution game limits fits short =
    let greatest : greatest_identifier nodes ≤ most_number = identifier_fits nodes (length nodes - 1) limits (omega (arith, game.inhabited)) in
    let cut = raw_written tokens gaps numbers words signs names (raw_solution nodes solution) greatest (lines_fit nodes solution game limits fits)
    (solution_text nodes solution) 0 (omega arith) refl in
    record {
      short = short;
      writes = record { lexemes = cut.lexemes; cut = record { end = cut.end; cuts = cut.cuts; rest = cut.gap }; text = cut.spelled };
      fits = fits;
    }
