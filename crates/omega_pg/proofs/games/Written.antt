-- The written lines of specifications, as pieces.
use Rattle.std.proofs.Common.{◌≡◌, ℕ, ◌<◌, ◌≤◌, true, Option, Some, None, IfSome, List, [], ◌∷◌, ◌++◌, length, refl, sym, subst, append_assoc, arith, All, codes}
use Rattle.std.specs.Prelude.{decimal}
use Rattle.std.specs.List.{AllPass, flat_map}
use Rattle.std.proofs.lemmas.List.Elements.{All-cons, All-head, All-nil, All-tail}
use Rattle.omega_text.specs.Bytes.{is_white}
use Rattle.omega_text.specs.pg.Laws.{EndsAreGaps, NamesAreLongest, NumbersAreLongest, SignsAreLongest, TokensFollow, WordsAreLongest}
use Rattle.omega_game_values.specs.Building.{IsWellFormed}
use Rattle.omega_game_values.specs.Game.{IsNameByte}
use Rattle.omega_text.specs.Limits.{most_number}
use Rattle.omega_game_values.specs.declared.node_spec.NodeSpec.{NodeSpec}
use Rattle.omega_game_values.specs.declared.player.Player.{Player}
use Rattle.omega_game_values.specs.declared.player.Player.TheVariants.{One, Zero}
use Rattle.omega_pg.specs.game.Canonical.{header_line, name_part, node_line, successors_after, successors_text}
use Rattle.omega_pg.specs.game.Grammar.{header_symbols, name_symbols, node_symbols, successor_symbols}
use Rattle.omega_pg.specs.Symbols.{PgSymbol, comma, number, semicolon}
use Rattle.omega_game_values.specs.Player.{player_number}
use Rattle.omega_pg.proofs.reader.Pieces.{EndsNumber, IsWritten, comma_written, end_written, name_written, number_written, parity_written, semicolon_written}

-- a space is white
pub space : AllPass is_white (32 ∷ [])
space = All-cons (λ b. is_white b ≡ true) 32 [] refl (All-nil (λ b. is_white b ≡ true))

-- a line feed is white
pub line_feed : AllPass is_white (10 ∷ [])
line_feed = All-cons (λ b. is_white b ≡ true) 10 [] refl (All-nil (λ b. is_white b ≡ true))

-- no byte is white
pub nothing : AllPass is_white []
nothing = All-nil (λ b. is_white b ≡ true)

-- a player's number is within the limit
pub player_number-le : (player : Player) → player_number player ≤ most_number
player_number-le Zero = omega arith
player_number-le One = omega arith

-- a name or a semicolon ends a number
name_ends : (called : Option (List ℕ)) (rest : List ℕ) → EndsNumber (name_part called ++ (59 ∷ rest))
name_ends None rest = refl
name_ends (Some bytes) rest = refl

-- so does a comma
others_end : (others rest : List ℕ) → EndsNumber rest → EndsNumber (successors_after others ++ rest)
others_end [] rest ends = ends
others_end (id ∷ others) rest ends = refl

module _ (tokens : TokensFollow) (gaps : EndsAreGaps) (numbers : NumbersAreLongest) (words : WordsAreLongest) (signs : SignsAreLongest) (names : NamesAreLongest) where
  -- a name, the semicolon, and what is after
  name_end_written : (called : Option (List ℕ)) (rest : List ℕ) (symbols : List PgSymbol) → IfSome called (All IsNameByte) → IsWritten rest symbols
      → IsWritten (name_part called ++ (59 ∷ rest)) (name_symbols called ++ (semicolon ∷ symbols))
  name_end_written None rest symbols allowed then = semicolon_written tokens gaps numbers words signs names rest symbols then
  name_end_written (Some bytes) rest symbols allowed then =
      name_written tokens gaps numbers words signs names bytes (59 ∷ rest) (semicolon ∷ symbols) allowed
      (semicolon_written tokens gaps numbers words signs names rest symbols then)

  -- further identifiers, each after a comma
  others_written : (others rest : List ℕ) (symbols : List PgSymbol) → All (λ id. id ≤ most_number) others → EndsNumber rest → IsWritten rest symbols
      → IsWritten (successors_after others ++ rest) (flat_map (λ id. comma ∷ number id ∷ []) others ++ symbols)
  others_written [] rest symbols fits ends then = then
  others_written (id ∷ others) rest symbols fits ends then =
      comma_written tokens gaps numbers words signs names _ _
      (subst (λ text. IsWritten text (number id ∷ (flat_map (λ id. comma ∷ number id ∷ []) others ++ symbols)))
      (sym (append_assoc (decimal id) (successors_after others) rest))
      (number_written tokens gaps numbers words signs names [] (successors_after others ++ rest) id _ nothing
      (All-head (λ id. id ≤ most_number) id others fits)
      (others_end others rest ends)
      (others_written others rest symbols (All-tail (λ id. id ≤ most_number) id others fits) ends then)))

  -- identifiers after a space
  listed_written : (ids rest : List ℕ) (symbols : List PgSymbol) → 0 < length ids → All (λ id. id ≤ most_number) ids → EndsNumber rest → IsWritten rest symbols
      → IsWritten (32 ∷ (successors_text ids ++ rest)) (successor_symbols ids ++ symbols)
  listed_written [] rest symbols some fits ends then = absurd (omega (arith, some))
  listed_written (first ∷ others) rest symbols some fits ends then =
      subst (λ text. IsWritten (32 ∷ text) (number first ∷ (flat_map (λ id. comma ∷ number id ∷ []) others ++ symbols)))
      (sym (append_assoc (decimal first) (successors_after others) rest))
      (number_written tokens gaps numbers words signs names (32 ∷ []) (successors_after others ++ rest) first _ space
      (All-head (λ id. id ≤ most_number) first others fits)
      (others_end others rest ends)
      (others_written others rest symbols (All-tail (λ id. id ≤ most_number) first others fits) ends then))

  -- a line after a line feed
  line_written : (spec : NodeSpec) (rest : List ℕ) (symbols : List PgSymbol) → IsWellFormed spec → IsWritten (10 ∷ rest) symbols
      → IsWritten (10 ∷ (node_line spec ++ rest)) (node_symbols spec ++ symbols)
  line_written spec rest symbols well then =
      let ending = name_part spec.name ++ (59 ∷ 10 ∷ rest) in
      let tail = successors_text spec.successors ++ ending in
      let owner = decimal (player_number spec.owner) ++ (32 ∷ tail) in
      let priority = decimal spec.priority ++ (32 ∷ owner) in
      let text : decimal spec.id ++ (32 ∷ priority) ≡ node_line spec ++ rest = sym (simp append_assoc) in
      let spelled : successor_symbols spec.successors ++ (name_symbols spec.name ++ (semicolon ∷ symbols))
      ≡ (successor_symbols spec.successors ++ (name_symbols spec.name ++ semicolon ∷ [])) ++ symbols = sym (simp append_assoc) in
      subst (λ bytes. IsWritten (10 ∷ bytes) (node_symbols spec ++ symbols)) text
      (subst (λ list. IsWritten (10 ∷ (decimal spec.id ++ (32 ∷ priority)))
      (number spec.id ∷ number spec.priority ∷ number (player_number spec.owner) ∷ list)) spelled
      (number_written tokens gaps numbers words signs names (10 ∷ []) (32 ∷ priority) spec.id _ line_feed well.id refl
      (number_written tokens gaps numbers words signs names (32 ∷ []) (32 ∷ owner) spec.priority _ space well.priority refl
      (number_written tokens gaps numbers words signs names (32 ∷ []) (32 ∷ tail) (player_number spec.owner) _ space (player_number-le spec.owner) refl
      (listed_written spec.successors ending _ well.continued well.successors (name_ends spec.name (10 ∷ rest))
      (name_end_written spec.name (10 ∷ rest) symbols well.name then))))))

  -- lines after a line feed
  pub lines_written : (specs : List NodeSpec) → All IsWellFormed specs → IsWritten (10 ∷ flat_map node_line specs) (flat_map node_symbols specs)
  lines_written [] well = end_written tokens gaps numbers words signs names
  lines_written (spec ∷ specs) well =
      line_written spec (flat_map node_line specs) (flat_map node_symbols specs) (All-head IsWellFormed spec specs well)
      (lines_written specs (All-tail IsWellFormed spec specs well))

  -- a header and lines
  pub text_written : (n : ℕ) (specs : List NodeSpec) → n ≤ most_number → All IsWellFormed specs
      → IsWritten (header_line n ++ flat_map node_line specs) (header_symbols (Some n) ++ flat_map node_symbols specs)
  text_written n specs fits well =
      let lines = flat_map node_line specs in
      subst (λ bytes. IsWritten (codes "parity" ++ (32 ∷ bytes)) (header_symbols (Some n) ++ flat_map node_symbols specs))
      (sym (append_assoc (decimal n) (59 ∷ 10 ∷ []) lines))
      (parity_written tokens gaps numbers words signs names (decimal n ++ (59 ∷ 10 ∷ lines)) _
      (number_written tokens gaps numbers words signs names (32 ∷ []) (59 ∷ 10 ∷ lines) n _ space fits refl
      (semicolon_written tokens gaps numbers words signs names (10 ∷ lines) _ (lines_written specs well))))
