-- What the tokens of a cut spell is well formed.
use Rattle.std.proofs.Common.{◌≡◌, ℕ, suc, ◌-◌, ◌<◌, ◌≤◌, true, Option, Some, None, IfSome, List, [], ◌∷◌, ◌++◌, length, take, ap, sym, ◌∙◌, subst, append_assoc, arith, All}
use Rattle.std.specs.Prelude.{not, ◌==◌, nat_le}
use Rattle.std.proofs.Common.{length-append}
use Rattle.std.proofs.lemmas.List.{take-append-le, take_all}
use Rattle.std.proofs.lemmas.Bool.{and_parts, eqb-false, leb-true, not-true}
use Rattle.std.specs.Int.{is_in_range}
use Rattle.std.specs.List.{AllByRecursion, flat_map}
use Rattle.std.proofs.lemmas.List.Elements.{All-cons, All-head, All-nil, All-tail, All-weaker}
use Rattle.omega_text.specs.Cut.{Cuts}
use Rattle.omega_text.specs.pg.Forms.{Spells, is_name_byte, quoted}
use Rattle.omega_text.specs.Lexeme.{Lexeme}
use Rattle.omega_text.specs.pg.Format.{pg_format}
use Rattle.omega_text.specs.declared.pg.kind.PgKind.{PgKind}
use Rattle.omega_text.specs.declared.pg.kind.PgKind.TheVariants.{Comma, Name, Number, Parity, ParitySol, Semicolon}
use Rattle.omega_game_values.specs.Building.{IsWellFormed}
use Rattle.omega_game_values.specs.Game.{IsNameByte}
use Rattle.omega_text.specs.Limits.{most_number}
use Rattle.omega_game_values.specs.declared.node_spec.NodeSpec.{NodeSpec}
use Rattle.omega_pg.specs.game.Grammar.{name_symbols, node_symbols, successor_symbols}
use Rattle.omega_pg.specs.Symbols.{PgSymbol, comma, name, number, parity, paritysol, semicolon, symbol}
use Rattle.omega_pg.specs.private.reader.Symbols.{symbols_of}
use Rattle.omega_text.specs.Forms.{between_quotes}

-- a symbol that a token may be: a number within the limit, or a name of the allowed bytes
abbrev pub IsSound : PgSymbol → Type 0
IsSound (number n) = n ≤ most_number
IsSound parity = Unit {0}
IsSound paritysol = Unit {0}
IsSound semicolon = Unit {0}
IsSound comma = Unit {0}
IsSound (name bytes) = All IsNameByte bytes

-- the name between quotes
pub between-quoted : (bytes : List ℕ) → between_quotes (quoted bytes) ≡ bytes
between-quoted bytes =
    let count : suc (length (bytes ++ 34 ∷ [])) - 2 ≡ length bytes = omega (arith, length-append bytes (34 ∷ [])) in
    ap (λ n. take n (bytes ++ 34 ∷ [])) count
    ∙ take-append-le (length bytes) bytes (34 ∷ []) (omega arith)
    ∙ take_all (length bytes) bytes (omega arith)

name_byte : (b : ℕ) → is_name_byte b ≡ true → IsNameByte b
name_byte b e =
    let parts = and_parts (is_in_range 32 126 b) (not (b == 34)) e in
    let range = and_parts (nat_le 32 b) (nat_le b 126) parts.0 in
    (leb-true 32 b range.0, leb-true b 126 range.1, eqb-false b 34 (not-true (b == 34) parts.1))

pub sound_symbol : (kind : PgKind) (value : ℕ) (text : List ℕ) → Spells kind value text → IsSound (symbol kind value text)
sound_symbol Number value text spells = spells.0
sound_symbol Parity value text spells = tt
sound_symbol ParitySol value text spells = tt
sound_symbol Semicolon value text spells = tt
sound_symbol Comma value text spells = tt
sound_symbol Name value text spells =
    subst (All IsNameByte) (sym (between-quoted spells.1.0) ∙ ap between_quotes (sym spells.1.1))
    (All-weaker (λ b. is_name_byte b ≡ true) IsNameByte name_byte spells.1.0 spells.1.2)

-- the symbols of a cut are sound
pub sound_symbols : (source : List ℕ) (from to : ℕ) (lexemes : List (Lexeme PgKind)) → Cuts pg_format source from lexemes to → AllByRecursion IsSound (symbols_of lexemes)
sound_symbols source from to [] cuts = tt
sound_symbols source from to (one ∷ lexemes) cuts =
    (sound_symbol one.kind one.value one.text cuts.0.token.spells, sound_symbols source one.span.end to lexemes cuts.1)

-- what holds of all symbols holds of those after
pub sound_back : (xs ys : List PgSymbol) → AllByRecursion IsSound (xs ++ ys) → AllByRecursion IsSound ys
sound_back [] ys all = all
sound_back (x ∷ xs) ys all = sound_back xs ys all.1

sound_others : (others : List ℕ) (rest : List PgSymbol) → AllByRecursion IsSound (flat_map (λ id. comma ∷ number id ∷ []) others ++ rest)
    → All (λ id. id ≤ most_number) others
sound_others [] rest all = All-nil (λ id. id ≤ most_number)
sound_others (id ∷ others) rest all = All-cons (λ id. id ≤ most_number) id others all.1.0 (sound_others others rest all.1.1)

sound_successors : (successors : List ℕ) (rest : List PgSymbol) → AllByRecursion IsSound (successor_symbols successors ++ rest)
    → All (λ id. id ≤ most_number) successors
sound_successors [] rest all = All-nil (λ id. id ≤ most_number)
sound_successors (first ∷ others) rest all = All-cons (λ id. id ≤ most_number) first others all.0 (sound_others others rest all.1)

sound_name : (called : Option (List ℕ)) (rest : List PgSymbol) → AllByRecursion IsSound (name_symbols called ++ rest) → IfSome called (All IsNameByte)
sound_name None rest all = tt
sound_name (Some bytes) rest all = all.0

-- specifications that are spelled by sound symbols are well formed
pub specs_well_formed : (specs : List NodeSpec) → All (λ spec. 0 < length spec.successors) specs → AllByRecursion IsSound (flat_map node_symbols specs)
    → All IsWellFormed specs
specs_well_formed [] continued all = All-nil IsWellFormed
specs_well_formed (spec ∷ specs) continued all =
    let rest = flat_map node_symbols specs in
    let called = name_symbols spec.name ++ semicolon ∷ [] in
    let following = subst (AllByRecursion IsSound) (append_assoc (successor_symbols spec.successors) called rest) all.1.1.1 in
    All-cons IsWellFormed spec specs
    (record {
      id = all.0;
      priority = all.1.0;
      successors = sound_successors spec.successors (called ++ rest) following;
      continued = All-head (λ (one : NodeSpec). 0 < length one.successors) spec specs continued;
      name = sound_name spec.name ((semicolon ∷ []) ++ rest) (subst (AllByRecursion IsSound) (append_assoc (name_symbols spec.name) (semicolon ∷ []) rest) (sound_back (successor_symbols spec.successors) (called ++ rest) following));
    })
    (specs_well_formed specs (All-tail (λ (one : NodeSpec). 0 < length one.successors) spec specs continued) (sound_back (node_symbols spec) (flat_map node_symbols specs) all))
