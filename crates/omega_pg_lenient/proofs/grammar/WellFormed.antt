-- What the tokens of a cut spell is well formed, once its dead ends are completed.
use Rattle.std.proofs.Common.{◌≡◌, ℕ, ◌≤◌, inl, inr, Option, Some, None, IfSome, List, [], ◌∷◌, ◌++◌, map, ap, sym, ◌∙◌, subst, append_assoc, arith, All}
use Rattle.std.specs.List.{AllByRecursion, flat_map}
use Rattle.std.proofs.lemmas.List.Elements.{All-cons, All-nil, All-weaker}
use Rattle.std.specs.Prelude.{true}
use Rattle.omega_text.specs.Cut.{Cuts}
use Rattle.omega_text.specs.Forms.{between_quotes}
use Rattle.omega_text.specs.Lexeme.{Lexeme}
use Rattle.omega_text.specs.Limits.{most_number}
use Rattle.omega_text.specs.pg.Forms.{Spells, is_name_byte}
use Rattle.omega_text.specs.declared.pg.kind.PgKind.{PgKind}
use Rattle.omega_text.specs.declared.pg.kind.PgKind.TheVariants.{Comma, Name, Number, Parity, ParitySol, Semicolon}
use Rattle.omega_game_values.specs.Building.{IsWellFormed}
use Rattle.omega_game_values.specs.Game.{IsNameByte}
use Rattle.omega_game_values.specs.declared.node_spec.NodeSpec.{NodeSpec}
use Rattle.omega_game_values.specs.declared.player.Player.{Player}
use Rattle.omega_game_values.specs.declared.player.Player.TheVariants.{One, Zero}
use Rattle.omega_pg_lenient.specs.DeadEnds.{completed, losing_priority}
use Rattle.omega_pg_lenient.specs.Format.{lenient_format}
use Rattle.omega_pg_lenient.specs.Grammar.{EndsOpenly, name_symbols, node_symbols, successor_symbols}
use Rattle.omega_pg_lenient.specs.Symbols.{LenientSymbol, comma, name, number, parity, paritysol, semicolon, start, symbol, symbol_of}
use Rattle.omega_pg_lenient.specs.declared.kind.LenientKind.{LenientKind}
use Rattle.omega_pg_lenient.specs.declared.kind.LenientKind.TheVariants.{Strict}
use Rattle.omega_pg_lenient.proofs.grammar.Symbols.{symbols_of}
use Rattle.omega_pg_lenient.proofs.grammar.Quoted.{between-quoted, name_byte}

-- a symbol that a token may be: a number within the limit, or a name of the allowed bytes
abbrev pub IsSound : LenientSymbol → Type 0
IsSound (number n) = n ≤ most_number
IsSound parity = Unit {0}
IsSound paritysol = Unit {0}
IsSound start = Unit {0}
IsSound semicolon = Unit {0}
IsSound comma = Unit {0}
IsSound (name bytes) = All IsNameByte bytes

sound_symbol : (kind : PgKind) (value : ℕ) (text : List ℕ) → Spells kind value text → IsSound (symbol (Strict kind) value text)
sound_symbol Number value text spells = spells.0
sound_symbol Parity value text spells = tt
sound_symbol ParitySol value text spells = tt
sound_symbol Semicolon value text spells = tt
sound_symbol Comma value text spells = tt
sound_symbol Name value text spells =
    subst (All IsNameByte) (sym (between-quoted spells.1.0) ∙ ap between_quotes (sym spells.1.1))
    (All-weaker (λ b. is_name_byte b ≡ true) IsNameByte name_byte spells.1.0 spells.1.2)

-- the symbol of a token that follows
sound_lexeme : (source : List ℕ) (from : ℕ) (lexeme : Lexeme LenientKind) → lenient_format.follows source from lexeme → IsSound (symbol_of lexeme)
sound_lexeme source from lexeme (inl token) =
    subst (λ (one : Lexeme LenientKind). IsSound (symbol_of one)) (sym token.same)
    (sound_symbol token.token.kind token.token.value token.token.text token.follows.token.spells)
sound_lexeme source from lexeme (inr begins) =
    subst (λ (one : Lexeme LenientKind). IsSound (symbol_of one)) (sym begins.same) tt

-- the symbols of a cut are sound
pub sound_symbols : (source : List ℕ) (from to : ℕ) (lexemes : List (Lexeme LenientKind)) → Cuts lenient_format source from lexemes to
    → AllByRecursion IsSound (symbols_of lexemes)
sound_symbols source from to [] cuts = tt
sound_symbols source from to (one ∷ lexemes) cuts = (sound_lexeme source from one cuts.0, sound_symbols source one.span.end to lexemes cuts.1)

-- what holds of all symbols holds of those after
sound_back : (xs ys : List LenientSymbol) → AllByRecursion IsSound (xs ++ ys) → AllByRecursion IsSound ys
sound_back [] ys all = all
sound_back (x ∷ xs) ys all = sound_back xs ys all.1

-- and of one semicolon more
sound_push : (xs : List LenientSymbol) → AllByRecursion IsSound xs → AllByRecursion IsSound (xs ++ semicolon ∷ [])
sound_push [] all = (tt, tt)
sound_push (x ∷ xs) all = (all.0, sound_push xs all.1)

sound_others : (others : List ℕ) (rest : List LenientSymbol) → AllByRecursion IsSound (flat_map (λ id. comma ∷ number id ∷ []) others ++ rest)
    → All (λ id. id ≤ most_number) others
sound_others [] rest all = All-nil (λ id. id ≤ most_number)
sound_others (id ∷ others) rest all = All-cons (λ id. id ≤ most_number) id others all.1.0 (sound_others others rest all.1.1)

sound_name : (called : Option (List ℕ)) (rest : List LenientSymbol) → AllByRecursion IsSound (name_symbols called ++ rest) → IfSome called (All IsNameByte)
sound_name None rest all = tt
sound_name (Some bytes) rest all = all.0

losing_small : (owner : Player) → losing_priority owner ≤ most_number
losing_small Zero = omega arith
losing_small One = omega arith

-- a node that is spelled by sound symbols is well formed, completed if it is a dead end
node_well_formed : (id priority : ℕ) (owner : Player) (successors : List ℕ) (called : Option (List ℕ)) (rest : List LenientSymbol)
    → id ≤ most_number → priority ≤ most_number
    → AllByRecursion IsSound (successor_symbols successors ++ ((name_symbols called ++ semicolon ∷ []) ++ rest))
    → IfSome called (All IsNameByte)
    → IsWellFormed (completed (record { id = id; priority = priority; owner = owner; successors = successors; name = called }))
node_well_formed id priority owner [] called rest small_id small_priority all names = record {
  id = small_id;
  priority = losing_small owner;
  successors = All-cons (λ one. one ≤ most_number) id [] small_id (All-nil (λ one. one ≤ most_number));
  continued = omega arith;
  name = names;
}
node_well_formed id priority owner (first ∷ others) called rest small_id small_priority all names = record {
  id = small_id;
  priority = small_priority;
  successors = All-cons (λ one. one ≤ most_number) first others all.0 (sound_others others ((name_symbols called ++ semicolon ∷ []) ++ rest) all.1);
  continued = omega arith;
  name = names;
}

-- so are all
specs_well_formed : (written : List NodeSpec) → AllByRecursion IsSound (flat_map node_symbols written) → All IsWellFormed (map completed written)
specs_well_formed [] all = All-nil IsWellFormed
specs_well_formed (spec ∷ written) all =
    let rest = flat_map node_symbols written in
    let called = name_symbols spec.name ++ semicolon ∷ [] in
    let following = subst (AllByRecursion IsSound) (append_assoc (successor_symbols spec.successors) called rest) all.1.1.1 in
    All-cons IsWellFormed (completed spec) (map completed written)
    (node_well_formed spec.id spec.priority spec.owner spec.successors spec.name rest all.0 all.1.0 following
    (sound_name spec.name ((semicolon ∷ []) ++ rest) (subst (AllByRecursion IsSound) (append_assoc (name_symbols spec.name) (semicolon ∷ []) rest)
    (sound_back (successor_symbols spec.successors) (called ++ rest) following))))
    (specs_well_formed written (sound_back (node_symbols spec) rest all))

-- the specifications of sound symbols, whether or not the last `;` is missing
pub spelled_well_formed : (symbols opening : List LenientSymbol) (written : List NodeSpec) → EndsOpenly symbols (opening ++ flat_map node_symbols written)
    → AllByRecursion IsSound symbols → All IsWellFormed (map completed written)
spelled_well_formed symbols opening written (inl is) sound =
    specs_well_formed written (sound_back opening (flat_map node_symbols written) (subst (AllByRecursion IsSound) is sound))
spelled_well_formed symbols opening written (inr is) sound =
    specs_well_formed written (sound_back opening (flat_map node_symbols written) (subst (AllByRecursion IsSound) is (sound_push symbols sound)))
