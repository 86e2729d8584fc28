-- A strict game text is a lenient text of the same game.
use Rattle.std.proofs.Common.{◌≡◌, ℕ, ◌<◌, inl, Option, Some, None, Bool, true, false, List, [], ◌∷◌, ◌++◌, length, map, refl, ap, ap₂, sym, ◌∙◌, subst, All, arith}
use Rattle.std.specs.List.{flat_map}
use Rattle.std.proofs.lemmas.List.{map-append}
use Rattle.std.proofs.lemmas.List.Elements.{All-head, All-tail}
use Rattle.omega_text.specs.Cut.{Cuts}
use Rattle.omega_text.specs.Lexeme.{Lexeme}
use Rattle.omega_text.specs.Syntax.{IsTextOf}
use Rattle.omega_text.specs.pg.Format.{pg_format}
use Rattle.omega_text.specs.declared.pg.kind.PgKind.{PgKind}
use Rattle.omega_text.specs.declared.pg.kind.PgKind.TheVariants.{Comma, Name, Number, Parity, ParitySol, Semicolon}
use Rattle.omega_game_values.specs.Player.{player_number}
use Rattle.omega_game_values.specs.declared.node_spec.NodeSpec.{NodeSpec}
use Rattle.omega_pg.specs.Symbols.{PgSymbol, pg_symbol_of, symbol as strict_symbol}
use Rattle.omega_pg.specs.Symbols as strict
use Rattle.omega_pg.specs.game.Grammar as strict_grammar
use Rattle.omega_pg_lenient.specs.DeadEnds.{completed, completed_by}
use Rattle.omega_pg_lenient.specs.Format.{lenient, lenient_format}
use Rattle.omega_pg_lenient.specs.Grammar.{IsOpening, SpellsLenient, header, lenient_syntax, name_symbols, node_symbols, nothing, successor_symbols}
use Rattle.omega_pg_lenient.specs.Laws.{StrictTextsAreLenient}
use Rattle.omega_pg_lenient.specs.Symbols.{LenientSymbol, comma, name, number, parity, paritysol, semicolon, symbol, symbol_of}
use Rattle.omega_pg_lenient.specs.declared.kind.LenientKind.TheVariants.{Strict}
use Rattle.omega_pg_lenient.proofs.texts.StrictPlain.{strict_plain}

-- the cut of a strict text is one of a lenient text
cuts_lenient : (source : List ℕ) (from to : ℕ) (lexemes : List (Lexeme PgKind)) → Cuts pg_format source from lexemes to
    → Cuts lenient_format source from (map lenient lexemes) to
cuts_lenient source from to [] cuts = cuts
cuts_lenient source from to (lexeme ∷ lexemes) cuts =
    (inl (record { token = lexeme; follows = cuts.0; same = refl }), cuts_lenient source lexeme.span.end to lexemes cuts.1)

-- a symbol of strict texts as one of lenient texts
abbrev as_lenient : PgSymbol → LenientSymbol
as_lenient (strict.number n) = number n
as_lenient strict.parity = parity
as_lenient strict.paritysol = paritysol
as_lenient strict.semicolon = semicolon
as_lenient strict.comma = comma
as_lenient (strict.name bytes) = name bytes

symbol_same : (kind : PgKind) (value : ℕ) (text : List ℕ) → symbol (Strict kind) value text ≡ as_lenient (strict_symbol kind value text)
symbol_same Number value text = refl
symbol_same Parity value text = refl
symbol_same ParitySol value text = refl
symbol_same Semicolon value text = refl
symbol_same Comma value text = refl
symbol_same Name value text = refl

symbols_same : (lexemes : List (Lexeme PgKind)) → map symbol_of (map lenient lexemes) ≡ map as_lenient (map pg_symbol_of lexemes)
symbols_same [] = refl
symbols_same (lexeme ∷ lexemes) = ap₂ ◌∷◌ (symbol_same lexeme.kind lexeme.value lexeme.text) (symbols_same lexemes)

-- what is written is spelled by the same symbols
others_same : (others : List ℕ)
    → map as_lenient (flat_map (λ id. strict.comma ∷ strict.number id ∷ []) others) ≡ flat_map (λ id. comma ∷ number id ∷ []) others
others_same [] = refl
others_same (id ∷ others) = ap (λ list. comma ∷ number id ∷ list) (others_same others)

successors_same : (successors : List ℕ) → map as_lenient (strict_grammar.successor_symbols successors) ≡ successor_symbols successors
successors_same [] = refl
successors_same (first ∷ others) = ap (λ list. number first ∷ list) (others_same others)

name_same : (called : Option (List ℕ)) → map as_lenient (strict_grammar.name_symbols called ++ strict.semicolon ∷ []) ≡ name_symbols called ++ semicolon ∷ []
name_same None = refl
name_same (Some bytes) = refl

node_same : (spec : NodeSpec) → map as_lenient (strict_grammar.node_symbols spec) ≡ node_symbols spec
node_same spec =
    ap (λ list. number spec.id ∷ number spec.priority ∷ number (player_number spec.owner) ∷ list)
    (map-append as_lenient (strict_grammar.successor_symbols spec.successors) (strict_grammar.name_symbols spec.name ++ strict.semicolon ∷ [])
    ∙ ap₂ ◌++◌ (successors_same spec.successors) (name_same spec.name))

nodes_same : (specs : List NodeSpec) → map as_lenient (flat_map strict_grammar.node_symbols specs) ≡ flat_map node_symbols specs
nodes_same [] = refl
nodes_same (spec ∷ specs) =
    map-append as_lenient (strict_grammar.node_symbols spec) (flat_map strict_grammar.node_symbols specs) ∙ ap₂ ◌++◌ (node_same spec) (nodes_same specs)

-- a header or none is an opening
record IsHeaderOpening (written : Option ℕ) : Type 0 where
  headed : Bool
  opens : IsOpening headed false (map as_lenient (strict_grammar.header_symbols written))

header_opens : (written : Option ℕ) → IsHeaderOpening written
header_opens None = record { headed = false; opens = nothing }
header_opens (Some n) = record { headed = true; opens = header false [] n nothing }

-- without dead ends nothing is completed
live_same : (successors : List ℕ) (spec : NodeSpec) → 0 < length successors → completed_by successors spec ≡ spec
live_same [] spec some = absurd (omega (arith, some))
live_same (first ∷ others) spec some = refl

all_live : (specs : List NodeSpec) → All (λ spec. 0 < length spec.successors) specs → specs ≡ map completed specs
all_live [] continued = refl
all_live (spec ∷ specs) continued =
    ap₂ ◌∷◌ (sym (live_same spec.successors spec (All-head (λ (one : NodeSpec). 0 < length one.successors) spec specs continued)))
    (all_live specs (All-tail (λ (one : NodeSpec). 0 < length one.successors) spec specs continued))

-- the tokens of a strict text spell its specifications leniently
spelled_lenient : (lexemes : List (Lexeme PgKind)) (raw : strict_grammar.RawGame) → strict_grammar.SpellsGame (map pg_symbol_of lexemes) raw
    → SpellsLenient (map symbol_of (map lenient lexemes)) raw.specs
spelled_lenient lexemes raw text =
    let opening = header_opens raw.header in
    record {
      headed = opening.headed;
      started = false;
      opening = map as_lenient (strict_grammar.header_symbols raw.header);
      opens = opening.opens;
      written = raw.specs;
      specified = text.specified;
      spelled = inl (
          symbols_same lexemes
          ∙ ap (map as_lenient) text.spelled
          ∙ map-append as_lenient (strict_grammar.header_symbols raw.header) (flat_map strict_grammar.node_symbols raw.specs)
          ∙ ap (λ list. map as_lenient (strict_grammar.header_symbols raw.header) ++ list) (nodes_same raw.specs)
          );
      completes = all_live raw.specs text.continued;
    }

-- so a strict text describes its game as a lenient text too
pub strict_lenient : StrictTextsAreLenient
strict_lenient source game text =
    let cut = text.writes.cut in
    let spells : IsTextOf lenient_syntax source text.raw.specs = record {
      lexemes = map lenient text.writes.lexemes;
      cut = record { end = cut.end; cuts = cuts_lenient source 0 cut.end text.writes.lexemes cut.cuts; rest = cut.rest };
      text = spelled_lenient text.writes.lexemes text.raw text.writes.text;
    } in
    record {
      short = text.short;
      specs = text.raw.specs;
      spells = subst (λ plain. IsTextOf lenient_syntax plain text.raw.specs) (sym (strict_plain source text.writes.lexemes cut)) spells;
      rearranged = text.rearranged;
      limits = text.limits;
    }
