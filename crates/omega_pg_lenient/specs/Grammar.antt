-- The grammar of lenient texts, as a spelling: the symbols by which nodes are written, after a header or none and a
-- first node or none.
use Rattle.std.specs.Prelude.{◌≡◌, ℕ, ◌<◌, ◌⊎◌, Bool, true, false, Option}
use Rattle.std.specs.Prelude.{Some, None, List, [], ◌∷◌, ◌++◌, length, map}
use Rattle.std.specs.List.{flat_map}
use Rattle.omega_game_values.specs.declared.node_spec.NodeSpec.{NodeSpec}
use Rattle.omega_game_values.specs.Player.{player_number}
use Rattle.omega_text.specs.Syntax.{Syntax}
use Rattle.omega_pg_lenient.specs.DeadEnds.{completed}
use Rattle.omega_pg_lenient.specs.Format.{lenient_format}
use Rattle.omega_pg_lenient.specs.Symbols.{LenientSymbol, comma, name, number}
use Rattle.omega_pg_lenient.specs.Symbols.{parity, semicolon, start, symbol_of}
use Rattle.omega_pg_lenient.specs.declared.kind.LenientKind.{LenientKind}

-- opening: at most one header, `parity` number `;`, and at most one first node, `start` number `;`, in either order;
-- the numbers say nothing
pub data IsOpening : Bool → Bool → List LenientSymbol → Type 0 where
  nothing : IsOpening false false []
  header : (started : Bool) (symbols : List LenientSymbol) (n : ℕ) → IsOpening false started symbols
      → IsOpening true started (symbols ++ parity ∷ number n ∷ semicolon ∷ [])
  first_node : (headed : Bool) (symbols : List LenientSymbol) (n : ℕ) → IsOpening headed false symbols
      → IsOpening headed true (symbols ++ start ∷ number n ∷ semicolon ∷ [])

-- successors: (identifier (`,` identifier)*)?
abbrev pub successor_symbols : List ℕ → List LenientSymbol
successor_symbols [] = []
successor_symbols (first ∷ others) = number first ∷ flat_map (λ id. comma ∷ number id ∷ []) others

-- name?
abbrev pub name_symbols : Option (List ℕ) → List LenientSymbol
name_symbols None = []
name_symbols (Some bytes) = name bytes ∷ []

-- node: identifier priority owner successors name? `;`
abbrev pub node_symbols : NodeSpec → List LenientSymbol
node_symbols spec =
    number spec.id ∷ number spec.priority ∷ number (player_number spec.owner)
    ∷ (successor_symbols spec.successors ++ (name_symbols spec.name ++ semicolon ∷ []))

-- the symbols are these, or these without the last `;`
abbrev pub EndsOpenly : List LenientSymbol → List LenientSymbol → Type 0
EndsOpenly symbols whole = (symbols ≡ whole) ⊎ (symbols ++ semicolon ∷ [] ≡ whole)

-- the symbols spell specifications: nodes are written, at least one, and dead ends among them are completed
pub record SpellsLenient (symbols : List LenientSymbol) (specs : List NodeSpec) : Type 0 where
  pub headed : Bool
  pub started : Bool
  pub opening : List LenientSymbol
  pub opens : IsOpening headed started opening
  pub written : List NodeSpec
  pub specified : 0 < length written
  pub spelled : EndsOpenly symbols (opening ++ flat_map node_symbols written)
  pub completes : specs ≡ map completed written

-- the syntax of lenient texts
abbrev pub lenient_syntax : Syntax LenientKind LenientSymbol (List NodeSpec)
lenient_syntax = record { format = lenient_format; symbol = symbol_of; spells = SpellsLenient }
