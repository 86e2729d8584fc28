-- The grammar of game texts, as a spelling: the symbols by which a header and specifications are written.
use Rattle.std.specs.Prelude.{◌≡◌, ℕ, ◌<◌, Option, Some, None, List, [], ◌∷◌, ◌++◌, length, All}
use Rattle.std.specs.List.{flat_map}
use Rattle.omega_game_values.specs.declared.node_spec.NodeSpec.{NodeSpec}
use Rattle.omega_text.specs.Syntax.{Syntax}
use Rattle.omega_text.specs.declared.pg.kind.PgKind.{PgKind}
use Rattle.omega_pg.specs.Symbols.{PgSymbol, pg_syntax, comma, name, number, parity, semicolon}
use Rattle.omega_game_values.specs.Player.{player_number}

-- a game text as it is written: the number of its header or none, and its specifications in their order
pub record RawGame : Type 0 where
  pub header : Option ℕ
  pub specs : List NodeSpec

-- header: `parity` number `;`
abbrev pub header_symbols : Option ℕ → List PgSymbol
header_symbols None = []
header_symbols (Some n) = parity ∷ number n ∷ semicolon ∷ []

-- successors: identifier (`,` identifier)*
abbrev pub successor_symbols : List ℕ → List PgSymbol
successor_symbols [] = []
successor_symbols (first ∷ others) = number first ∷ flat_map (λ id. comma ∷ number id ∷ []) others

-- name?
abbrev pub name_symbols : Option (List ℕ) → List PgSymbol
name_symbols None = []
name_symbols (Some bytes) = name bytes ∷ []

-- node: identifier priority owner successors name? `;`
abbrev pub node_symbols : NodeSpec → List PgSymbol
node_symbols spec =
    number spec.id ∷ number spec.priority ∷ number (player_number spec.owner)
    ∷ (successor_symbols spec.successors ++ (name_symbols spec.name ++ semicolon ∷ []))

-- game: header? node*
abbrev pub game_symbols : RawGame → List PgSymbol
game_symbols raw = header_symbols raw.header ++ flat_map node_symbols raw.specs

-- the symbols spell the raw text, which has a node, and a successor for each node
pub record SpellsGame (symbols : List PgSymbol) (raw : RawGame) : Type 0 where
  pub specified : 0 < length raw.specs
  pub continued : All (λ spec. 0 < length spec.successors) raw.specs
  pub spelled : symbols ≡ game_symbols raw

-- the syntax of game texts
abbrev pub game_syntax : Syntax PgKind PgSymbol RawGame
game_syntax = pg_syntax SpellsGame
