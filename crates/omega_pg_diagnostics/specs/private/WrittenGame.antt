-- What is read of a game text to find what is at fault in it, symbol by symbol.
use Rattle.std.specs.Prelude.{◌≡◌, ℕ, Option, Some, None, List, [], ◌∷◌, ◌++◌, fold}
use Rattle.omega_pg_diagnostics.specs.GameCauses.{listed_pairs, specified_ids}
use Rattle.omega_pg_diagnostics.specs.declared.written_game.NextGameNumber.{NextGameNumber}
use Rattle.omega_pg_diagnostics.specs.declared.written_game.NextGameNumber.TheVariants.{Header, Identifier}
use Rattle.omega_pg_diagnostics.specs.declared.written_game.NextGameNumber.TheVariants.{Owner}
use Rattle.omega_pg_diagnostics.specs.declared.written_game.NextGameNumber.TheVariants.{Priority, Successor}
use Rattle.omega_pg.specs.Symbols.{PgSymbol, comma, name, number, parity, paritysol, semicolon}
use Rattle.omega_pg.specs.game.Grammar.{RawGame}

-- what was read so far: which number is next, the header's number, the identifiers, and the successors after the
-- identifiers of their nodes
pub record Written : Type 0 where
  pub next : NextGameNumber
  pub header : Option ℕ
  pub ids : List ℕ
  pub listed : List (ℕ × ℕ)

-- nothing was read
abbrev pub nothing : Written
nothing = record { next = Identifier; header = None; ids = []; listed = [] }

-- what was read after one more number
abbrev pub after_number : NextGameNumber → Written → ℕ → Written
after_number Header written n = record written { header = Some n }
after_number Identifier written n = record written { next = Priority n; ids = written.ids ++ n ∷ [] }
after_number (Priority node) written n = record written { next = Owner node }
after_number (Owner node) written n = record written { next = Successor node }
after_number (Successor node) written n =
    record written { listed = written.listed ++ (node, n) ∷ [] }

-- what was read after one more symbol
abbrev pub step : Written → PgSymbol → Written
step written (number n) = after_number written.next written n
step written parity = record written { next = Header }
step written paritysol = written
step written semicolon = record written { next = Identifier }
step written comma = written
step written (name bytes) = written

-- what was read after symbols
abbrev pub run : Written → List PgSymbol → Written
run = fold step

-- what was read is what is written
pub record Keeps (raw : RawGame) (written : Written) : Type 0 where
  pub header : written.header ≡ raw.header
  pub ids : written.ids ≡ specified_ids raw.specs
  pub listed : written.listed ≡ listed_pairs raw.specs
