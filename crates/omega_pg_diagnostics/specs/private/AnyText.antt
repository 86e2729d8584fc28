-- The syntax of all texts that can be cut into tokens, whatever these are.
use Rattle.omega_pg.specs.Symbols.{PgSymbol, pg_syntax}
use Rattle.omega_text.specs.Syntax.{Syntax}
use Rattle.omega_text.specs.declared.pg.kind.PgKind.{PgKind}

-- all symbols are a text
abbrev pub any_syntax : Syntax PgKind PgSymbol (Unit {0})
any_syntax = pg_syntax (λ symbols raw. Unit {0})
