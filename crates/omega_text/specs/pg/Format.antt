-- PGSolver's texts as a format.
use Rattle.std.specs.Prelude.{length}
use Rattle.omega_text.specs.Format.{TextFormat}
use Rattle.omega_text.specs.pg.Cut.{Follows, IsGap}
use Rattle.omega_text.specs.pg.Fault.{HasFaultFrom}
use Rattle.omega_text.specs.declared.pg.kind.PgKind.{PgKind}

-- tokens, white space to the end, and faults
abbrev pub pg_format : TextFormat PgKind
pg_format = record {
  follows = Follows;
  ends = λ source from. IsGap source from (length source);
  faults = HasFaultFrom;
}
