-- Lasso texts as a format.
use Rattle.std.specs.Prelude.{length}
use Rattle.omega_text.specs.Format.{TextFormat}
use Rattle.omega_text.specs.pg.Cut.{IsGap}
use Rattle.omega_lang_lasso_text.specs.Cut.{Follows}
use Rattle.omega_lang_lasso_text.specs.Fault.{HasFaultFrom}
use Rattle.omega_lang_lasso_text.specs.declared.kind.LassoKind.{LassoKind}

-- tokens, white space to the end, and faults
abbrev pub lasso_format : TextFormat LassoKind
lasso_format = record {
  follows = Follows;
  ends = λ source from. IsGap source from (length source);
  faults = HasFaultFrom;
}
