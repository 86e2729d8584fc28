-- `lasso_part`: no line of a word or of a run begins before this place.
use Rattle.std.proofs.Common.{◌≡◌, ◌++◌, take, drop}
use Rattle.omega_lang_lasso_text.specs.Lines.{lasso_part}
use Rattle.omega_lang_lasso_text.proofs.lines.lasso_part.Given as goal

abbrev pub invariant-loop-at : goal.invariant-loop-at
invariant-loop-at l = lasso_part l.bytes ≡ take l.at l.bytes ++ lasso_part (drop l.at l.bytes)
