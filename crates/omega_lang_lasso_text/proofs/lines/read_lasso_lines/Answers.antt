-- `read_lasso_lines`: the part of the lasso is refused.
use Rattle.std.proofs.Common.{ℕ, ◌≤◌, List, length, arith, subst}
use Rattle.std.specs.Prelude.{IfErr}
use Rattle.omega_text.specs.Limits.{most_text}
use Rattle.omega_lang_lasso_text.specs.Refusing.{IsReadLassoRefusal}
use Rattle.omega_lang_lasso_text.proofs.LassoPart.{read_refused}
use Rattle.omega_lang_lasso_text.proofs.lines.read_lasso_lines.Goals as goal

pub returns-clause-refused : goal.returns-clause-refused
returns-clause-refused c =
    let short : length c.args.bytes.now ≤ most_text = omega (arith, c.if-bytes-gt-MOST_TEXT.false) in
    read_refused c.args.bytes.now short c.read_lasso.result
    (subst (λ (text : List ℕ). IfErr c.read_lasso.result (IsReadLassoRefusal text)) c.lasso_part.ensures c.read_lasso.ensures.refused)
