-- `within_limit`: a text that is not longer is left as it is.
use Rattle.std.proofs.Common.{◌+◌, arith, sym}
use Rattle.std.proofs.lemmas.List.{length-take-le, take_all}
use Rattle.omega_text.specs.Limits.{most_text}
use Rattle.omega_run.proofs.held.within_limit.Goals as goal

pub returns-then-text-gt-MOST_TEXT-clause-limit : goal.returns-then-text-gt-MOST_TEXT-clause-limit
returns-then-text-gt-MOST_TEXT-clause-limit c =
    omega (arith, length-take-le (most_text + 1) c.args.text.now (omega (arith, c.if-text-gt-MOST_TEXT.true)))

pub returns-else-text-gt-MOST_TEXT-clause-cut : goal.returns-else-text-gt-MOST_TEXT-clause-cut
returns-else-text-gt-MOST_TEXT-clause-cut c =
    sym (take_all (most_text + 1) c.args.text.now (omega (arith, c.if-text-gt-MOST_TEXT.false)))
