-- the last test, where the others fail
use Rattle.std.proofs.Common.{nat_le, ap, ◌∙◌, arith}
use Rattle.omega_hoa_expression.specs.Limits.{most_depth}
use Rattle.omega_hoa_acceptance.specs.Raw.{raw_acc_depth}
use Rattle.omega_lang_complement.proofs.LimitTests.{by_depth}
use Rattle.omega_lang_complement.proofs.limits.exceeds_limits.Goals as goal

pub returns : goal.returns
returns c =
    c.is_deepest.ensures ∙ ap (nat_le most_depth) (ap raw_acc_depth c.requires)
    ∙ by_depth c.args.automaton.now (omega arith) (omega arith) (omega arith)
