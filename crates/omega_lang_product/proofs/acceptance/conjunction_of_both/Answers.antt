-- a formula that is too deep is so as it is written
use Rattle.std.proofs.Common.{◌<◌, arith}
use Rattle.omega_hoa_expression.specs.Limits.{most_depth}
use Rattle.omega_hoa_acceptance.specs.Acceptance.{acc_depth}
use Rattle.omega_hoa_acceptance.specs.Raw.{raw_acc_depth}
use Rattle.omega_hoa_acceptance.specs.Writing.{acc_written}
use Rattle.omega_hoa_acceptance.proofs.WrittenLemmas.{written-deep}
use Rattle.omega_hoa_edges.proofs.Refusals.{large_weaker, passed_on}
use Rattle.omega_lang_product.specs.Acceptance.{conjoined_acceptance}
use Rattle.omega_lang_product.proofs.acceptance.conjunction_of_both.Goals as goal

pub returns-in_err-formula-clause-err : goal.returns-in_err-formula-clause-err
returns-in_err-formula-clause-err c =
    let both = conjoined_acceptance c.args.one.now c.args.other.now in
    passed_on c.from_residual.result _ _ c.from_residual.ensures.1
    (large_weaker (most_depth < acc_depth both) (most_depth < raw_acc_depth (acc_written both)) (λ deep. omega (arith, deep, written-deep both)) _ c.in_err-formula.ensures.err)
