-- a label that is too deep is so as it is written
use Rattle.std.proofs.Common.{◌<◌, arith}
use Rattle.omega_hoa_expression.specs.Limits.{most_depth}
use Rattle.omega_hoa_label.specs.Label.{label_depth}
use Rattle.omega_hoa_label.specs.Raw.{raw_depth}
use Rattle.omega_hoa_label.specs.Writing.{label_written}
use Rattle.omega_hoa_edges.specs.Conjuncts.{joined}
use Rattle.omega_hoa_edges.proofs.Depths.{written_deeper}
use Rattle.omega_hoa_edges.proofs.Refusals.{large_weaker, passed_on}
use Rattle.omega_lang_product.proofs.labelling.written_label.Goals as goal

pub returns-in_err-label-clause-err : goal.returns-in_err-label-clause-err
returns-in_err-label-clause-err c =
    let both = joined c.args.one.now c.args.other.now in
    passed_on c.from_residual.result _ _ c.from_residual.ensures.1
    (large_weaker (most_depth < label_depth both) (most_depth < raw_depth (label_written both)) (λ deep. omega (arith, deep, written_deeper both)) _ c.in_err-label.ensures.err)
