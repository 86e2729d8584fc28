-- the header, or the acceptance is too deep, or memory is refused
use Rattle.std.proofs.Common.{◌<◌, ◌∙◌}
use Rattle.omega_hoa_expression.specs.Limits.{most_depth}
use Rattle.omega_hoa_acceptance.specs.Raw.{raw_acc_depth}
use Rattle.omega_hoa_acceptance.specs.Writing.{acc_written}
use Rattle.omega_lang_product.specs.Acceptance.{conjoined_acceptance}
use Rattle.omega_lang_product.specs.Refusing.{deep_acceptance}
use Rattle.omega_lang_product.specs.private.Faults.{IsProductFault}
use Rattle.omega_lang_product.proofs.Formulas.{items_are}
use Rattle.omega_lang_product.proofs.Refused.{large_in_product}
use Rattle.omega_hoa_edges.proofs.Refusals.{memory_task, passed_on}
use Rattle.omega_lang_product.proofs.forming.header_of.Goals as goal

pub returns-in_err-acceptance-clause-refused : goal.returns-in_err-acceptance-clause-refused
returns-in_err-acceptance-clause-refused c =
    let one = c.args.operands.now.one.now in
    let other = c.args.operands.now.other.now in
    passed_on c.from_residual.result _ _ c.from_residual.ensures.1
    (large_in_product one other (most_depth < raw_acc_depth (acc_written (conjoined_acceptance one other))) deep_acceptance _ c.in_err-acceptance.ensures.err)

pub returns-in_err-items_of-clause-refused : goal.returns-in_err-items_of-clause-refused
returns-in_err-items_of-clause-refused c =
    passed_on c.from_residual-in_err-items_of.result _ _ c.from_residual-in_err-items_of.ensures.1
    (memory_task (IsProductFault c.args.operands.now.one.now c.args.operands.now.other.now) _ c.in_err-items_of.ensures.memory)

pub returns-clause-header : goal.returns-clause-header
returns-clause-header c =
    let one = c.args.operands.now.one.now in
    let other = c.args.operands.now.other.now in
    let items = items_are one other c.args.explored.now.pairs.keys c.in_ok-acceptance.acceptance.name c.in_ok-acceptance.acceptance.formula
    c.args.names.items c.args.sets c.starts.result.now c.starts-2.result.now
    c.requires.header.named c.requires.header.counted c.starts.ensures c.starts-2.ensures in
    record {
      name = c.in_ok-acceptance.acceptance.name;
      formula = c.in_ok-acceptance.acceptance.formula;
      accepted = c.in_ok-acceptance.ensures.ok;
      is = c.in_ok-items_of.ensures.ok ∙ items;
    }
