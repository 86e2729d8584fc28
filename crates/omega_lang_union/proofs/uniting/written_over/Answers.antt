-- a label or the acceptance is too deep
use Rattle.std.proofs.lemmas.Result.{IfErr-weaker}
use Rattle.omega_hoa_edges.proofs.Refusals.{large_weaker}
use Rattle.omega_lang_trim.specs.Refusing.{deep_acceptance}
use Rattle.omega_lang_trim.specs.private.Writing.{StatesHaveDeepLabel}
use Rattle.omega_lang_trim.proofs.Deep.{deep_passes}
use Rattle.omega_lang_union.specs.Refusing.{IsOversized, passes_limit}
use Rattle.omega_lang_union.specs.Union.{united}
use Rattle.omega_lang_union.specs.private.Operands.{IsDeepFormula}
use Rattle.omega_lang_union.proofs.uniting.written_over.Goals as goal

pub returns-in-Err-clause-err : goal.returns-in-Err-clause-err
returns-in-Err-clause-err c =
    large_weaker (StatesHaveDeepLabel (united c.args.sharing.now c.args.one.now c.args.other.now).defined) (IsOversized (united c.args.sharing.now c.args.one.now c.args.other.now))
    (λ deep. passes_limit (deep_passes (united c.args.sharing.now c.args.one.now c.args.other.now) deep))
    _ c.in-Err.ensures.err

pub returns-in-Ok-clause-err : goal.returns-in-Ok-clause-err
returns-in-Ok-clause-err c =
    IfErr-weaker c.written_with.result _ _
    (λ refusal is. large_weaker (IsDeepFormula (united c.args.sharing.now c.args.one.now c.args.other.now).acceptance)
    (IsOversized (united c.args.sharing.now c.args.one.now c.args.other.now)) (λ deep. passes_limit (deep_acceptance deep)) refusal is)
    c.written_with.ensures.err
