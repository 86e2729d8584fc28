-- the inputs are listed
use Rattle.std.proofs.Common.{refl, sym, ap, ◌∙◌}
use Rattle.std.proofs.lemmas.Bool.{false≢true}
use Rattle.std.proofs.lemmas.Result.{IfErr-weaker, IfOk-weaker}
use Rattle.omega_answers_synth.specs.Outputs.{names_without}
use Rattle.omega_answers_synth.proofs.outputs.outputs_beside.Goals as goal

pub returns-then-not-are_named-clause-refused : goal.returns-then-not-are_named-clause-refused
returns-then-not-are_named-clause-refused c = (refl, λ named. false≢true (sym c.if-not-are_named.true ∙ c.are_named.ensures.1 named))

pub returns-clause-outputs : goal.returns-clause-outputs
returns-clause-outputs c =
    IfOk-weaker c.names_without.result _ _ (λ made is. (c.are_named.ensures.0 c.if-not-are_named.false, is ∙ ap (names_without c.args.ins.now) c.names.ensures))
    c.names_without.ensures.names

pub returns-clause-refused : goal.returns-clause-refused
returns-clause-refused c = IfErr-weaker c.names_without.result _ _ (λ refusal e. rw e tt) c.names_without.ensures.memory
