-- the lists that are given, one by one
use Rattle.std.proofs.Common.{None, Some, ap, refl}
use Rattle.std.specs.Prelude.{option_map}
use Rattle.std.proofs.lemmas.Result.{IfErr-weaker, IfOk-weaker}
use Rattle.omega_text.specs.declared.refusal.Refusal.TheVariants.{Task}
use Rattle.omega_text.specs.declared.refusal.task.TaskFault.TheVariants.{Controllable}
use Rattle.omega_answers_synth.specs.Outputs.{lists_of}
use Rattle.omega_answers_synth.proofs.GivenOutputs.{listed_outputs, unparted_lists}
use Rattle.omega_answers_synth.proofs.outputs.outputs_of.Goals as goal

pub returns-in-Some-ins-clause-outputs : goal.returns-in-Some-ins-clause-outputs
returns-in-Some-ins-clause-outputs c =
    IfOk-weaker c.apart_outputs.result _ _
    (λ made by. listed_outputs c.args.formula.now (lists_of c.args.names) (Some c.in-Some.outs.now) (Some c.in-Some-ins.ins.now)
    (ap (option_map (λ list. list.now)) c.in-Some.is) (ap (option_map (λ list. list.now)) c.in-Some-ins.is) made.items by)
    c.apart_outputs.ensures.outputs

pub returns-in-Some-ins-clause-refused : goal.returns-in-Some-ins-clause-refused
returns-in-Some-ins-clause-refused c =
    IfErr-weaker c.apart_outputs.result _ _
    (unparted_lists c.args.formula.now (lists_of c.args.names) (Some c.in-Some.outs.now) (Some c.in-Some-ins.ins.now)
    (ap (option_map (λ list. list.now)) c.in-Some.is) (ap (option_map (λ list. list.now)) c.in-Some-ins.is))
    c.apart_outputs.ensures.refused

pub returns-in-None-ins-clause-outputs : goal.returns-in-None-ins-clause-outputs
returns-in-None-ins-clause-outputs c =
    IfOk-weaker c.named_outputs.result _ _
    (λ made by. listed_outputs c.args.formula.now (lists_of c.args.names) (Some c.in-Some.outs.now) None
    (ap (option_map (λ list. list.now)) c.in-Some.is) (ap (option_map (λ list. list.now)) c.in-None-ins.is) made.items by)
    c.named_outputs.ensures.outputs

pub returns-in-None-ins-clause-refused : goal.returns-in-None-ins-clause-refused
returns-in-None-ins-clause-refused c =
    IfErr-weaker c.named_outputs.result _ _
    (unparted_lists c.args.formula.now (lists_of c.args.names) (Some c.in-Some.outs.now) None
    (ap (option_map (λ list. list.now)) c.in-Some.is) (ap (option_map (λ list. list.now)) c.in-None-ins.is))
    c.named_outputs.ensures.refused

pub returns-in-Some-ins-2-clause-outputs : goal.returns-in-Some-ins-2-clause-outputs
returns-in-Some-ins-2-clause-outputs c =
    IfOk-weaker c.outputs_beside.result _ _
    (λ made by. listed_outputs c.args.formula.now (lists_of c.args.names) None (Some c.in-Some-ins-2.ins.now)
    (ap (option_map (λ list. list.now)) c.in-None.is) (ap (option_map (λ list. list.now)) c.in-Some-ins-2.is) made.items by)
    c.outputs_beside.ensures.outputs

pub returns-in-Some-ins-2-clause-refused : goal.returns-in-Some-ins-2-clause-refused
returns-in-Some-ins-2-clause-refused c =
    IfErr-weaker c.outputs_beside.result _ _
    (unparted_lists c.args.formula.now (lists_of c.args.names) None (Some c.in-Some-ins-2.ins.now)
    (ap (option_map (λ list. list.now)) c.in-None.is) (ap (option_map (λ list. list.now)) c.in-Some-ins-2.is))
    c.outputs_beside.ensures.refused

pub returns-in-None-ins-2-clause-refused : goal.returns-in-None-ins-2-clause-refused
returns-in-None-ins-2-clause-refused c =
    unparted_lists c.args.formula.now (lists_of c.args.names) None None
    (ap (option_map (λ list. list.now)) c.in-None.is) (ap (option_map (λ list. list.now)) c.in-None-ins-2.is)
    (Task Controllable) (refl, λ no. no)
