-- One step more is numbered, or all are.
use Rattle.std.proofs.Common.{subst}
use Rattle.std.proofs.lemmas.List.{get_or_default}
use Rattle.omega_circuit.specs.private.Renumbered.{AddsNet}
use Rattle.omega_circuit.specs.declared.gate.Gate.{Gate}
use Rattle.omega_circuit.proofs.Reordering.{numbering_all, numbering_more, numbering_none}
use Rattle.omega_circuit.proofs.canonical.numbering_of.Goals as goal

pub loop-step-init : goal.loop-step-init
loop-step-init c =
    numbering_none c.args.first c.args.steps.now c.in_ok-numbers.numbers.keys c.new-nets.result.items c.in_ok-numbers.ensures.order c.new-nets.ensures.items c.in_ok-numbers.ensures.apart

pub loop-step-preserved : goal.loop-step-preserved
loop-step-preserved c =
    numbering_more c.args.first c.args.steps.now c.requires.ready c.loop-step.step-index c.loop-step-test.true c.loop-step.numbers.keys c.loop-step.nets.items c.loop-step.invariant
    c.add_net.new.numbers.keys c.add_net.new.nets.items c.in_ok-add_net.ensures.apart
    (subst (λ (net : Gate). AddsNet c.loop-step.numbers.keys c.add_net.new.numbers.keys c.loop-step.nets.items c.add_net.new.nets.items net)
    (get_or_default c.args.steps.now c.loop-step.step-index _ (record { literal = 0; left = 0; right = 0 }) c.loop-step-test.true) c.in_ok-add_net.ensures.added)

pub returns : goal.returns
returns c = numbering_all c.args.first c.args.steps.now c.loop-step.numbers.keys c.loop-step.nets.items c.loop-step.step-index c.loop-step-test.false c.loop-step.invariant
