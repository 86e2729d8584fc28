-- no literal
use Rattle.std.proofs.Common.{◌++◌, map, sym, subst}
use Rattle.std.proofs.lemmas.Result.{IfOk-weaker}
use Rattle.omega_circuit_automaton.specs.private.Cuts.{fits}
use Rattle.omega_circuit_automaton.specs.private.Labels.{IsConjunction, IsLabelAt}
use Rattle.omega_circuit_automaton.specs.private.Ternary.{known}
use Rattle.omega_circuit_automaton.proofs.LabelLemmas.{true_label}
use Rattle.omega_circuit_automaton.proofs.labels.edge_label.Goals as goal

pub returns-in-None : goal.returns-in-None
returns-in-None c = IfOk-weaker c.constant.result _ _
    (λ label is. subst (IsLabelAt 2 (λ letter. fits (c.args.cube.now ++ map known c.args.outputs.now) letter)) (sym is)
    (true_label (λ letter. fits (c.args.cube.now ++ map known c.args.outputs.now) letter)
    (subst (IsConjunction (λ letter. fits (c.args.cube.now ++ map known c.args.outputs.now) letter)) c.in-None.is c.in_ok-label.ensures).none))
    c.constant.ensures.ok
