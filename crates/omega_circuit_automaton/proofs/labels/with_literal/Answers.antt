-- a literal that is true, and one that is false
use Rattle.std.proofs.Common.{◌&&◌, sym, subst, ◌∙◌, ap}
use Rattle.std.proofs.lemmas.Result.{IfOk-weaker}
use Rattle.omega_hoa_label.specs.Raw.{negation}
use Rattle.omega_circuit_automaton.specs.declared.ternary.Ternary.{Ternary}
use Rattle.omega_circuit_automaton.specs.private.Cuts.{agrees}
use Rattle.omega_circuit_automaton.specs.private.Labels.{IsConjunction}
use Rattle.omega_circuit_automaton.proofs.LabelLemmas.{more_false, more_true}
use Rattle.omega_circuit_automaton.proofs.labels.with_literal.Goals as goal

pub returns-in_ok-proposition-in-True : goal.returns-in_ok-proposition-in-True
returns-in_ok-proposition-in-True c = IfOk-weaker c.conjunction.result _ _
    (λ both same holds is. subst (λ (v : Ternary). IsConjunction (λ letter. holds letter && agrees v (letter c.args.number)) both) (sym c.in-True.is)
    (more_true holds c.args.label both _ c.args.number is c.in_ok-proposition-in-True.ensures.ok same))
    c.conjunction.ensures

pub returns-in_ok-not-in-False : goal.returns-in_ok-not-in-False
returns-in_ok-not-in-False c = IfOk-weaker c.conjunction-in-False.result _ _
    (λ both same holds is. subst (λ (v : Ternary). IsConjunction (λ letter. holds letter && agrees v (letter c.args.number)) both) (sym c.in-False.is)
    (more_false holds c.args.label both _ c.args.number is
    (c.in_ok-not-in-False.ensures.ok ∙ ap negation c.in_ok-proposition-in-False.ensures.ok) same))
    c.conjunction-in-False.ensures
