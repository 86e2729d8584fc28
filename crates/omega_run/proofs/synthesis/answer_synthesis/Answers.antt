-- `answer_synthesis`: what is made of a formula, or refused, did not fail.
use Rattle.omega_answers_circuit.specs.FormulaCircuit.{IsFormulaCircuitRefusal}
use Rattle.omega_answers_synth.specs.FormulaRefusing.{IsFormulaRealizeRefusal}
use Rattle.omega_answers_synth.specs.Outputs.{lists_of}
use Rattle.omega_run.proofs.CircuitRefusals.{no_formula_circuit}
use Rattle.omega_run.proofs.Unfailed.{unfailed}
use Rattle.omega_run.proofs.synthesis.answer_synthesis.Goals as goal

pub returns-in-Decide-clause-unfailed : goal.returns-in-Decide-clause-unfailed
returns-in-Decide-clause-unfailed c =
    let lists = lists_of c.given_names-names.result in
    unfailed (IsFormulaRealizeRefusal c.args.formula.now lists) (c.formula_refusals_are_no_failures.ensures c.args.formula.now lists)
    c.decide_formula_realizability.result c.decide_formula_realizability.ensures.refused

pub returns-in-Controller-clause-unfailed : goal.returns-in-Controller-clause-unfailed
returns-in-Controller-clause-unfailed c =
    let lists = lists_of c.given_names-names.result in
    unfailed (IsFormulaRealizeRefusal c.args.formula.now lists) (c.formula_refusals_are_no_failures.ensures c.args.formula.now lists)
    c.write_formula_winner.result c.write_formula_winner.ensures.refused

pub returns-in-Circuit-clause-unfailed : goal.returns-in-Circuit-clause-unfailed
returns-in-Circuit-clause-unfailed c =
    let lists = lists_of c.given_names-names.result in
    let form = c.form_for.result in
    let none = c.formula_refusals_are_no_failures.ensures c.args.formula.now lists in
    unfailed (IsFormulaCircuitRefusal form c.args.formula.now lists) (no_formula_circuit form c.args.formula.now lists none)
    c.write_formula_circuit.result c.write_formula_circuit.ensures.refused
