-- `judge_last`: the fault by what is found of the labels.
use Rattle.std.proofs.Common.{sym, ◌∙◌}
use Rattle.omega_hoa_automaton.proofs.ExpansionLemmas.{last_found}
use Rattle.omega_hoa_automaton.proofs.judging.expansions.judge_last.Goals as goal

pub returns-in-Some-clause-err : goal.returns-in-Some-clause-err
returns-in-Some-clause-err c =
    sym (last_found c.args.definitions.now c.args.states.now c.args.late c.args.acceptance c.in_ok-found.found c.in_ok-found.ensures.ok) ∙ (sym c.least_fault.ensures ∙ c.in-Some.is)

pub returns-in-None-clause-ok : goal.returns-in-None-clause-ok
returns-in-None-clause-ok c =
    sym (last_found c.args.definitions.now c.args.states.now c.args.late c.args.acceptance c.in_ok-found.found c.in_ok-found.ensures.ok) ∙ (sym c.least_fault.ensures ∙ c.in-None.is)
