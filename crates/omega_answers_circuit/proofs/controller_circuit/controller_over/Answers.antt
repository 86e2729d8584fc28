-- the names are the same or others, or the text is not read
use Rattle.std.proofs.Common.{◌∙◌, refl, sym, true≢false}
use Rattle.omega_answers_circuit.specs.ControllerCircuit.{over_others}
use Rattle.omega_answers_circuit.proofs.OwnRefusals.{names_decide, text_unread}
use Rattle.omega_answers_circuit.proofs.controller_circuit.controller_over.Goals as goal

pub returns-then-eq-clause-names : goal.returns-then-eq-clause-names
returns-then-eq-clause-names c = sym c.propositions.ensures ∙ (names_decide c.propositions.result.now c.args.names.now c.eq.result c.eq.ensures).0 c.if-eq.true

pub returns-else-eq-clause-refused : goal.returns-else-eq-clause-refused
returns-else-eq-clause-refused c =
    over_others c.in-Ok.controller c.in-Ok.ensures.automaton
    (λ same. true≢false (sym ((names_decide c.propositions.result.now c.args.names.now c.eq.result c.eq.ensures).1 (c.propositions.ensures ∙ same)) ∙ c.if-eq.false)) refl

pub returns-in-Err-clause-refused : goal.returns-in-Err-clause-refused
returns-in-Err-clause-refused c =
    text_unread c.args.names.now c.args.text.now c.in-Err.refusal c.in-Err.ensures.refused c.unread_for_size.result c.unread_for_size.ensures
