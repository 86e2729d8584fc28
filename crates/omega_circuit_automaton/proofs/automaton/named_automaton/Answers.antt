-- what is written means the automaton of the circuit
use Rattle.std.proofs.Common.{Result, Ok, Err}
use Rattle.std.specs.Prelude.{IfOk}
use Rattle.std.proofs.lemmas.Result.{IfOk-weaker}
use Rattle.omega_circuit_automaton.proofs.Meaning.{answers_each_once, automaton_is, deterministic, has_valuations, header_is}
use Rattle.omega_circuit_automaton.proofs.Words.{accepts_words}
use Rattle.omega_circuit_automaton.proofs.automaton.named_automaton.Goals as goal

pub returns-in-Ok-clause-words : goal.returns-in-Ok-clause-words
returns-in-Ok-clause-words c = IfOk-weaker c.meaning_of.result _ _
    (λ a means. accepts_words c.args.circuit.now c.is_circuit.ensures c.in-Ok.ensures.states.valuations a
    (automaton_is c.written_labels_mean.ensures c.written_formulas_mean.ensures c.args.circuit.now c.in-Ok.raw c.in-Ok.ensures a means))
    c.meaning_of.ensures.means

pub returns-in-Ok-clause-header : goal.returns-in-Ok-clause-header
returns-in-Ok-clause-header c = IfOk-weaker c.meaning_of.result _ _
    (λ a means. header_is c.written_labels_mean.ensures c.written_formulas_mean.ensures c.args.circuit.now c.in-Ok.raw c.in-Ok.ensures a means)
    c.meaning_of.ensures.means

-- what two facts of a result say together
both_ok : {X E : Type 0} (r : Result X E) (P Q R : X → Type 0) → ((x : X) → P x → Q x → R x) → IfOk r P → IfOk r Q → IfOk r R
both_ok (Ok x) P Q R f p q = f x p q
both_ok (Err e) P Q R f p q = p

pub returns-in-Ok-clause-answers : goal.returns-in-Ok-clause-answers
returns-in-Ok-clause-answers c = both_ok c.meaning_of.result _ _ _
    (λ a means limits. answers_each_once c.written_labels_mean.ensures c.written_formulas_mean.ensures c.args.circuit.now c.in-Ok.raw c.in-Ok.ensures a means limits)
    c.meaning_of.ensures.means c.meaning_of.ensures.limits

pub returns-in-Ok-clause-deterministic : goal.returns-in-Ok-clause-deterministic
returns-in-Ok-clause-deterministic c = both_ok c.meaning_of.result _ _ _
    (λ a means limits. deterministic c.written_labels_mean.ensures c.written_formulas_mean.ensures c.args.circuit.now c.in-Ok.raw c.in-Ok.ensures a means limits)
    c.meaning_of.ensures.means c.meaning_of.ensures.limits

pub returns-in-Ok-clause-states : goal.returns-in-Ok-clause-states
returns-in-Ok-clause-states c = both_ok c.meaning_of.result _ _ _
    (λ a means limits. has_valuations c.written_labels_mean.ensures c.written_formulas_mean.ensures c.args.circuit.now c.in-Ok.raw c.in-Ok.ensures a means limits)
    c.meaning_of.ensures.means c.meaning_of.ensures.limits
