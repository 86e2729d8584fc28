-- a specification accepts each word of the circuit, or does not accept some
use Rattle.std.proofs.Common.{subst}
use Rattle.omega_lang_inclusion.specs.Containing.{IsContainment}
use Rattle.omega_answers_circuit.proofs.JudgedCircuits.{contained, not_contained}
use Rattle.omega_answers_circuit.proofs.judge.judgement_of_containment.Goals as goal

pub returns-in-Contained : goal.returns-in-Contained
returns-in-Contained c = λ a specification circuit of_circuit fit is.
    contained circuit a of_circuit fit specification (subst (IsContainment a specification) c.in-Contained.is is)

pub returns-in-NotContained : goal.returns-in-NotContained
returns-in-NotContained c = λ a specification circuit of_circuit fit is.
    not_contained circuit a of_circuit fit specification c.in-NotContained.example (subst (IsContainment a specification) c.in-NotContained.is is)
