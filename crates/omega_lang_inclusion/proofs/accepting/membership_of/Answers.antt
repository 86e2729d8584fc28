-- each admitted word is accepted, or a counterexample shows that some are not
use Rattle.std.proofs.Common.{subst}
use Rattle.omega_lang_inclusion.specs.Containing.{IsContainment}
use Rattle.omega_lang_inclusion.proofs.Judging.{contained_accepts, counterexample_rejects}
use Rattle.omega_lang_inclusion.proofs.accepting.membership_of.Goals as goal

pub returns-in-Contained : goal.returns-in-Contained
returns-in-Contained c word one automaton means is =
    contained_accepts word one automaton means (subst (IsContainment one automaton) c.in-Contained.is is)

pub returns-in-NotContained : goal.returns-in-NotContained
returns-in-NotContained c word one automaton means is =
    counterexample_rejects word one automaton means c.in-NotContained.example (subst (IsContainment one automaton) c.in-NotContained.is is)
