-- without a choice the refusal of containment, and want of memory
use Rattle.std.proofs.Common.{◌≡◌, ℕ, Option, subst, ◌∙◌}
use Rattle.std.specs.Prelude.{IfNone}
use Rattle.omega_hoa_expression.proofs.PassingLemmas.{error_then}
use Rattle.omega_text.specs.declared.refusal.Refusal.TheVariants.{Task}
use Rattle.omega_text.specs.declared.refusal.task.TaskFault.TheVariants.{TooLarge}
use Rattle.omega_lang_inclusion.specs.WordRefusing.{HasNoFoundChoice, IsNoChoice, no_memory, not_contained}
use Rattle.omega_lang_inclusion.proofs.accepting.membership_refused.Goals as goal

pub refused_choice-requires : goal.refused_choice-requires
refused_choice-requires c = (c.args.one.now, c.requires)

pub returns-in_err-refused_choice-clause-refused : goal.returns-in_err-refused_choice-clause-refused
returns-in_err-refused_choice-clause-refused c =
    error_then c.from_residual.result _ _ c.from_residual.ensures.1
    (λ e is word means. no_memory (is ∙ c.in_err-refused_choice.ensures.memory))

pub returns-in-None-clause-refused : goal.returns-in-None-clause-refused
returns-in-None-clause-refused c = λ word means.
    not_contained c.args.one.now means c.requires (subst (λ (o : Option ℕ). IfNone o (IsNoChoice c.args.refusal)) c.in-None.is c.in_ok-refused_choice.ensures.none)
    (subst (λ (o : Option ℕ). IfNone o (c.args.refusal ≡ Task TooLarge → HasNoFoundChoice c.args.automaton.now)) c.in-None.is c.in_ok-refused_choice.ensures.searched)
