-- the second start
use Rattle.std.proofs.Common.{ℕ, Option, inl, sym, subst, ◌∙◌}
use Rattle.std.specs.Prelude.{IfNone, IfSome}
use Rattle.omega_lang_inclusion.specs.WordRefusing.{HasChoice, HasNoFoundChoice}
use Rattle.omega_lang_inclusion.proofs.Refused.{start_choice}
use Rattle.omega_lang_inclusion.proofs.accepting.found_choice.Goals as goal

pub returns-in-Err-clause-some : goal.returns-in-Err-clause-some
returns-in-Err-clause-some c =
    let found = start_choice c.args.automaton.now c.in-Err.refusal c.in-Err.ensures.err in
    subst (λ (o : Option ℕ). IfSome o (HasChoice c.args.automaton.now)) (sym (c.choice_in.ensures ∙ found.1)) (inl found.2)

pub returns-in-Err-clause-none : goal.returns-in-Err-clause-none
returns-in-Err-clause-none c =
    let found = start_choice c.args.automaton.now c.in-Err.refusal c.in-Err.ensures.err in
    subst (λ (o : Option ℕ). IfNone o (HasNoFoundChoice c.args.automaton.now)) (sym (c.choice_in.ensures ∙ found.1)) tt
