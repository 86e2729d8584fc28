-- the choice that containment names
use Rattle.std.proofs.Common.{ℕ, Option, None, Some, sym, subst, ◌∙◌}
use Rattle.std.specs.Prelude.{IfNone}
use Rattle.std.proofs.lemmas.Result.{IfOk-weaker}
use Rattle.omega_lang_inclusion.specs.Refusing.{IsContainmentRefusal}
use Rattle.omega_lang_inclusion.specs.WordRefusing.{IsNoChoice}
use Rattle.omega_lang_inclusion.proofs.Refused.{choice_is, has_choice, no_choice}
use Rattle.omega_lang_inclusion.proofs.accepting.refused_choice.Goals as goal

-- what holds anyhow holds if there is none
if_none : (found : Option ℕ) (P : Type 0) → P → IfNone found P
if_none None P is = is
if_none (Some state) P is = tt

pub returns-in-Some-clause-some : goal.returns-in-Some-clause-some
returns-in-Some-clause-some c =
    let a = c.args.automaton.now in
    has_choice c.requires.0 a c.in-Some.state
    (subst (IsContainmentRefusal c.requires.0 a) (choice_is c.args.refusal.now c.in-Some.state (sym c.choice_in.ensures ∙ c.in-Some.is)) c.requires.1)

pub returns-in-None-clause-none : goal.returns-in-None-clause-none
returns-in-None-clause-none c =
    IfOk-weaker c.choice_for_size.result _ _
    (λ found some. if_none found (IsNoChoice c.args.refusal.now) (no_choice c.args.refusal.now (sym c.choice_in.ensures ∙ c.in-None.is))) c.choice_for_size.ensures.some
