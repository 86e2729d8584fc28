-- a letter is not judged, or leaves a proposition open, or there is one word
use Rattle.std.proofs.Common.{ℕ, List, inr, refl, sym, subst, ◌∙◌, true≢false}
use Rattle.std.proofs.lemmas.Result.{IfErr-weaker, IfOk-weaker}
use Rattle.omega_hoa_expression.proofs.PassingLemmas.{error_then}
use Rattle.omega_lang_inclusion.specs.private.Opened.{HasOpenName, IsNameRefusal}
use Rattle.omega_lang_inclusion.specs.WordRefusing.{has_open_letter, not_one}
use Rattle.omega_lang_inclusion.proofs.Opened.{one_word, open_letter}
use Rattle.omega_lang_inclusion.proofs.Refused.{name_refused}
use Rattle.omega_lang_inclusion.proofs.one_word.membership_of_one.Goals as goal

pub returns-in_err-has_open_name-clause-refused : goal.returns-in_err-has_open_name-clause-refused
returns-in_err-has_open_name-clause-refused c =
    error_then c.from_residual.result _ _ c.from_residual.ensures.1
    (λ e is word means. name_refused word c.args.one.now c.args.automaton.now c.args.state e means c.requires
    (subst (IsNameRefusal c.args.one.now c.args.automaton.now.propositions) (sym is)
    (subst (λ (names : List (List ℕ)). IsNameRefusal c.args.one.now names c.in_err-has_open_name.field-0.0) c.propositions.ensures c.in_err-has_open_name.ensures.refused)))

pub returns-then-branch-clause-refused : goal.returns-then-branch-clause-refused
returns-then-branch-clause-refused c = λ word means.
    has_open_letter c.args.state c.requires
    (open_letter word c.args.one.now means c.keeps_limits.ensures c.args.automaton.now
    (subst (HasOpenName c.args.one.now) c.propositions.ensures (c.in_ok-has_open_name.ensures.right.0 c.if-branch.true)))
    refl

pub returns-clause-right : goal.returns-clause-right
returns-clause-right c =
    IfOk-weaker c.membership_of_word.result _ _
    (λ answer right word means. right word means
    (one_word word c.args.one.now means c.keeps_limits.ensures c.args.automaton.now
    (λ is. true≢false (sym (c.in_ok-has_open_name.ensures.right.1 (subst (HasOpenName c.args.one.now) (sym c.propositions.ensures) is)) ∙ c.if-branch.false))))
    c.membership_of_word.ensures.right

pub returns-clause-decided : goal.returns-clause-decided
returns-clause-decided c =
    IfOk-weaker c.membership_of_word.result _ _
    (λ answer right word means. inr
    (one_word word c.args.one.now means c.keeps_limits.ensures c.args.automaton.now
    (λ is. true≢false (sym (c.in_ok-has_open_name.ensures.right.1 (subst (HasOpenName c.args.one.now) (sym c.propositions.ensures) is)) ∙ c.if-branch.false))))
    c.membership_of_word.ensures.right

pub returns-clause-refused : goal.returns-clause-refused
returns-clause-refused c =
    IfErr-weaker c.membership_of_word.result _ _
    (λ refusal refused word means. not_one c.args.one.now c.args.state means c.requires
    (one_word word c.args.one.now means c.keeps_limits.ensures c.args.automaton.now
    (λ is. true≢false (sym (c.in_ok-has_open_name.ensures.right.1 (subst (HasOpenName c.args.one.now) (sym c.propositions.ensures) is)) ∙ c.if-branch.false)))
    refused)
    c.membership_of_word.ensures.refused
