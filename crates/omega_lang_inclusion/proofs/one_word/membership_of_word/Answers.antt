-- both accept a word, and so all that are admitted; or they accept none
use Rattle.std.proofs.Common.{sym, ◌∙◌, true≢false}
use Rattle.std.proofs.lemmas.Result.{IfErr-weaker, IfOk-weaker}
use Rattle.omega_lang_inclusion.proofs.Refused.{search_refused}
use Rattle.omega_lang_inclusion.proofs.Together.{all_accepted, each_accepted}
use Rattle.omega_lang_inclusion.proofs.one_word.membership_of_word.Goals as goal

pub returns-then-branch-clause-right : goal.returns-then-branch-clause-right
returns-then-branch-clause-right c = λ word means fixed.
    each_accepted word c.args.automaton.now
    (all_accepted word c.args.one.now c.args.automaton.now means c.keeps_limits.ensures fixed (c.in_ok-meets.ensures.right.0 c.if-branch.true))

pub returns-else-branch-clause-right : goal.returns-else-branch-clause-right
returns-else-branch-clause-right c =
    IfOk-weaker c.membership_of_rejected.result _ _
    (λ answer right word means fixed. right word c.args.automaton.now means
    (λ common. true≢false (sym (c.in_ok-meets.ensures.right.1 common) ∙ c.if-branch.false)))
    c.membership_of_rejected.ensures.right

pub returns-else-branch-clause-refused : goal.returns-else-branch-clause-refused
returns-else-branch-clause-refused c =
    IfErr-weaker c.membership_of_rejected.result _ _ (search_refused c.args.one.now c.args.automaton.now c.in_ok-meets.ensures.plain) c.membership_of_rejected.ensures.refused
