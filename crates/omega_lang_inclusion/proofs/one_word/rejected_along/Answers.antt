-- the words along the lasso are rejected
use Rattle.std.proofs.Common.{sym, subst}
use Rattle.omega_lang_lasso_word.specs.declared.lasso_word.LassoWord.{LassoWord}
use Rattle.omega_lang_inclusion.specs.Membership.{IsMembership}
use Rattle.omega_lang_inclusion.specs.declared.membership.Membership.TheVariants.{Rejected}
use Rattle.omega_lang_inclusion.proofs.Rejecting.{rejection_right}
use Rattle.omega_lang_inclusion.proofs.one_word.rejected_along.Goals as goal

pub returns-clause-right : goal.returns-clause-right
returns-clause-right c = λ word a means none.
    subst (λ (words : LassoWord). IsMembership word a (Rejected words)) (sym c.in_ok-words.ensures.words)
    (rejection_right word c.args.one.now a means none c.requires.automaton c.requires.searchable c.args.stem.now c.args.cycle.now c.requires.lasso)
