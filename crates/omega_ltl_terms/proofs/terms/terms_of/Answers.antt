use Rattle.std.proofs.Common.{◌∙◌}
use Rattle.std.proofs.lemmas.Result.{IfOk-weaker}
use Rattle.omega_ltl_terms.proofs.terms.terms_of.Goals as goal

pub returns-in-Now-clause-terms : goal.returns-in-Now-clause-terms
returns-in-Now-clause-terms c = IfOk-weaker c.terms_now.result _ _ (λ terms found shapes are is. found shapes are (is ∙ c.in-Now.is)) c.terms_now.ensures.terms

pub returns-in-Next-clause-terms : goal.returns-in-Next-clause-terms
returns-in-Next-clause-terms c = IfOk-weaker c.terms_next.result _ _ (λ terms found shapes are is. found shapes are.grounded (is ∙ c.in-Next.is)) c.terms_next.ensures.terms

pub returns-in-Fix-clause-terms : goal.returns-in-Fix-clause-terms
returns-in-Fix-clause-terms c = IfOk-weaker c.terms_fix.result _ _ (λ terms found shapes are is. found shapes are (is ∙ c.in-Fix.is)) c.terms_fix.ensures.terms
