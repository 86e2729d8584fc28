-- the refusal for want of memory is one of the search
use Rattle.std.proofs.lemmas.Result.{IfErr-weaker}
use Rattle.omega_lang_inclusion.proofs.one_word.membership_of_rejected.Goals as goal

pub returns-clause-refused : goal.returns-clause-refused
returns-clause-refused c = IfErr-weaker c.membership_of_verdict.result _ _ (λ refusal e. rw e tt) c.membership_of_verdict.ensures.memory
