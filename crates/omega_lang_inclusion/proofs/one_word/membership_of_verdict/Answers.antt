-- no word is admitted
use Rattle.std.proofs.Common.{subst}
use Rattle.omega_lang_runs.specs.Verdict.{IsVerdict}
use Rattle.omega_lang_inclusion.proofs.Rejecting.{no_word}
use Rattle.omega_lang_inclusion.proofs.one_word.membership_of_verdict.Goals as goal

pub returns-in-Empty-clause-right : goal.returns-in-Empty-clause-right
returns-in-Empty-clause-right c = λ word a means none.
    no_word word c.args.one.now a means none c.requires.searchable (subst (IsVerdict c.args.one.now) c.in-Empty.is c.requires.verdict)
