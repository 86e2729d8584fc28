-- the automaton of the word is refused, or else what is said of this automaton is said of the word
use Rattle.std.proofs.lemmas.Result.{IfErr-weaker, IfOk-weaker}
use Rattle.omega_lang_inclusion.specs.WordRefusing.{oversized}
use Rattle.omega_lang_inclusion.proofs.accepting.accepts.Goals as goal

pub returns-in-Err-clause-refused : goal.returns-in-Err-clause-refused
returns-in-Err-clause-refused c = oversized c.in-Err.ensures.refused

pub returns-in-Ok-clause-right : goal.returns-in-Ok-clause-right
returns-in-Ok-clause-right c =
    IfOk-weaker c.membership.result _ _ (λ answer right. right c.args.word c.in-Ok.ensures.automaton) c.membership.ensures.right

pub returns-in-Ok-clause-refused : goal.returns-in-Ok-clause-refused
returns-in-Ok-clause-refused c =
    IfErr-weaker c.membership.result _ _ (λ refusal refused. refused c.args.word c.in-Ok.ensures.automaton) c.membership.ensures.refused

pub returns-in-Ok-clause-decided : goal.returns-in-Ok-clause-decided
returns-in-Ok-clause-decided c =
    IfOk-weaker c.membership.result _ _ (λ answer decided. decided c.args.word c.in-Ok.ensures.automaton) c.membership.ensures.decided
