-- the automaton of the word is refused, or else the intersection says which words are admitted and accepted
use Rattle.std.proofs.lemmas.Result.{IfErr-weaker, IfOk-weaker, on_ok_weaker}
use Rattle.omega_hoa_automaton.specs.Branching.{has_universal_branching}
use Rattle.omega_lang_word_laws.proofs.parting.Plain.{or_parts}
use Rattle.omega_lang_inclusion.specs.SomeWord.{not_met, oversized}
use Rattle.omega_lang_inclusion.proofs.Members.{some_right}
use Rattle.omega_lang_inclusion.proofs.some_word.accepts_some.Goals as goal

pub returns-in-Err-clause-refused : goal.returns-in-Err-clause-refused
returns-in-Err-clause-refused c = oversized c.in-Err.ensures.refused

pub returns-in-Ok-clause-right : goal.returns-in-Ok-clause-right
returns-in-Ok-clause-right c =
    IfOk-weaker c.intersection.result _ _ (some_right c.args.word c.in-Ok.one c.args.automaton.now c.in-Ok.ensures.automaton) c.intersection.ensures.right

pub returns-in-Ok-clause-plain : goal.returns-in-Ok-clause-plain
returns-in-Ok-clause-plain c =
    on_ok_weaker c.intersection.result
    (λ plain. (or_parts (has_universal_branching c.args.automaton.now) (has_universal_branching c.in-Ok.one) plain).0) c.intersection.ensures.given

pub returns-in-Ok-clause-refused : goal.returns-in-Ok-clause-refused
returns-in-Ok-clause-refused c =
    IfErr-weaker c.intersection.result _ _ (λ refusal refused. not_met c.in-Ok.one c.in-Ok.ensures.automaton refused) c.intersection.ensures.refused
