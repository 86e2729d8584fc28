-- the text is refused, or what is answered or refused is that of its word
use Rattle.std.proofs.Common.{inl, inr}
use Rattle.std.proofs.lemmas.Result.{IfErr-weaker, IfOk-weaker}
use Rattle.omega_answers_formula.proofs.satisfies_word.text_reply.Goals as goal

pub returns-in-Ok-clause-verdict : goal.returns-in-Ok-clause-verdict
returns-in-Ok-clause-verdict c =
    IfOk-weaker c.word_reply.result _ _ (λ made verdict. (c.in-Ok.symbolic, c.in-Ok.ensures.word, verdict)) c.word_reply.ensures.verdict

pub returns-in-Ok-clause-refused : goal.returns-in-Ok-clause-refused
returns-in-Ok-clause-refused c =
    IfErr-weaker c.word_reply.result _ _ (λ refusal is. inr (c.in-Ok.symbolic, c.in-Ok.ensures.word, is)) c.word_reply.ensures.refused

pub returns-in-Err-clause-refused : goal.returns-in-Err-clause-refused
returns-in-Err-clause-refused c = inl c.in-Err.ensures.refused
