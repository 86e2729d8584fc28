-- the product is trimmed, or its trimming is refused
use Rattle.std.proofs.Common.{inr}
use Rattle.std.proofs.lemmas.Result.{IfErr-weaker, IfOk-weaker}
use Rattle.omega_answers_automaton.specs.TrimmedMeet.{IsMeeting}
use Rattle.omega_answers_automaton.proofs.trimmed_meet.trimmed_product_text.Goals as goal

pub returns-in-Ok-clause-text : goal.returns-in-Ok-clause-text
returns-in-Ok-clause-text c =
    let meeting : IsMeeting c.args.first.now c.args.second.now c.in-Ok.meeting =
    record { given = c.in-Ok.ensures.given; is = c.in-Ok.ensures.product; written = c.in-Ok.ensures.written; within = c.in-Ok.ensures.within } in
    IfOk-weaker c.trim_automaton.result _ _ (λ output text. record { product = c.in-Ok.meeting; meeting = meeting; trimmed = text }) c.trim_automaton.ensures.text

pub returns-in-Ok-clause-refused : goal.returns-in-Ok-clause-refused
returns-in-Ok-clause-refused c =
    let meeting : IsMeeting c.args.first.now c.args.second.now c.in-Ok.meeting =
    record { given = c.in-Ok.ensures.given; is = c.in-Ok.ensures.product; written = c.in-Ok.ensures.written; within = c.in-Ok.ensures.within } in
    IfErr-weaker c.trim_automaton.result _ _ (λ refusal is. inr (record { product = c.in-Ok.meeting; meeting = meeting; refused = is })) c.trim_automaton.ensures.refused
