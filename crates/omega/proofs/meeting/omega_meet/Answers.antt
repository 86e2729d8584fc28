-- `omega_meet`: the text of the call that it hands on, or its refusal.
use Rattle.std.proofs.Common.{inl, inr, refl}
use Rattle.omega_answers_automaton.specs.Meet.{IsMeetAnswer, IsMeetRefused}
use Rattle.omega.proofs.Given.{text_given}
use Rattle.omega.proofs.meeting.omega_meet.Goals as goal

pub returns-in-Ok : goal.returns-in-Ok
returns-in-Ok c =
    text_given (IsMeetAnswer c.args.other.now c.args.text.now) (IsMeetRefused c.args.other.now c.args.text.now) c.give.result c.args.out.now c.give.new.out
    c.in-Ok.output.items c.in-Ok.ensures.answer (inl refl) c.give.ensures

pub returns-in-Err : goal.returns-in-Err
returns-in-Err c =
    inr (record { refused = c.in-Err.refused; refuses_so = c.in-Err.ensures.refused; outcome_is = c.of.ensures; kept = refl })
