-- `choice_cause`: the line is that for the automaton that is read, or the text is refused.
use Rattle.std.proofs.lemmas.Result.{IfOk-weaker}
use Rattle.omega_hoa_diagnostics.specs.ChoiceCauses.{IsChoiceLine}
use Rattle.omega_hoa_diagnostics.proofs.LinesOfTexts.{read_told, unread_told}
use Rattle.omega_hoa_diagnostics.proofs.choice_causes.choice_cause.Goals as goal

pub returns-in-Ok-clause-cause : goal.returns-in-Ok-clause-cause
returns-in-Ok-clause-cause c =
    IfOk-weaker c.choice_line.result _ _
    (λ line told. read_told IsChoiceLine c.args.text.now line.items c.in-Ok.automaton c.automata_are_one.ensures c.in-Ok.ensures.automaton told)
    c.choice_line.ensures.line

pub returns-in-Err-clause-cause : goal.returns-in-Err-clause-cause
returns-in-Err-clause-cause c =
    IfOk-weaker c.line_of_unread.result _ _
    (λ line is. unread_told IsChoiceLine c.args.text.now line.items c.in-Err.refusal c.automata_are_unrefused.ensures c.in-Err.ensures.refused is.1 is.0)
    c.line_of_unread.ensures.none
