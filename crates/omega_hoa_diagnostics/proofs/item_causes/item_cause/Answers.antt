-- `item_cause`: the line is that for the automaton that is read, or the text is refused.
use Rattle.std.proofs.Common.{◌≡◌}
use Rattle.std.proofs.lemmas.Result.{IfOk-weaker}
use Rattle.omega_hoa_diagnostics.specs.ItemCauses.{item_line}
use Rattle.omega_hoa_diagnostics.proofs.LinesOfTexts.{read_told, unread_told}
use Rattle.omega_hoa_diagnostics.proofs.item_causes.item_cause.Goals as goal

pub returns-in-Ok-clause-cause : goal.returns-in-Ok-clause-cause
returns-in-Ok-clause-cause c =
    IfOk-weaker c.line_of_item.result _ _
    (λ line told. read_told (λ a line. line ≡ item_line a) c.args.text.now line.items c.in-Ok.automaton c.automata_are_one.ensures c.in-Ok.ensures.automaton told)
    c.line_of_item.ensures.line

pub returns-in-Err-clause-cause : goal.returns-in-Err-clause-cause
returns-in-Err-clause-cause c =
    IfOk-weaker c.line_of_unread.result _ _
    (λ line is. unread_told (λ a line. line ≡ item_line a) c.args.text.now line.items c.in-Err.refusal c.automata_are_unrefused.ensures
    c.in-Err.ensures.refused is.1 is.0)
    c.line_of_unread.ensures.none
