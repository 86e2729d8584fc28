-- A formula is whole if an operand was read last and no parenthesis is open.
use Rattle.std.proofs.Common.{◌&&◌, not, List, ap, sym, ◌∙◌}
use Rattle.std.specs.List.{list_any}
use Rattle.std.specs.Option.{is_some}
use Rattle.omega_ltl_text.specs.declared.pending.Pending.{Pending}
use Rattle.omega_ltl_text.specs.private.Reader.{ReaderState, is_parenthesis, state_of}
use Rattle.omega_ltl_text.specs.private.Reading.{ended}
use Rattle.omega_ltl_text.proofs.Reductions.{ended_unless_open}
use Rattle.omega_ltl_text.proofs.reader.FormulaReaderTokenReaderFormulaKind.is_complete.Goals as goal

pub returns : goal.returns
returns c =
    let whole =
    ap (λ (reader : ReaderState). is_some (ended (state_of reader))) (sym c.self.view_is)
    ∙ (ended_unless_open c.self.inside.table c.self.inside.pending.items c.self.inside.current
    ∙ (ap (λ (l : List Pending). is_some c.self.inside.current && not (list_any is_parenthesis l)) (sym c.as_slice.ensures.value)
    ∙ sym c.is_whole.ensures)) in
    (λ yes. whole ∙ yes, λ yes. sym whole ∙ yes)
