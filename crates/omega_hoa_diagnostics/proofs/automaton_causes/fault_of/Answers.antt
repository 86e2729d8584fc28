-- `fault_of`: the refusal tells the fault of what is written.
use Rattle.std.proofs.Common.{IfOk, sym, subst}
use Rattle.omega_hoa_diagnostics.specs.private.Refused.{IsFaultOf}
use Rattle.omega_hoa_diagnostics.proofs.Texts.{refusal_tells}
use Rattle.omega_hoa_diagnostics.proofs.automaton_causes.fault_of.Goals as goal

pub returns-clause-fault : goal.returns-clause-fault
returns-clause-fault c =
    subst (λ told. IfOk told (IsFaultOf c.args.text.now)) (sym c.fault_in.ensures)
    (refusal_tells c.args.text.now c.in-Err.refusal c.automata_fill_segments.ensures c.automata_are_unrefused.ensures
    c.refusals_are_one.ensures c.meanings_are_there.ensures c.in-Err.ensures.refused)
