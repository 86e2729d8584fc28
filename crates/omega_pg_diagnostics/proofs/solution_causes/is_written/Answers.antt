-- `is_written`: the refusal tells whether the text is in the grammar.
use Rattle.std.proofs.Common.{IfOk, sym, subst}
use Rattle.std.specs.Prelude.{◌↔◌, IsTrue}
use Rattle.omega_pg_diagnostics.specs.SolutionCauses.{WritesSolution}
use Rattle.omega_pg_diagnostics.proofs.solutions.Texts.{refusal_tells}
use Rattle.omega_pg_diagnostics.proofs.solution_causes.is_written.Goals as goal

pub returns-clause-written : goal.returns-clause-written
returns-clause-written c =
    subst (λ told. IfOk told (λ written. IsTrue written ↔ WritesSolution c.args.text.now)) (sym c.is_in_grammar.ensures)
    (refusal_tells c.args.game.now c.args.text.now c.in-Err.refusal c.texts_have_no_fault.ensures c.in-Err.ensures.refused)
