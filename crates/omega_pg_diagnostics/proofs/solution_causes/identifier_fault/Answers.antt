-- `identifier_fault`: the node at the line's place is missing.
use Rattle.std.proofs.Common.{◌≤◌, ◌∙◌, sym, arith}
use Rattle.std.proofs.lemmas.Result.{IfOk-weaker}
use Rattle.omega_pg_diagnostics.proofs.solutions.Faults.{missing_is_fault}
use Rattle.omega_pg_diagnostics.proofs.solution_causes.identifier_fault.Goals as goal

pub returns-in-Some-2-clause-fault : goal.returns-in-Some-2-clause-fault
returns-in-Some-2-clause-fault c =
    let behind : c.args.place ≤ c.in-Some.other = omega (arith, c.if-other-place.false) in
    IfOk-weaker c.first_missing.result _ _
    (λ fault said. said ∙ missing_is_fault c.args.game.now c.args.place c.args.id c.in-Some.other behind (sym c.place_of.ensures ∙ c.in-Some.is))
    c.first_missing.ensures.first
