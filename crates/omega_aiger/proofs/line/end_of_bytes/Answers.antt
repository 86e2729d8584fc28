-- One byte more is not there.
use Rattle.std.proofs.Common.{◌+◌, ℕ, List, drop, sym, subst}
use Rattle.std.proofs.lemmas.Result.{err_from_is_err_and}
use Rattle.omega_aiger.specs.Lines.{bytes_then}
use Rattle.omega_aiger.specs.private.Outcome.{Stops}
use Rattle.omega_aiger.proofs.Steps.{stops_after}
use Rattle.std.proofs.lemmas.List.{drop_more}
use Rattle.omega_aiger.proofs.line.end_of_bytes.Goals as goal

pub returns-in_err-end-clause-stops : goal.returns-in_err-end-clause-stops
returns-in_err-end-clause-stops c =
    let rest : List ℕ = drop (c.loop-byte.byte-index + 1) c.args.wanted.now in
    let p = err_from_is_err_and c.from_residual.result c.from_residual.ensures.1 in rw (p.1, p.2) (λ more. stops_after c.args.text.now c.args.at c.loop-byte.end (bytes_then c.args.wanted.now more) (bytes_then (drop c.loop-byte.byte-index c.args.wanted.now) more) (c.loop-byte.invariant.read more) c.in_err-end.field-0.0
    (subst (λ (bytes : List ℕ). Stops c.args.text.now c.loop-byte.end (bytes_then bytes more) c.in_err-end.field-0.0) (sym (drop_more c.args.wanted.now c.loop-byte.byte-index 0 c.loop-byte-test.true)) (c.in_err-end.ensures.stops (bytes_then rest more))))
