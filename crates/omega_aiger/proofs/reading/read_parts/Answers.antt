-- The line, the form and the header.
use Rattle.std.proofs.Common.{◌∙◌}
use Rattle.std.proofs.lemmas.Result.{err_from_is_err_and}
use Rattle.omega_aiger.specs.Forms.{circuit_layout, counts_then}
use Rattle.omega_aiger.specs.private.Headers.{body_of}
use Rattle.omega_aiger.proofs.Steps.{fails_after, stops_fails}
use Rattle.omega_aiger.proofs.reading.read_parts.Goals as goal

pub returns-in_err-header-clause-fails : goal.returns-in_err-header-clause-fails
returns-in_err-header-clause-fails c =
    let p = err_from_is_err_and c.from_residual-in_err-header.result c.from_residual-in_err-header.ensures.1 in rw (p.1, p.2) (fails_after c.args.text.now 0 c.in_ok-form.at circuit_layout (counts_then (body_of c.in_ok-form.form)) (c.in_ok-start.ensures.read ∙ c.in_ok-form.ensures.read) c.in_err-header.field-0.0 (stops_fails c.args.text.now c.in_ok-form.at (counts_then (body_of c.in_ok-form.form)) c.in_err-header.field-0.0 (c.in_err-header.ensures.stops (body_of c.in_ok-form.form))))
