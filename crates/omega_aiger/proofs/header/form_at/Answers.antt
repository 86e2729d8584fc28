-- The word of the form.
use Rattle.std.proofs.Common.{◌+◌, ◌∙◌}
use Rattle.std.specs.Prelude.{codes}
use Rattle.std.proofs.lemmas.Result.{err_from_is_err_and}
use Rattle.omega_aiger.specs.Forms.{ascii_body, binary_body, counts_then, form_layout}
use Rattle.omega_aiger.specs.Layout.{Layout, byte, either}
use Rattle.omega_aiger.specs.Lines.{bytes_then}
use Rattle.omega_aiger.proofs.Steps.{stops_after}
use Rattle.omega_aiger.proofs.header.form_at.Goals as goal

-- what follows the first letter
abbrev after_a : Layout
after_a = either 105 (byte 103 (counts_then binary_body)) (bytes_then (codes "ag") (counts_then ascii_body))

pub returns-in_err-second-clause-stops : goal.returns-in_err-second-clause-stops
unfolding form_layout
returns-in_err-second-clause-stops c =
    let p = err_from_is_err_and c.from_residual.result c.from_residual.ensures.1 in rw (p.1, p.2) (c.in_err-second.ensures.stops after_a)

pub returns-in_err-end-clause-stops : goal.returns-in_err-end-clause-stops
unfolding form_layout
returns-in_err-end-clause-stops c =
    let p = err_from_is_err_and c.from_residual-in_err-end.result c.from_residual-in_err-end.ensures.1 in rw (p.1, p.2) (stops_after c.args.text.now c.args.at (c.in_ok-second.second + 1) (byte 97 after_a) (byte 103 (counts_then binary_body)) (c.in_ok-second.ensures.read after_a ∙ c.next_is.ensures.first c.if-next_is.true (byte 103 (counts_then binary_body)) (bytes_then (codes "ag") (counts_then ascii_body))) c.in_err-end.field-0.0 (c.in_err-end.ensures.stops (counts_then binary_body)))

pub returns-then-next_is-clause-read : goal.returns-then-next_is-clause-read
unfolding form_layout
returns-then-next_is-clause-read c =
    c.in_ok-second.ensures.read after_a ∙ c.next_is.ensures.first c.if-next_is.true (byte 103 (counts_then binary_body)) (bytes_then (codes "ag") (counts_then ascii_body)) ∙ c.in_ok-end.ensures.read (counts_then binary_body)

pub returns-in_err-end-2-clause-stops : goal.returns-in_err-end-2-clause-stops
unfolding form_layout
returns-in_err-end-2-clause-stops c =
    let p = err_from_is_err_and c.from_residual-in_err-end-2.result c.from_residual-in_err-end-2.ensures.1 in rw (p.1, p.2) (stops_after c.args.text.now c.args.at c.in_ok-second.second (byte 97 after_a) (bytes_then (codes "ag") (counts_then ascii_body)) (c.in_ok-second.ensures.read after_a ∙ c.next_is.ensures.other c.if-next_is.false (byte 103 (counts_then binary_body)) (bytes_then (codes "ag") (counts_then ascii_body))) c.in_err-end-2.field-0.0 (c.in_err-end-2.ensures.stops (counts_then ascii_body)))

pub returns-clause-read : goal.returns-clause-read
unfolding form_layout
returns-clause-read c =
    c.in_ok-second.ensures.read after_a ∙ c.next_is.ensures.other c.if-next_is.false (byte 103 (counts_then binary_body)) (bytes_then (codes "ag") (counts_then ascii_body)) ∙ c.in_ok-end-2.ensures.read (counts_then ascii_body)
