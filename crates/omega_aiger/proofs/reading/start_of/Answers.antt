-- The line before the header.
use Rattle.std.proofs.Common.{◌∙◌}
use Rattle.std.specs.Prelude.{codes}
use Rattle.omega_aiger.specs.Forms.{circuit_layout, form_layout}
use Rattle.omega_aiger.specs.Lines.{bytes_then}
use Rattle.omega_aiger.proofs.Steps.{err_says, ok_says, stops_after}
use Rattle.omega_aiger.proofs.reading.start_of.Goals as goal

pub returns-then-next_is-clause-read : goal.returns-then-next_is-clause-read
unfolding circuit_layout
returns-then-next_is-clause-read c =
    ok_says c.end_of_bytes.result _ _ (λ end says. c.next_is.ensures.first c.if-next_is.true (bytes_then (codes "EALIZABLE\n") form_layout) form_layout ∙ says form_layout) c.end_of_bytes.ensures.read

pub returns-then-next_is-clause-stops : goal.returns-then-next_is-clause-stops
unfolding circuit_layout
returns-then-next_is-clause-stops c =
    err_says c.end_of_bytes.result _ _ (λ refusal says. stops_after c.args.text.now 0 1 circuit_layout (bytes_then (codes "EALIZABLE\n") form_layout) (c.next_is.ensures.first c.if-next_is.true (bytes_then (codes "EALIZABLE\n") form_layout) form_layout) refusal (says form_layout)) c.end_of_bytes.ensures.stops

pub returns-clause-read : goal.returns-clause-read
unfolding circuit_layout
returns-clause-read c =
    c.next_is.ensures.other c.if-next_is.false (bytes_then (codes "EALIZABLE\n") form_layout) form_layout
