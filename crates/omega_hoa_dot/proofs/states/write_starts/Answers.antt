-- `write_starts`: an initial choice more.
use Rattle.std.proofs.Common.{◌≡◌, ◌<◌, ◌++◌, length, get_or, ap, ◌∙◌, arith}
use Rattle.omega_hoa_dot.specs.AutomatonDrawing.{start_text}
use Rattle.omega_text.proofs.Rows.{first_row_more}
use Rattle.omega_hoa_dot.proofs.states.write_starts.Goals as goal

pub loop-number-preserved : goal.loop-number-preserved
loop-number-preserved c =
    let here : c.states-item.result ≡ get_or c.args.automaton.now.starts c.loop-number.number c.states-item.result = cc in
    let below : c.loop-number.number < length c.args.automaton.now.starts = omega (arith, ap length c.starts-states-items.ensures) in
    first_row_more start_text c.args.automaton.now.starts c.loop-number.number c.states-item.result c.args.out.now.items _ _ below c.loop-number.invariant
    (c.in_ok-write_start.ensures.ok ∙ ap (λ states. c.loop-number.out.items ++ start_text c.loop-number.number states) (c.as_slice.ensures ∙ here))
