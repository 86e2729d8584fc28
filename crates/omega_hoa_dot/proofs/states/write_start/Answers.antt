-- `write_start`: an arrow more is drawn.
use Rattle.std.proofs.Common.{List, ℕ, ◌+◌, ◌++◌, take, sym, ◌∙◌, append_assoc, arith}
use Rattle.std.specs.List.{flat_map}
use Rattle.omega_hoa_dot.specs.AutomatonDrawing.{start_arrow, start_point}
use Rattle.omega_text.proofs.Rows.{text_more}
use Rattle.omega_hoa_dot.proofs.states.write_start.Goals as goal

pub loop-state-preserved : goal.loop-state-preserved
loop-state-preserved c =
    let point : List ℕ = start_point c.args.number c.args.states.now in
    let arrows : ℕ → List ℕ = λ count. flat_map (start_arrow c.args.number) (take count c.args.states.now) in
    text_more (start_arrow c.args.number) c.args.states.now c.loop-state.state-index 0 (c.args.out.now.items ++ point) c.loop-state.out.items _
    (omega arith) (c.loop-state.invariant ∙ sym (append_assoc c.args.out.now.items point (arrows c.loop-state.state-index))) c.in_ok-write_start_arrow.ensures.ok
    ∙ append_assoc c.args.out.now.items point (arrows (c.loop-state.state-index + 1))
