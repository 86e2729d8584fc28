-- `write_start`: the point and the arrows before this one are drawn.
use Rattle.std.proofs.Common.{◌≡◌, ◌++◌, take}
use Rattle.std.specs.List.{flat_map}
use Rattle.omega_hoa_dot.specs.AutomatonDrawing.{start_arrow, start_point}
use Rattle.omega_hoa_dot.proofs.states.write_start.Given as goal

abbrev pub invariant-loop-state : goal.invariant-loop-state
invariant-loop-state l =
    l.out.items ≡ l.fn.out.items ++ (start_point l.number l.states ++ flat_map (start_arrow l.number) (take l.state-index l.states))
