-- `write_starts`: the initial choices before this one are drawn.
use Rattle.std.proofs.Common.{◌≡◌, ◌++◌, take}
use Rattle.omega_hoa_dot.specs.AutomatonDrawing.{start_text}
use Rattle.omega_text.specs.Numbered.{numbered}
use Rattle.omega_hoa_dot.proofs.states.write_starts.Given as goal

abbrev pub invariant-loop-number : goal.invariant-loop-number
invariant-loop-number l = l.out.items ≡ l.fn.out.items ++ numbered start_text 0 (take l.number l.automaton.starts)
