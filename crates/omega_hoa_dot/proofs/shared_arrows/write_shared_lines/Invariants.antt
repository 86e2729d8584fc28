-- `write_shared_lines`: what is written, and what is yet to be written from the next edge on, is the whole.
use Rattle.std.proofs.Common.{◌≡◌, ◌++◌, ◌-◌, ℕ, length}
use Rattle.std.specs.Option.{option_map_or}
use Rattle.omega_hoa_dot.specs.Arrows.{Drawn, shared_lines, shared_target}
use Rattle.omega_hoa_dot.specs.private.layout.Drawing.{drawn_all}
use Rattle.omega_hoa_dot.proofs.Shared.{IsThere, rest_from}
use Rattle.omega_hoa_dot.proofs.shared_arrows.write_shared_lines.Given as goal

abbrev pub invariant-loop-at : goal.invariant-loop-at
invariant-loop-at l = record {
  there : IsThere (λ (edge : Drawn). shared_target edge.role edge.targets) (λ (edge : Drawn). edge.lines) l._target (drawn_all l.edges) l.at;
  whole : l.out.items ++ rest_from (λ (edge : Drawn). shared_target edge.role edge.targets) (λ (edge : Drawn). edge.lines) l._target (drawn_all l.edges) l.at
      ≡ l.fn.out.items ++ shared_lines l._target (drawn_all l.edges);
}

abbrev pub decreases-loop-at : goal.decreases-loop-at
decreases-loop-at l = option_map_or (λ (k : ℕ). length (drawn_all l.edges) - k) l.at 0
