-- `write_branch_arrows`: the arrows before this one are drawn.
use Rattle.std.proofs.Common.{◌≡◌, ◌++◌, take}
use Rattle.std.specs.List.{flat_map}
use Rattle.omega_hoa_dot.specs.Arrows.{branch_arrow}
use Rattle.omega_hoa_dot.proofs.branches.write_branch_arrows.Given as goal

abbrev pub invariant-loop-target : goal.invariant-loop-target
invariant-loop-target l = l.out.items ≡ l.fn.out.items ++ flat_map (branch_arrow l.number l.role) (take l.target-index l.targets)
