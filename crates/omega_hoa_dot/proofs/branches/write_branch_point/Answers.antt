-- `write_branch_point`: its parts are the line.
use Rattle.std.proofs.Common.{codes}
use Rattle.omega_hoa_dot.specs.Arrows.{branch_name}
use Rattle.omega_hoa_dot.proofs.Lines.{following}
use Rattle.omega_hoa_dot.proofs.branches.write_branch_point.Goals as goal

pub returns-clause-ok : goal.returns-clause-ok
returns-clause-ok c =
    following c.args.out.now.items (codes "  ") _ c.in_ok-extend_from_slice.ensures.items
    (following c.extend_from_slice.new.self.items (branch_name c.args.number) (codes " [shape=point];\n") c.in_ok-write_branch_name.ensures.ok
    c.in_ok-extend_from_slice-2.ensures.items)
