-- `write_branch`: its parts are the text of a branch.
use Rattle.std.proofs.Common.{List, ℕ, ◌++◌, ap, codes, ◌∙◌}
use Rattle.std.specs.List.{flat_map}
use Rattle.omega_hoa_dot.specs.Arrows.{Drawn, attributes_part, branch_arrow, branch_name, branch_point, tail_part}
use Rattle.omega_hoa_dot.specs.declared.role.Role.{Role}
use Rattle.omega_hoa_dot.specs.private.layout.Drawing.{drawn_at}
use Rattle.omega_hoa_dot.proofs.Lines.{following}
use Rattle.omega_hoa_dot.proofs.branches.write_branch.Goals as goal

pub returns-clause-ok : goal.returns-clause-ok
returns-clause-ok c =
    let drawn : Drawn = drawn_at c.args.edges.now c.args.index c.args.edge.now in
    following c.args.out.now.items (tail_part c.args.edges.now.state.now.number) _ c.in_ok-write_tail.ensures.ok
    (following c.write_tail.new.out.items (branch_name drawn.number) _
    (c.in_ok-write_branch_name.ensures.ok ∙ ap (λ (n : ℕ). c.write_tail.new.out.items ++ branch_name n) c.number-number.ensures)
    (following c.write_branch_name.new.out.items (attributes_part drawn.role drawn.lines) _ c.in_ok-write_attributes.ensures.ok
    (following c.write_attributes.new.out.items (codes ", arrowhead=none];\n") _ c.in_ok-extend_from_slice.ensures.items
    (following c.extend_from_slice.new.self.items (branch_point drawn.number) (flat_map (branch_arrow drawn.number drawn.role) drawn.targets)
    (c.in_ok-write_branch_point.ensures.ok ∙ ap (λ (n : ℕ). c.extend_from_slice.new.self.items ++ branch_point n) c.number-number.ensures)
    (c.in_ok-write_branch_arrows.ensures.ok
    ∙ ap (λ (n : ℕ). c.write_branch_point.new.out.items ++ flat_map (branch_arrow n c.role-role.result) c.targets.result.now) c.number-number.ensures
    ∙ ap (λ (r : Role). c.write_branch_point.new.out.items ++ flat_map (branch_arrow drawn.number r) c.targets.result.now) c.role-role.ensures
    ∙ ap (λ (list : List ℕ). c.write_branch_point.new.out.items ++ flat_map (branch_arrow drawn.number drawn.role) list) c.targets.ensures)))))
