-- `write_front`: its parts are the front.
use Rattle.std.proofs.Common.{◌++◌, ap, codes, ◌∙◌}
use Rattle.omega_hoa_acceptance.specs.Writing.{acc_text}
use Rattle.omega_text.specs.Labels.{name_label_line}
use Rattle.omega_hoa_dot.proofs.Lines.{following}
use Rattle.omega_hoa_dot.proofs.states.write_front.Goals as goal

pub returns-clause-ok : goal.returns-clause-ok
returns-clause-ok c =
    following c.args.out.now.items (codes "digraph automaton {\n  rankdir=LR;\n  labelloc=t;\n  label=\"") _ c.in_ok-extend_from_slice.ensures.items
    (following c.extend_from_slice.new.self.items (name_label_line c.args.automaton.now.name) _
    (c.in_ok-write_name_line.ensures.ok ∙ ap (λ name. c.extend_from_slice.new.self.items ++ name_label_line name) c.name.ensures)
    (following c.write_name_line.new.out.items (acc_text c.args.automaton.now.acceptance).bytes (codes "\\n\";\n")
    (c.in_ok-write_acc.ensures.ok ∙ ap (λ formula. c.write_name_line.new.out.items ++ (acc_text formula).bytes) c.acceptance.ensures)
    c.in_ok-extend_from_slice-2.ensures.items))
