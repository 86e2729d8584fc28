-- `write_acceptance`: its parts are the line.
use Rattle.std.proofs.Common.{◌++◌, ap, codes, decimal, ◌∙◌}
use Rattle.omega_hoa_acceptance.specs.Writing.{acc_text}
use Rattle.omega_canon.specs.Parts.{spaced}
use Rattle.omega_canon.proofs.Lines.{following}
use Rattle.omega_canon.proofs.header.write_acceptance.Goals as goal

pub returns-clause-ok : goal.returns-clause-ok
returns-clause-ok c =
    following c.args.out.now.items (codes "Acceptance: ") _ c.in_ok-extend_from_slice.ensures.items
    (following c.extend_from_slice.new.self.items (decimal c.args.automaton.now.sets) _
    (c.in_ok-write_number.ensures.ok ∙ ap (λ count. c.extend_from_slice.new.self.items ++ decimal count) (c.from.ensures ∙ c.set_count.ensures))
    (following c.write_number.new.out.items (spaced (acc_text c.args.automaton.now.acceptance).bytes) (codes "\n")
    (c.in_ok-write_formula.ensures.ok ∙ ap (λ formula. c.write_number.new.out.items ++ spaced (acc_text formula).bytes) c.acceptance.ensures)
    c.in_ok-push.ensures.items))
