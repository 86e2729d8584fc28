-- its parts are the line
use Rattle.std.proofs.Common.{codes, decimal}
use Rattle.omega_canon.proofs.Lines.{following}
use Rattle.omega_synth_text.proofs.header.write_acceptance.Goals as goal

pub returns-clause-text : goal.returns-clause-text
returns-clause-text c =
    following c.args.out.now.items (codes "Acceptance: ") _ c.in_ok-extend_from_slice.ensures.items
    (following c.extend_from_slice.new.self.items (decimal 0) (codes " t\n") c.in_ok-write_number.ensures.ok c.in_ok-extend_from_slice-2.ensures.items)
