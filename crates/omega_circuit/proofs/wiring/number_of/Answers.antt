-- The place of the variable is its number.
use Rattle.std.proofs.Common.{◌+◌, ◌*◌, ◌%◌, sym}
use Rattle.omega_circuit.proofs.Numbering.{numbered_at, numbered_there}
use Rattle.omega_circuit.proofs.wiring.number_of.Goals as goal

pub returns-clause-some : goal.returns-clause-some
returns-clause-some c = numbered_at c.args.variables.now.keys c.args.literal c.in_ok-position.position (sym c.in_ok-position.ensures.index)

pub returns-clause-there : goal.returns-clause-there
returns-clause-there c =
    numbered_there c.args.variables.now.keys c.args.literal (2 * c.in_ok-position.position + c.args.literal % 2)
    (numbered_at c.args.variables.now.keys c.args.literal c.in_ok-position.position (sym c.in_ok-position.ensures.index))
