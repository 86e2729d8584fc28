-- `wrong_entry`: arrays without a wrong entry encode a game.
use Rattle.std.proofs.Common.{sym, ◌∙◌}
use Rattle.omega_arrays.proofs.Shapes.{shape_of}
use Rattle.omega_arrays.proofs.arrays.Arrays.wrong_entry.Goals as goal

pub returns-clause-shape : goal.returns-clause-shape
returns-clause-shape c = λ none. shape_of c.args.self.now (sym c.first_wrong.ensures ∙ none)
