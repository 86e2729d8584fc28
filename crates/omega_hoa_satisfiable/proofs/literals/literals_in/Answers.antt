-- What was read of all nodes of a label are its literals.
use Rattle.std.proofs.Common.{refl, sym, ◌∙◌}
use Rattle.omega_hoa_satisfiable.proofs.LiteralBits.{literals-read}
use Rattle.omega_hoa_satisfiable.proofs.literals.literals_in.Goals as goal

pub returns : goal.returns
returns c =
    λ tree are.
    literals-read tree c.args.nodes.now c.in_ok-read.read _ are (sym c.read_literals.ensures ∙ c.in_ok-read.was) refl refl
