-- A label's nodes are those of its tree, which is not too deep.
use Rattle.std.proofs.Common.{ap, sym, ◌∙◌, arith}
use Rattle.omega_hoa_label.specs.Label.{label_depth}
use Rattle.omega_hoa_label.specs.Postfix.{postfix}
use Rattle.omega_hoa_label.proofs.label.Label.nodes.Goals as goal

pub returns-clause-nodes : goal.returns-clause-nodes
returns-clause-nodes c = c.nodes.ensures ∙ (sym c.self.invariant.flat ∙ ap postfix c.self.view_is)

pub returns-clause-shallow : goal.returns-clause-shallow
returns-clause-shallow c = omega (arith, ap label_depth c.self.view_is, c.self.invariant.shallow)
