-- A formula's nodes are those of its tree.
use Rattle.std.proofs.Common.{◌∙◌}
use Rattle.omega_hoa_acceptance.proofs.AccLemmas.{acc_nodes-seen}
use Rattle.omega_hoa_acceptance.proofs.formula.Acc.nodes.Goals as goal

pub returns : goal.returns
returns c = c.as_slice.ensures ∙ acc_nodes-seen _ _ _ c.self.invariant c.self.view_is
