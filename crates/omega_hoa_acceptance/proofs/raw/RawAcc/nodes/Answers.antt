-- They are those of the tree.
use Rattle.std.proofs.Common.{◌∙◌}
use Rattle.omega_hoa_acceptance.proofs.RawLemmas.{AreOfAcc-seen}
use Rattle.omega_hoa_acceptance.proofs.raw.RawAcc.nodes.Goals as goal

pub returns : goal.returns
returns c = c.as_slice.ensures ∙ (AreOfAcc-seen _ _ _ _ c.self.invariant c.self.view_is).flat
