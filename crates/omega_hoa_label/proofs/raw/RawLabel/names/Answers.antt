-- They are those of the tree.
use Rattle.std.proofs.Common.{◌∙◌}
use Rattle.omega_hoa_label.proofs.RawLemmas.{AreOf-seen}
use Rattle.omega_hoa_label.proofs.raw.RawLabel.names.Goals as goal

pub returns : goal.returns
returns c = c.names.ensures ∙ (AreOf-seen _ _ _ _ c.self.invariant c.self.view_is).named
