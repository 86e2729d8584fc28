-- The sets of the nodes are those of the tree.
use Rattle.std.proofs.Common.{ap, ◌∙◌}
use Rattle.std.specs.List.{list_all}
use Rattle.omega_hoa_acceptance.specs.private.layout.Plain.{set_below}
use Rattle.omega_hoa_acceptance.proofs.BelowLemmas.{sets-postfix}
use Rattle.omega_hoa_acceptance.proofs.raw.RawAcc.sets_below.Goals as goal

pub returns : goal.returns
returns c = c.all_sets_below.ensures ∙ (ap (list_all (set_below c.args.count)) c.nodes.ensures ∙ sets-postfix c.args.count c.args.self.now)
