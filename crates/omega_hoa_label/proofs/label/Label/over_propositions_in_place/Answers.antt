-- The nodes are those of the label over the other propositions, which is as deep.
use Rattle.std.proofs.Common.{ap, arith, refl, sym, ◌∙◌}
use Rattle.omega_hoa_label.specs.Label.{label_depth}
use Rattle.omega_hoa_label.specs.Postfix.{postfix}
use Rattle.omega_hoa_label.specs.Renumbering.{relabelled}
use Rattle.omega_hoa_label.proofs.MovingLemmas.{depth-moved, moved-flat}
use Rattle.omega_hoa_label.proofs.ShapeLemmas.{IsLabel-of, label_tree-is}
use Rattle.omega_hoa_label.proofs.label.Label.over_propositions_in_place.Goals as goal

pub of_written-requires : goal.of_written-requires
of_written-requires c =
    IsLabel-of (relabelled c.args.places.now c.args.self.now) _
    (moved-flat c.args.places.now c.args.self.now _ _ _ (sym c.self.invariant.flat ∙ ap postfix c.self.view_is) c.in_ok-written.ensures refl)
    (omega (arith, depth-moved c.args.places.now c.args.self.now, ap label_depth c.self.view_is, c.self.invariant.shallow))

pub returns : goal.returns
returns c =
    c.of_written.ensures ∙ label_tree-is (relabelled c.args.places.now c.args.self.now) _
    (moved-flat c.args.places.now c.args.self.now _ _ _ (sym c.self.invariant.flat ∙ ap postfix c.self.view_is) c.in_ok-written.ensures refl)
