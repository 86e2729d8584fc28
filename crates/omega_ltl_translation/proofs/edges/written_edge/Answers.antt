-- the label, the target and the marks
use Rattle.std.proofs.Common.{◌↔◌, ◌≤◌, ◌*◌, length, ℕ, Bool, List, Some, ap, sym, subst}
use Rattle.std.specs.Prelude.{IsTrue, Option}
use Rattle.omega_hoa_automaton.specs.Meaning.{written_marks}
use Rattle.omega_hoa_label.specs.Label.{label_size, truth}
use Rattle.omega_ltl_shapes.specs.declared.cube.Cube.{Cube}
use Rattle.omega_ltl_translation.specs.private.Labels.{AreFew, SomeIsTrue}
use Rattle.omega_ltl_translation.specs.private.Written.{AreMarksOf}
use Rattle.omega_ltl_translation.proofs.edges.written_edge.Goals as goal

pub returns-clause-edge : goal.returns-clause-edge
returns-clause-edge c = record {
  label = c.in_ok-label.ensures.label.tree;
  label_is = ap Some c.in_ok-label.ensures.label.is;
  exact = subst (λ (cubes : List Cube). (letter : ℕ → Bool) → IsTrue (truth letter c.in_ok-label.ensures.label.tree) ↔ SomeIsTrue cubes letter) c.as_slice.ensures.value c.in_ok-label.ensures.label.exact;
  small = subst (λ (cubes : List Cube). label_size c.in_ok-label.ensures.label.tree ≤ length cubes * 193) c.as_slice.ensures.value c.in_ok-label.ensures.label.small;
  targets = c.one.ensures;
  marks = subst (λ (m : Option (List ℕ)). AreMarksOf c.args.sets c.args.edge.now.late (written_marks m)) (sym c.of.ensures) c.in_ok-marks.ensures.marks;
}

pub label_of-requires : goal.label_of-requires
label_of-requires c = subst AreFew (sym c.as_slice.ensures.value) c.requires
