-- what covers the goal stays; else the goal is put beside, or the demand waits
use Rattle.std.proofs.Common.{ℕ, List, true, refl, sym, subst, ◌∙◌, ◌+◌}
use Rattle.std.specs.Prelude.{IsTrue}
use Rattle.std.proofs.lemmas.Result.{on_ok_weaker}
use Rattle.omega_ltl_shapes.specs.Graphs.{IsSetOf}
use Rattle.omega_ltl_shapes.specs.Shapes.{is_strong}
use Rattle.omega_ltl_shapes.specs.declared.shape.Shape.{Shape}
use Rattle.omega_ltl_terms.proofs.CoveringLemmas.{combination_there}
use Rattle.omega_ltl_terms.proofs.MeetingLemmas.{meets_goal, met_itself}
use Rattle.omega_ltl_terms.proofs.meeting.push_strong.Goals as goal

pub returns-then-value_of-clause-ok : goal.returns-then-value_of-clause-ok
returns-then-value_of-clause-ok c = on_ok_weaker c.push_minimal.result
    (λ added. met_itself c.args.tables.now.shapes c.requires.tables.terms.grounded c.args.tables.now.strongs c.args.d c.args.edge.now c.in_ok-same.same c.args.kept.now.items
    c.push_minimal.new.kept.items c.in_ok-same.ensures
    (meets_goal c.args.tables.now.shapes c.requires.tables.terms.grounded c.args.tables.now.strongs c.args.d c.args.goal c.args.keep true c.requires.strong c.args.edge.now
    (combination_there c.args.tables.now.shapes c.args.edge.now.cube c.args.edge.now.next (c.args.d + 1) c.args.covered.now c.args.goal c.requires.covered
    (sym c.value_of.ensures ∙ c.if-value_of.true)))
    added)
    c.push_minimal.ensures.ok

pub returns-in-None-clause-refused : goal.returns-in-None-clause-refused
returns-in-None-clause-refused c = (
  refl,
  record {
    strong = subst (λ (s : Shape). IsTrue (is_strong s)) (sym c.requires.strong) refl;
    none = λ set of. c.in-None.ensures.none set (subst (λ (strongs : List ℕ). IsSetOf strongs set c.args.d) (sym c.as_slice.ensures) of);
  },
)
