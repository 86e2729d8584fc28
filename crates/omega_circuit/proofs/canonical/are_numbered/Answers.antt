-- One literal more is in its place, or all are.
use Rattle.std.proofs.Common.{refl, sym, ◌∙◌}
use Rattle.std.proofs.lemmas.Bool.{false≢true}
use Rattle.std.proofs.lemmas.List.{get_or_default}
use Rattle.omega_circuit.proofs.Reordering.{literal_in_place, literals_all, literals_more}
use Rattle.omega_circuit.proofs.canonical.are_numbered.Goals as goal

pub returns-then-not-is_literal_of : goal.returns-then-not-is_literal_of
returns-then-not-is_literal_of c = (
  λ is. absurd (false≢true is),
  λ are. absurd (false≢true (sym c.if-not-is_literal_of.true ∙ c.is_literal_of.ensures.1
      (get_or_default c.args.literals.now c.loop-variable.variable _ 0 c.loop-variable-test.true ∙ literal_in_place c.args.literals.now c.loop-variable.variable c.loop-variable-test.true are))),
)

pub loop-variable-preserved : goal.loop-variable-preserved
loop-variable-preserved c =
    literals_more c.args.literals.now c.loop-variable.variable c.loop-variable-test.true c.loop-variable.invariant
    (get_or_default c.args.literals.now c.loop-variable.variable 0 _ c.loop-variable-test.true ∙ c.is_literal_of.ensures.0 c.if-not-is_literal_of.false)

pub returns : goal.returns
returns c = (
  λ _. literals_all c.args.literals.now c.loop-variable.variable c.loop-variable-test.false c.loop-variable.auto.variable-end c.loop-variable.invariant,
  λ _. refl,
)
