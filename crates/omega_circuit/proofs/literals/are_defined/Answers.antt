-- One literal more is defined, or all are.
use Rattle.std.proofs.Common.{ℕ, ◌/◌, List, All, refl, subst}
use Rattle.std.specs.List.{Contains}
use Rattle.std.proofs.lemmas.List.{take_all}
use Rattle.std.proofs.lemmas.List.Elements.{All-more}
use Rattle.omega_circuit.proofs.literals.are_defined.Goals as goal

pub loop-literal-preserved : goal.loop-literal-preserved
loop-literal-preserved c =
    All-more (λ literal. Contains c.args.variables.now.keys (literal / 2)) c.args.literals.now c.loop-literal.literal-index 0 c.loop-literal-test.true c.loop-literal.invariant
    (c.is_defined.ensures.0 c.if-not-is_defined.false)

pub returns : goal.returns
returns c = (
  λ _. subst (λ (xs : List ℕ). All (λ literal. Contains c.args.variables.now.keys (literal / 2)) xs) (take_all c.loop-literal.literal-index c.args.literals.now c.loop-literal-test.false) c.loop-literal.invariant,
  λ _. refl,
)
