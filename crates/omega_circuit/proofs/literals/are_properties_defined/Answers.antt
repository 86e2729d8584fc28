-- The literals of each kind of properties, in turn.
use Rattle.std.proofs.Common.{ℕ, ◌/◌, List, All, subst, sym, ◌∙◌}
use Rattle.std.specs.List.{Contains}
use Rattle.std.proofs.lemmas.Bool.{false≢true}
use Rattle.omega_circuit.proofs.literals.are_properties_defined.Goals as goal

pub returns-then-not-are_defined : goal.returns-then-not-are_defined
returns-then-not-are_defined c = (
  λ is. absurd (false≢true is),
  λ all. sym c.if-not-are_defined.true ∙ c.are_defined.ensures.1 (subst (λ (xs : List ℕ). All (λ literal. Contains c.args.variables.now.keys (literal / 2)) xs) (sym c.as_slice.ensures) all.bad),
)

pub returns-then-not-are_defined-2 : goal.returns-then-not-are_defined-2
returns-then-not-are_defined-2 c = (
  λ is. absurd (false≢true is),
  λ all. sym c.if-not-are_defined-2.true ∙ c.are_defined-2.ensures.1 (subst (λ (xs : List ℕ). All (λ literal. Contains c.args.variables.now.keys (literal / 2)) xs) (sym c.as_slice-2.ensures) all.constraints),
)

pub returns-then-not-are_defined-3 : goal.returns-then-not-are_defined-3
returns-then-not-are_defined-3 c = (
  λ is. absurd (false≢true is),
  λ all. sym c.if-not-are_defined-3.true ∙ c.are_defined-3.ensures.1 (subst (λ (xs : List ℕ). All (λ literal. Contains c.args.variables.now.keys (literal / 2)) xs) (sym c.as_slice-3.ensures) all.justice),
)

pub returns : goal.returns
returns c = (
  λ is. record {
    bad = subst (λ (xs : List ℕ). All (λ literal. Contains c.args.variables.now.keys (literal / 2)) xs) c.as_slice.ensures (c.are_defined.ensures.0 c.if-not-are_defined.false);
    constraints = subst (λ (xs : List ℕ). All (λ literal. Contains c.args.variables.now.keys (literal / 2)) xs) c.as_slice-2.ensures (c.are_defined-2.ensures.0 c.if-not-are_defined-2.false);
    justice = subst (λ (xs : List ℕ). All (λ literal. Contains c.args.variables.now.keys (literal / 2)) xs) c.as_slice-3.ensures (c.are_defined-3.ensures.0 c.if-not-are_defined-3.false);
    fairness = subst (λ (xs : List ℕ). All (λ literal. Contains c.args.variables.now.keys (literal / 2)) xs) c.as_slice-4.ensures (c.are_defined-4.ensures.0 is);
  },
  λ all. c.are_defined-4.ensures.1 (subst (λ (xs : List ℕ). All (λ literal. Contains c.args.variables.now.keys (literal / 2)) xs) (sym c.as_slice-4.ensures) all.fairness),
)
