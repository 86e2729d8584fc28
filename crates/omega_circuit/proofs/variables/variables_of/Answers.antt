-- One literal more is even and has a variable that is new, or the literals are refused.
use Rattle.std.proofs.Common.{◌≡◌, ◌/◌, ◌%◌, ℕ, true, List, [], ◌∷◌, ◌++◌, get_or, sym, ap, ◌∙◌, subst}
use Rattle.std.specs.List.{Contains}
use Rattle.std.proofs.lemmas.List.{map_more}
use Rattle.std.proofs.lemmas.List.Elements.{All-more}
use Rattle.omega_circuit.specs.Circuit.{is_even, variable_of}
use Rattle.omega_circuit.proofs.Members.{added, there_already, twice_refutes}
use Rattle.omega_circuit.proofs.Places.{same_number}
use Rattle.omega_circuit.proofs.variables.variables_of.Goals as goal

pub returns-then-not-branch-clause-none : goal.returns-then-not-branch-clause-none
returns-then-not-branch-clause-none c =
    let literal : ℕ = get_or c.args.literals.now c.loop-literal.literal-index 0 in
    let before : Contains c.loop-literal.variables.keys (literal / 2) =
    there_already c.loop-literal.variables.keys (literal / 2) (sym c.in_ok-insert.ensures.added ∙ c.if-not-branch.true) in
    twice_refutes c.args.literals.now c.loop-literal.literal-index c.loop-literal-test.true
    (subst (λ (keys : List ℕ). Contains keys (literal / 2)) c.loop-literal.invariant.keys before)

pub loop-literal-preserved : goal.loop-literal-preserved
loop-literal-preserved c =
    let literal : ℕ = get_or c.args.literals.now c.loop-literal.literal-index 0 in
    record {
      keys = c.in_ok-insert.ensures.keys
          ∙ added c.loop-literal.variables.keys (literal / 2) (sym c.in_ok-insert.ensures.added ∙ c.if-not-branch.false)
          ∙ ap (λ (keys : List ℕ). keys ++ literal / 2 ∷ []) c.loop-literal.invariant.keys
          ∙ sym (map_more variable_of c.args.literals.now c.loop-literal.literal-index 0 c.loop-literal-test.true);
      apart = c.insert.ensures.unique;
      even = All-more (λ l. is_even l ≡ true) c.args.literals.now c.loop-literal.literal-index 0 c.loop-literal-test.true c.loop-literal.invariant.even (same_number (literal % 2) 0 c.if-literal-ne0.false);
    }
