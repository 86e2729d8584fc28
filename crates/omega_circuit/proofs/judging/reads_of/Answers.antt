-- The next literals and then the outputs: one of them is not defined.
use Rattle.std.proofs.Common.{◌≡◌, ℕ, ◌/◌, List, All, Vec, sym, ap, subst, ◌∙◌}
use Rattle.std.specs.Global.{Global}
use Rattle.std.specs.List.{Contains}
use Rattle.std.proofs.lemmas.Option.{MatchOption-at_none}
use Rattle.omega_circuit.specs.private.Numbers.{next_literals}
use Rattle.omega_circuit.proofs.Uses.{uses_literals, uses_outputs}
use Rattle.omega_circuit.proofs.judging.reads_of.Goals as goal

pub returns-in_default-clause-none : goal.returns-in_default-clause-none
returns-in_default-clause-none c = λ uses.
    let keys = c.args.variables.now.keys in
    let literals : c.as_slice-2.result.now ≡ next_literals c.args.parts.now.latches =
    c.as_slice-2.ensures.value ∙ c.in_ok-next_literals.ensures ∙ ap next_literals c.as_slice.ensures in
    MatchOption-at_none (All (λ literal. Contains keys (literal / 2)) c.as_slice-2.result.now → ⊥) (λ (numbers : Vec ℕ Global). Unit {0}) c.in_default.is c.in_ok-nexts.ensures.none
    (subst (λ (xs : List ℕ). All (λ literal. Contains keys (literal / 2)) xs) (sym literals) (uses_literals c.args.parts.now keys c.requires.variables uses))

pub returns-in_default-2-clause-none : goal.returns-in_default-2-clause-none
returns-in_default-2-clause-none c = λ uses.
    let keys = c.args.variables.now.keys in
    MatchOption-at_none (All (λ literal. Contains keys (literal / 2)) c.as_slice-3.result.now → ⊥) (λ (numbers : Vec ℕ Global). Unit {0}) c.in_default-2.is c.in_ok-outputs.ensures.none
    (subst (λ (xs : List ℕ). All (λ literal. Contains keys (literal / 2)) xs) (sym c.as_slice-3.ensures) (uses_outputs c.args.parts.now keys c.requires.variables uses))
