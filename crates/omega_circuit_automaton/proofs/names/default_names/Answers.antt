-- one name more
use Rattle.std.proofs.Common.{◌≡◌, ◌+◌, ◌∷◌, ◌++◌, [], ℕ, List, ap₂, sym, ◌∙◌, arith}
use Rattle.std.specs.Prelude.{decimal}
use Rattle.std.proofs.lemmas.List.FromFn.{map-range_with_len_more}
use Rattle.omega_circuit.specs.Symbols.{kind_letter}
use Rattle.omega_circuit_automaton.proofs.names.default_names.Goals as goal

pub loop-position-preserved : goal.loop-position-preserved
loop-position-preserved c =
    let name : ℕ → List ℕ = λ position. kind_letter c.args.kind ∷ decimal position in
    let n : ℕ = c.loop-position.position in
    let plain : 0 + n ≡ n = omega arith in
    c.in_ok-push.ensures.items ∙ ap₂ (λ (names : List (List ℕ)) (more : List ℕ). names ++ more ∷ []) c.loop-position.invariant c.in_ok-default_name.ensures.name
    ∙ sym (map-range_with_len_more name 0 n n plain)
