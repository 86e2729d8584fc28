-- One literal more.
use Rattle.std.proofs.Common.{◌*◌, ◌∷◌, ◌++◌, ◌+◌, ℕ, List, [], refl, sym, ap, ◌∙◌}
use Rattle.std.proofs.lemmas.List.FromFn.{map-range_with_len_more}
use Rattle.omega_circuit.proofs.canonical.input_literals.Goals as goal

pub loop-k-preserved : goal.loop-k-preserved
loop-k-preserved c =
    c.in_ok-push.ensures.items ∙ ap (λ (xs : List ℕ). xs ++ 2 * (1 + c.loop-k.k) ∷ []) c.loop-k.invariant
    ∙ sym (map-range_with_len_more (λ variable. 2 * variable) 1 c.loop-k.k (1 + c.loop-k.k) refl)
