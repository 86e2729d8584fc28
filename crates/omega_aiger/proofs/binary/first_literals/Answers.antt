-- One literal more.
use Rattle.std.proofs.Common.{◌≡◌, ◌∷◌, ◌++◌, ◌+◌, ◌-◌, ℕ, List, [], sym, ap, ◌∙◌, arith}
use Rattle.omega_aiger.specs.Deltas.{literal_of}
use Rattle.std.proofs.Common.{ap₂, map}
use Rattle.std.specs.List.{range_with_len}
use Rattle.std.proofs.lemmas.List.FromFn.{map-range_with_len_more}
use Rattle.omega_aiger.proofs.binary.first_literals.Goals as goal

pub loop-variable-preserved : goal.loop-variable-preserved
loop-variable-preserved c =
    let v = c.loop-variable.variable in let low = c.loop-variable.auto.variable in
    c.in_ok-push.ensures.items ∙ ap₂ (λ (xs : List ℕ) (l : ℕ). xs ++ l ∷ []) c.loop-variable.invariant (c.literal_of.ensures ∙ ap literal_of c.from.ensures)
    ∙ sym (map-range_with_len_more literal_of 1 (c.loop-variable.variable - 1) c.loop-variable.variable (omega arith))
    ∙ ap (λ n. map literal_of (range_with_len 1 n)) (let e : c.loop-variable.variable - 1 + 1 ≡ c.loop-variable.variable + 1 - 1 = omega arith in e)
