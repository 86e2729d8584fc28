-- Changes of the last specification.
use Rattle.std.proofs.Common.{◌≡◌, suc, List, [], ◌∷◌, ◌++◌, length, refl, ap}
use Rattle.omega_game_values.specs.Building.{with_last}
use Rattle.omega_game_values.specs.declared.node_spec.NodeSpec.{NodeSpec}

-- a change keeps how many there are
pub length_with_last : (change : NodeSpec → NodeSpec) (specs : List NodeSpec) → length (with_last change specs) ≡ length specs
length_with_last change [] = refl
length_with_last change (spec ∷ []) = refl
length_with_last change (spec ∷ next ∷ specs) = ap suc (length_with_last change (next ∷ specs))

-- the last one is the one that was pushed
pub with_last_push : (change : NodeSpec → NodeSpec) (specs : List NodeSpec) (spec : NodeSpec)
    → with_last change (specs ++ spec ∷ []) ≡ specs ++ change spec ∷ []
with_last_push change [] spec = refl
with_last_push change (one ∷ []) spec = refl
with_last_push change (one ∷ next ∷ specs) spec = ap (λ list. one ∷ list) (with_last_push change (next ∷ specs) spec)
