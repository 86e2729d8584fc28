-- Parts that are appended one after the other.
use Rattle.std.proofs.Common.{◌≡◌, ℕ, ◌<◌, List, [], ◌∷◌, ◌++◌, length, codes, refl, ap, ◌∙◌, append_assoc}
use Rattle.omega_canon.specs.HeaderText.{properties_line}
use Rattle.omega_canon.specs.Parts.{words}

-- a part, and then another
pub following : {y z : List ℕ} (x a b : List ℕ) → y ≡ x ++ a → z ≡ y ++ b → z ≡ x ++ (a ++ b)
following {y} {z} x a b first second = second ∙ ap (λ list. list ++ b) first ∙ append_assoc x a b

-- the line of some properties
pub some_properties : (properties : List (List ℕ)) → 0 < length properties → codes "properties:" ++ (words properties ++ codes "\n") ≡ properties_line properties
some_properties [] some = elim some [ ]
some_properties (first ∷ others) some = refl
