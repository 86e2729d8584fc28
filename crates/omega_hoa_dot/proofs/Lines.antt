-- Parts that are appended one after the other.
use Rattle.std.proofs.Common.{◌≡◌, ℕ, List, ◌++◌, ap, ◌∙◌, append_assoc}

-- a part, and then another
pub following : {y z : List ℕ} (x a b : List ℕ) → y ≡ x ++ a → z ≡ y ++ b → z ≡ x ++ (a ++ b)
following {y} {z} x a b first second = second ∙ ap (λ list. list ++ b) first ∙ append_assoc x a b
