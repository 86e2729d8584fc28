-- Texts that are appended one after the other.
use Rattle.std.proofs.Common.{◌≡◌, ℕ, List, ◌++◌, ap, ◌∙◌, append_assoc}

-- a text and one after it
pub following : {before after : List ℕ} (front text more : List ℕ) → before ≡ front ++ text → after ≡ before ++ more → after ≡ front ++ (text ++ more)
following front text more first second = second ∙ ap (λ list. list ++ more) first ∙ append_assoc front text more

-- three names with numbers and an end, one after the other
pub regrouped : (front name number name' number' name'' number'' end : List ℕ)
    → front ++ ((name ++ number) ++ ((name' ++ number') ++ ((name'' ++ number'') ++ end)))
    ≡ front ++ (name ++ number ++ name' ++ number' ++ name'' ++ number'' ++ end)
regrouped front name number name' number' name'' number'' end = simp append_assoc
