-- The greatest of what is given for each item of a list, item by item.
use Rattle.std.proofs.Common.{◌≡◌, ℕ, ◌+◌, ◌<◌, max, List, length, get_or, take, refl, ap, sym, ◌∙◌}
use Rattle.std.proofs.lemmas.List.{take_more}
use Rattle.std.proofs.lemmas.List.Recursion.{max_push}
use Rattle.omega_hoa_automaton.specs.Faults.{greatest_of}

-- one more item
pub greatest_more : {X : Type 0} (given : X → ℕ) (xs : List X) (i : ℕ) (d : X) → i < length xs
    → greatest_of given (take (i + 1) xs) ≡ max (greatest_of given (take i xs)) (given (get_or xs i d))
greatest_more given xs i d within =
    rw (take_more xs i d within) (max_push (greatest_of given) given refl (λ _ _. refl) (take i xs) (get_or xs i d))

-- a step of a loop that keeps the greatest so far
pub greatest_step : {X : Type 0} (given : X → ℕ) (xs : List X) (i : ℕ) (x : X) (so_far next after : ℕ) → i < length xs → x ≡ get_or xs i x
    → so_far ≡ greatest_of given (take i xs) → next ≡ given x → after ≡ max so_far next → after ≡ greatest_of given (take (i + 1) xs)
greatest_step given xs i x so_far next after within is before value taken =
    let here : next ≡ given (get_or xs i x) = value ∙ ap given is in
    rw (greatest_more given xs i x within) (rw (sym before) (rw (sym here) taken))
