-- Each state of an automaton has a number of its own.
use Rattle.std.proofs.Common.{◌≡◌, ℕ, ◌<◌, Bool, true, false, nat_eq, List, length, get_or, map, take, refl, ap, sym, subst, ◌∙◌, true≢false}
use Rattle.std.specs.List.{list_any}
use Rattle.std.proofs.lemmas.List.{get_or-map, length-map, take-map}
use Rattle.omega_hoa_automaton.specs.Automaton.{has_repeat}
use Rattle.omega_hoa_automaton.proofs.Repeats.{has_repeat_here}

-- if no two items have the same number, an item has that of none before it
pub number_is_new : {X : Type 0} (number : X → ℕ) (xs : List X) (i : ℕ) (x : X) → i < length xs → x ≡ get_or xs i x
    → has_repeat nat_eq (map number xs) ≡ false → list_any (nat_eq (number x)) (map number (take i xs)) ≡ false
number_is_new number xs i x below here once = go (list_any (nat_eq (number x)) (map number (take i xs))) refl
  where
    is : get_or (map number xs) i (number x) ≡ number x
    is = get_or-map number xs i x (number x) below ∙ ap number (sym here)

    moved : list_any (nat_eq (number x)) (map number (take i xs)) ≡ true
        → list_any (nat_eq (get_or (map number xs) i (number x))) (take i (map number xs)) ≡ true
    moved e =
        subst (λ n. list_any (nat_eq n) (take i (map number xs)) ≡ true) (sym is)
        (subst (λ ys. list_any (nat_eq (number x)) ys ≡ true) (sym (take-map number i xs)) e)

    within : i < length (map number xs)
    within = subst (λ n. i < n) (sym (length-map xs number)) below

    go : (b : Bool) → list_any (nat_eq (number x)) (map number (take i xs)) ≡ b
        → list_any (nat_eq (number x)) (map number (take i xs)) ≡ false
    go false e = e
    go true e = absurd (true≢false (sym (has_repeat_here nat_eq (map number xs) i (number x) within (moved e)) ∙ once))
