-- The first identifier that came before.
use Rattle.std.proofs.Common.{◌≡◌, ℕ, ◌+◌, ◌<◌, Bool, true, false, not, List, [], ◌∷◌, ◌++◌, length, take, drop, get_or, nat_eq, refl, ap, sym, ◌∙◌, subst, append_assoc}
use Rattle.std.proofs.lemmas.List.{take_more, take-append-drop}
use Rattle.std.specs.List.{IsDistinct}
use Rattle.omega_pg_diagnostics.specs.GameCauses.{IsFirstRepeat, is_among}

-- what is not new is known
known : (b : Bool) → false ≡ not b → b ≡ true
known true e = refl
known false e = absurd (cc)

-- the identifier at a place is among those before it, which differ
pub first_repeat_at : (ids before : List ℕ) (i : ℕ) → i < length ids → before ≡ take i ids → IsDistinct nat_eq (take i ids)
    → false ≡ not (is_among (get_or ids i 0) before) → IsFirstRepeat ids (get_or ids i 0)
first_repeat_at ids before i below so_far different again = record {
  front = take i ids;
  rest = drop (i + 1) ids;
  split = sym (take-append-drop (i + 1) ids) ∙ ap (λ list. list ++ drop (i + 1) ids) (take_more ids i 0 below) ∙ append_assoc (take i ids) (get_or ids i 0 ∷ []) (drop (i + 1) ids);
  different = different;
  again = subst (λ (list : List ℕ). is_among (get_or ids i 0) list ≡ true) so_far (known (is_among (get_or ids i 0) before) again);
}

-- no identifiers differ
pub none_differ : IsDistinct nat_eq []
unfolding IsDistinct
none_differ = tt
