-- Names that are referred to.
use Rattle.std.proofs.Common.{◌≡◌, ℕ, Bool, true, false, ◌||◌, not, Bor, List, [], ◌∷◌, ◌++◌, refl, ap, ◌∙◌}
use Rattle.std.specs.List.{list_any}
use Rattle.std.specs.Str.{bytes_eq}
use Rattle.std.proofs.lemmas.List.{map-append}
use Rattle.omega_hoa_diagnostics.specs.Aliases.{is_among}
use Rattle.omega_hoa_diagnostics.specs.private.AliasReading.{names_in}

-- a name is among those that are referred to
pub among_keys : (name : List ℕ) (keys : List (Bor (List ℕ))) → list_any (λ (key : Bor (List ℕ)). bytes_eq name key.now) keys ≡ is_among name (names_in keys)
among_keys name [] = refl
among_keys name (key ∷ keys) = ap (λ b. bytes_eq name key.now || b) (among_keys name keys)

-- one name more is referred to
pub one_name_more : (keys : List (Bor (List ℕ))) (name : Bor (List ℕ)) → names_in (keys ++ name ∷ []) ≡ names_in keys ++ name.now ∷ []
one_name_more keys name = map-append (λ (key : Bor (List ℕ)). key.now) keys (name ∷ [])

-- a test that fails twice
not_not : (b : Bool) → not (not b) ≡ b
not_not true = refl
not_not false = refl

-- a name that is not added was among those that are referred to
pub added_name : (added : Bool) (name : List ℕ) (keys : List (Bor (List ℕ))) → added ≡ not (list_any (λ (key : Bor (List ℕ)). bytes_eq name key.now) keys)
    → not added ≡ is_among name (names_in keys)
added_name added name keys says =
    ap not says ∙ not_not (list_any (λ (key : Bor (List ℕ)). bytes_eq name key.now) keys) ∙ among_keys name keys
