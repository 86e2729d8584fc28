-- Names that are numbered as they come.
use Rattle.std.proofs.Common.{◌≡◌, ℕ, ◌<◌, Bool, true, false, ◌||◌, List, [], ◌∷◌, ◌++◌, length, get_or, take, map, Option, None, Some, option_map, Vec, refl, sym, ap, ◌∙◌, subst, if◌then◌else◌}
use Rattle.std.specs.Global.{Global}
use Rattle.std.specs.Prelude.{position}
use Rattle.std.specs.List.{list_any, slice_get}
use Rattle.std.specs.Str.{bytes_eq}
use Rattle.std.proofs.lemmas.List.{map_push}
use Rattle.std.proofs.lemmas.List.Quantifiers.{position-Some}
use Rattle.std.proofs.lemmas.Option.{slice_get-get_or, slice_get-map}
use Rattle.std.proofs.lemmas.Slice.Eq.{bytes_eq-Decides}
use Rattle.indexmap.specs.IndexSet.{insert_key}
use Rattle.omega_ltl_formula.specs.Building.{with_name}
use Rattle.omega_ltl_formula.specs.private.Keys.{bytes_of}

abbrev same_bytes : Vec ℕ Global → Vec ℕ Global → Bool
same_bytes one other = bytes_eq one.items other.items

-- a name is a key exactly if it is among the names
pub any_named : (name : List ℕ) (keys : List (Vec ℕ Global)) → list_any (λ (key : Vec ℕ Global). bytes_eq name key.items) keys ≡ list_any (bytes_eq name) (bytes_of keys)
any_named name [] = refl
any_named name (key ∷ keys) = ap (λ (b : Bool). bytes_eq name key.items || b) (any_named name keys)

-- names are as they were if a name is among them
pub named_already : (name : List ℕ) (keys : List (Vec ℕ Global)) → list_any (λ (key : Vec ℕ Global). bytes_eq name key.items) keys ≡ true
    → bytes_of keys ≡ with_name (bytes_of keys) name
named_already name keys there =
    ap (λ (b : Bool). if b then bytes_of keys else bytes_of keys ++ name ∷ []) (sym there ∙ any_named name keys)

-- a key is added to names
pub named_more : (keys : List (Vec ℕ Global)) (key : Vec ℕ Global) (name : List ℕ) → key.items ≡ name → bytes_of (insert_key same_bytes keys key) ≡ with_name (bytes_of keys) name
named_more keys key name is =
    go (list_any (same_bytes key) keys)
    ∙ (ap (λ (b : Bool). if b then bytes_of keys else bytes_of keys ++ key.items ∷ []) (any_named key.items keys)
    ∙ ap (with_name (bytes_of keys)) is)
  where
    go : (b : Bool) → bytes_of (if b then keys else keys ++ key ∷ []) ≡ (if b then bytes_of keys else bytes_of keys ++ key.items ∷ [])
    go true = refl
    go false = map_push (λ (k : Vec ℕ Global). k.items) keys key

-- a key with a number has the name of that number
pub named_there : (keys : List (Vec ℕ Global)) (number : ℕ) (name : List ℕ) (key : Vec ℕ Global) → slice_get keys number ≡ Some key → bytes_eq name key.items ≡ true
    → slice_get (bytes_of keys) number ≡ Some name
named_there keys number name key there same =
    slice_get-map (λ (k : Vec ℕ Global). k.items) keys number
    ∙ (ap (option_map (λ (k : Vec ℕ Global). k.items)) there ∙ ap Some (sym ((bytes_eq-Decides name key.items).0 same)))

-- so has one that is found
pub found_there : (keys : List (Vec ℕ Global)) (number : ℕ) (name : List ℕ) → position (λ (key : Vec ℕ Global). bytes_eq name key.items) keys ≡ Some number
    → slice_get (bytes_of keys) number ≡ Some name
found_there [] number name found = absurd (let clash : ◌≡◌ {A = Option ℕ} None (Some number) = found in cc)
found_there (first ∷ keys) number name found =
    let there = position-Some (λ (key : Vec ℕ Global). bytes_eq name key.items) (first ∷ keys) number first found in
    named_there (first ∷ keys) number name (get_or (first ∷ keys) number first) (slice_get-get_or (first ∷ keys) number first there.0) there.1
