-- The names of aliases as a set, and their places.
use Rattle.std.proofs.Common.{◌≡◌, ℕ, ◌+◌, ◌<◌, ◌≤◌, zero, suc, Bool, true, false, cond, not, ltb, List, [], ◌∷◌, Option, Some, None, length, map, get_or, drop, is_some, unwrap_or, ap, refl, sym, ◌∙◌, arith}
use Rattle.std.specs.List.{list_any, position, position_or_len}
use Rattle.std.specs.Str.{bytes_eq}
use Rattle.std.proofs.lemmas.Bool.{false≢true, ltb-false, or_from, true≢false}
use Rattle.std.proofs.lemmas.List.{length-map}
use Rattle.omega_hoa_label_text.specs.Expanding.{Defined, place_among}

place-here : (b : Bool) (place count : ℕ) → place ≤ count → cond b 0 (suc place) ≤ suc count
place-here true place count le = omega arith
place-here false place count le = omega arith

-- no place is past the definitions
pub place_among-le : (definitions : List Defined) (name : List ℕ) → place_among definitions name ≤ length definitions
place_among-le [] name = omega arith
place_among-le (next ∷ rest) name = place-here (bytes_eq name next.name) (place_among rest name) (length rest) (place_among-le rest name)

here-or-there : (b : Bool) (n m : ℕ) → n ≡ m → cond (not b) (1 + n) 0 ≡ cond b 0 (suc m)
here-or-there true n m same = refl
here-or-there false n m same = omega arith

past-here : (b : Bool) (place count : ℕ) → suc count ≤ cond b 0 (suc place) → (b ≡ false) × (count ≤ place)
past-here true place count past = absurd (omega arith)
past-here false place count past = (refl, omega arith)

module _ {K D : Type 0} (name_of : K → List ℕ) (defined_of : D → Defined) where
  -- the place of a key is that of the definition of its name
  position-place : (name : List ℕ) (keys : List K) (definitions : List D) → map name_of keys ≡ map (λ d. (defined_of d).name) definitions
      → position_or_len (λ key. bytes_eq name (name_of key)) keys ≡ place_among (map defined_of definitions) name
  position-place name [] [] same = refl
  position-place name [] (d ∷ definitions) same = absurd (omega (arith, ap length same))
  position-place name (key ∷ keys) [] same = absurd (omega (arith, ap length same))
  position-place name (key ∷ keys) (d ∷ definitions) same =
      let heads : name_of key ≡ (defined_of d).name = ap (λ (names : List (List ℕ)). get_or names 0 []) same in
      let tails : map name_of keys ≡ map (λ d. (defined_of d).name) definitions = ap (drop 1) same in
      here-or-there (bytes_eq name (name_of key)) _ _ (position-place name keys definitions tails)
      ∙ ap (λ other. cond (bytes_eq name other) 0 (suc (place_among (map defined_of definitions) name))) heads

  found-at : (b : Bool) (place at : ℕ) → cond b (Some at) None ≡ Some place → place ≡ at
  found-at true place at e = sym (ap (λ (found : Option ℕ). unwrap_or found 0) e)
  found-at false place at e = absurd (false≢true (ap is_some e))

  missing-at : (b : Bool) (at : ℕ) → cond b (Some at) None ≡ None → b ≡ false
  missing-at true at e = absurd (true≢false (ap is_some e))
  missing-at false at e = refl

  -- where a key is found, it is at the place of its name
  pub place-found : (name : List ℕ) (keys : List K) (definitions : List D) (found : Option ℕ) (place : ℕ)
      → map name_of keys ≡ map (λ d. (defined_of d).name) definitions → found ≡ position (λ key. bytes_eq name (name_of key)) keys → found ≡ Some place
      → place ≡ place_among (map defined_of definitions) name
  place-found name keys definitions found place same is at =
      found-at (ltb (position_or_len (λ key. bytes_eq name (name_of key)) keys) (length keys)) place (position_or_len (λ key. bytes_eq name (name_of key)) keys) (sym is ∙ at)
      ∙ position-place name keys definitions same

  -- where none is found, the place is past the definitions
  pub place-missing : (name : List ℕ) (keys : List K) (definitions : List D) (found : Option ℕ)
      → map name_of keys ≡ map (λ d. (defined_of d).name) definitions → found ≡ position (λ key. bytes_eq name (name_of key)) keys → found ≡ None
      → length definitions ≡ place_among (map defined_of definitions) name
  place-missing name keys definitions found same is none =
      let past = ltb-false (position_or_len (λ key. bytes_eq name (name_of key)) keys) (length keys)
      (missing-at (ltb (position_or_len (λ key. bytes_eq name (name_of key)) keys) (length keys)) (position_or_len (λ key. bytes_eq name (name_of key)) keys) (sym is ∙ none)) in
      let counts : length keys ≡ length definitions = sym (length-map keys name_of) ∙ (ap length same ∙ length-map definitions (λ d. (defined_of d).name)) in
      omega (arith, position-place name keys definitions same, place_among-le (map defined_of definitions) name, length-map definitions defined_of)

  -- a name whose place is past the definitions is not among the keys
  pub place-absent : (name : List ℕ) (keys : List K) (definitions : List D) → map name_of keys ≡ map (λ d. (defined_of d).name) definitions
      → length definitions ≤ place_among (map defined_of definitions) name → list_any (λ key. bytes_eq name (name_of key)) keys ≡ false
  place-absent name [] definitions same past = refl
  place-absent name (key ∷ keys) [] same past = absurd (omega (arith, ap length same))
  place-absent name (key ∷ keys) (d ∷ definitions) same past =
      let heads : name_of key ≡ (defined_of d).name = ap (λ (names : List (List ℕ)). get_or names 0 []) same in
      let tails : map name_of keys ≡ map (λ d. (defined_of d).name) definitions = ap (drop 1) same in
      let split = past-here (bytes_eq name (defined_of d).name) (place_among (map defined_of definitions) name) (length definitions) past in
      or_from (bytes_eq name (name_of key)) (list_any (λ other. bytes_eq name (name_of other)) keys)
      (ap (bytes_eq name) heads ∙ split.0) (place-absent name keys definitions tails split.1)

-- what is made of an element at a place
pub get_or-made : {X Y : Type 0} (made : X → Y) (xs : List X) (place : ℕ) (x : X) (d : Y) → place < length xs → get_or (map made xs) place d ≡ made (get_or xs place x)
get_or-made made [] place x d within = absurd (omega arith)
get_or-made made (y ∷ xs) zero x d within = refl
get_or-made made (y ∷ xs) (suc place) x d within = get_or-made made xs place x d (omega arith)
