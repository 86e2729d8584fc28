-- The lines of items that share a key, from one to the next.
use Rattle.std.proofs.Common.{◌≡◌, ℕ, ◌+◌, ◌-◌, ◌<◌, ◌≤◌, ◌==◌, suc, Bool, true, false, cond, Option, Some, None, List, [], ◌∷◌, ◌++◌, length, drop, get_or, map, sym, ap, refl, ◌∙◌, append_assoc, arith}
use Rattle.std.specs.Prelude.{if◌then◌else◌, IfSome, MatchOption}
use Rattle.std.specs.List.{flat_map, position_from}
use Rattle.std.specs.Option.{option_map_or}
use Rattle.std.proofs.lemmas.List.{drop-drop, drop-map, drop_more, get_or-drop, length-drop}
use Rattle.omega_hoa_dot.specs.Arrows.{is_to}
use Rattle.omega_hoa_dot.specs.private.layout.Sharing.{next_to}

-- a key that is this one
is_key : (t : ℕ) (key : Option ℕ) → is_to t key ≡ true → key ≡ Some t
is_key t None e = cc
is_key t (Some other) e = let same : other ≡ t = grind arith in ap Some same

key_is : (t : ℕ) (key : Option ℕ) → key ≡ Some t → is_to t key ≡ true
key_is t key e = ap (is_to t) e ∙ itself t
  where
    itself : (t : ℕ) → (t == t) ≡ true
    itself t = grind arith

module _ {X : Type 0} (key : X → Option ℕ) (lines : X → List ℕ) where
  -- the lines of items with a key
  abbrev pub shared : ℕ → List X → List ℕ
  shared t xs = flat_map (λ x. if is_to t (key x) then lines x else []) xs

  -- an item with the key is reached, and no item before it has it
  pub record IsReached (t n j : ℕ) (xs : List X) : Type 0 where
    pub from : n ≤ j
    pub within : j < n + length xs
    pub here : get_or (map key xs) (j - n) None ≡ Some t
    pub rest : shared t xs ≡ shared t (drop (j - n) xs)

  -- if no item has the key there are no lines
  none_at : (b : Bool) (t n : ℕ) (x : X) (xs : List X) → is_to t (key x) ≡ b → (position_from (is_to t) (n + 1) (map key xs) ≡ None → shared t xs ≡ [])
      → cond b (Some n) (position_from (is_to t) (n + 1) (map key xs)) ≡ None → shared t (x ∷ xs) ≡ []
  none_at true t n x xs e later none = cc
  none_at false t n x xs e later none = ap (λ b. (if b then lines x else []) ++ shared t xs) e ∙ later none

  none_shared : (t n : ℕ) (xs : List X) → position_from (is_to t) n (map key xs) ≡ None → shared t xs ≡ []
  none_shared t n [] none = refl
  none_shared t n (x ∷ xs) none = none_at (is_to t (key x)) t n x xs refl (none_shared t (n + 1) xs) none

  -- the first item with the key
  reached_at : (b : Bool) (t n j : ℕ) (x : X) (xs : List X) → is_to t (key x) ≡ b
      → (position_from (is_to t) (n + 1) (map key xs) ≡ Some j → IsReached t (n + 1) j xs)
      → cond b (Some n) (position_from (is_to t) (n + 1) (map key xs)) ≡ Some j → IsReached t n j (x ∷ xs)
  reached_at true t n j x xs e later found =
      let same : n ≡ j = cc in
      let none : 0 ≡ j - n = omega (arith, same) in
      record {
        from = omega (arith, same);
        within = omega (arith, same);
        here = ap (λ i. get_or (map key (x ∷ xs)) i None) (sym none) ∙ is_key t (key x) e;
        rest = ap (λ i. shared t (drop i (x ∷ xs))) none;
      }
  reached_at false t n j x xs e later found =
      let is = later found in
      let beyond : n + 1 ≤ j = is.from in
      let end : j < (n + 1) + length xs = is.within in
      let more : suc (j - (n + 1)) ≡ j - n = omega (arith, beyond) in
      record {
        from = omega (arith, beyond);
        within = omega (arith, end);
        here = ap (λ i. get_or (map key (x ∷ xs)) i None) (sym more) ∙ is.here;
        rest = ap (λ b. (if b then lines x else []) ++ shared t xs) e ∙ is.rest ∙ ap (λ i. shared t (drop i (x ∷ xs))) more;
      }

  reached : (t n j : ℕ) (xs : List X) → position_from (is_to t) n (map key xs) ≡ Some j → IsReached t n j xs
  reached t n j [] found = cc
  reached t n j (x ∷ xs) found = reached_at (is_to t (key x)) t n j x xs refl (reached t (n + 1) j xs) found

  -- the item at a place has the key: its lines are before those of the items after it
  pub one_shared : (t k : ℕ) (xs : List X) (x : X) → k < length xs → x ≡ get_or xs k x → key x ≡ Some t
      → shared t (drop k xs) ≡ lines x ++ shared t (drop (k + 1) xs)
  one_shared t k xs x below here is =
      ap (shared t) (drop_more xs k x below ∙ ap (λ y. y ∷ drop (k + 1) xs) (sym here))
      ∙ ap (λ b. (if b then lines x else []) ++ shared t (drop (k + 1) xs)) (key_is t (key x) is)

  -- what is known of the next item after one with a key
  abbrev pub IsNext : ℕ → ℕ → List X → Option ℕ → Type 0
  IsNext t k xs next = MatchOption next (shared t (drop (k + 1) xs) ≡ [])
      (λ j. (k < j) × (j < length xs) × (get_or (map key xs) j None ≡ Some t) × (shared t (drop (k + 1) xs) ≡ shared t (drop j xs)))

  pub next_shared : (t k : ℕ) (xs : List X) (next : Option ℕ) → k < length xs → next ≡ next_to (map key xs) (k + 1) t → IsNext t k xs next
  next_shared t k xs None below e =
      none_shared t (k + 1) (drop (k + 1) xs) (ap (position_from (is_to t) (k + 1)) (sym (drop-map key (k + 1) xs)) ∙ sym e)
  next_shared t k xs (Some j) below e =
      let is = reached t (k + 1) j (drop (k + 1) xs) (ap (position_from (is_to t) (k + 1)) (sym (drop-map key (k + 1) xs)) ∙ sym e) in
      let from : k + 1 ≤ j = is.from in
      let within : j < (k + 1) + length (drop (k + 1) xs) = is.within in
      let whole : (k + 1) + (j - (k + 1)) ≡ j = omega (arith, from) in (
        omega (arith, from),
        omega (arith, within, length-drop (k + 1) xs, below),
        ap (λ i. get_or (map key xs) i None) (sym whole) ∙ sym (get_or-drop (k + 1) (map key xs) (j - (k + 1)) None)
            ∙ ap (λ list. get_or list (j - (k + 1)) None) (drop-map key (k + 1) xs) ∙ is.here,
        is.rest ∙ ap (shared t) (drop-drop (j - (k + 1)) (k + 1) xs ∙ ap (λ i. drop i xs) whole),
      )

  -- the first item with a key: its lines and those of the items after it are all
  pub first_shared : (t k : ℕ) (xs : List X) → next_to (map key xs) 0 t ≡ Some k → shared t xs ≡ shared t (drop k xs)
  first_shared t k xs e =
      let is = reached t 0 k xs e in
      let whole : k - 0 ≡ k = omega arith in
      is.rest ∙ ap (λ i. shared t (drop i xs)) whole

  pub first_there : (t k : ℕ) (xs : List X) → next_to (map key xs) 0 t ≡ Some k → (k < length xs) × (get_or (map key xs) k None ≡ Some t)
  first_there t k xs e =
      let is = reached t 0 k xs e in
      let within : k < 0 + length xs = is.within in
      let whole : k - 0 ≡ k = omega arith in
      (omega (arith, within), ap (λ i. get_or (map key xs) i None) (sym whole) ∙ is.here)

  -- what is left after an item, from the next one on
  abbrev pub rest_from : ℕ → List X → Option ℕ → List ℕ
  rest_from t xs None = []
  rest_from t xs (Some k) = shared t (drop k xs)

  -- an item with a key, at the place from which the next one is searched
  abbrev pub IsThere : ℕ → List X → Option ℕ → Type 0
  IsThere t xs at = IfSome at (λ k. (k < length xs) × (get_or (map key xs) k None ≡ Some t))

  -- the lines of an item more are written
  pub lines_written : (t k : ℕ) (xs : List X) (x : X) (next : Option ℕ) (out after whole : List ℕ) → k < length xs → x ≡ get_or xs k x → key x ≡ Some t
      → next ≡ next_to (map key xs) (k + 1) t → after ≡ out ++ lines x → out ++ shared t (drop k xs) ≡ whole → after ++ rest_from t xs next ≡ whole
  lines_written t k xs x next out after whole below here is e step so_far =
      ap (λ list. list ++ rest_from t xs next) step ∙ append_assoc out (lines x) (rest_from t xs next)
      ∙ ap (λ list. out ++ (lines x ++ list)) (sym (rest next (next_shared t k xs next below e)))
      ∙ ap (λ list. out ++ list) (sym (one_shared t k xs x below here is))
      ∙ so_far
    where
      rest : (next : Option ℕ) → IsNext t k xs next → shared t (drop (k + 1) xs) ≡ rest_from t xs next
      rest None known = known
      rest (Some j) known = known.3

  pub next_there : (t k : ℕ) (xs : List X) (next : Option ℕ) → k < length xs → next ≡ next_to (map key xs) (k + 1) t → IsThere t xs next
  next_there t k xs next below e = there next (next_shared t k xs next below e)
    where
      there : (next : Option ℕ) → IsNext t k xs next → IsThere t xs next
      there None known = tt
      there (Some j) known = (known.1, known.2)

  pub next_later : (t k : ℕ) (xs : List X) (next : Option ℕ) → k < length xs → next ≡ next_to (map key xs) (k + 1) t
      → option_map_or (λ j. length xs - j) next 0 < length xs - k
  next_later t k xs next below e = later next (next_shared t k xs next below e)
    where
      later : (next : Option ℕ) → IsNext t k xs next → option_map_or (λ j. length xs - j) next 0 < length xs - k
      later None known = omega arith
      later (Some j) known = let after : k < j = known.0 in let within : j < length xs = known.1 in omega (arith, after, within)

  -- tests of keys are tests of items
  pub position-map : (t n : ℕ) (xs : List X) → position_from (is_to t) n (map key xs) ≡ position_from (λ x. is_to t (key x)) n xs
  position-map t n [] = refl
  position-map t n (x ∷ xs) = ap (λ o. cond (is_to t (key x)) (Some n) o) (position-map t (n + 1) xs)
