-- A node whose successors are added one by one, those of a range that are usable.
use Rattle.std.proofs.Common.{◌≡◌, ◌↔◌, ℕ, zero, suc, ◌+◌, ◌-◌, ◌<◌, ◌≤◌, Bool, true, false, cond, List, [], ◌∷◌, ◌++◌, length, map, sym, ap, refl, ◌∙◌, subst, arith, add-zero, length-append}
use Rattle.std.proofs.lemmas.List.{append-nil, map-append}
use Rattle.std.specs.Prelude.{filter}
use Rattle.std.specs.List.{range_with_len}
use Rattle.std.proofs.lemmas.List.Elements.{filter-append}
use Rattle.omega_game_values.specs.Building.{with_last, with_successor}
use Rattle.omega_game_values.specs.declared.node_spec.NodeSpec.{NodeSpec}
use Rattle.omega_empty.specs.EmptinessGame.{is_usable, plain_node}
use Rattle.omega_empty.specs.private.layout.Nodes.{begun, linked}
use Rattle.omega_empty.specs.private.layout.Ranges.{usable_in}

-- numbers in order, one more at the end
pub range_push : (a n : ℕ) → range_with_len a (suc n) ≡ range_with_len a n ++ (a + n) ∷ []
range_push a zero = ap (λ m. m ∷ []) (sym (add-zero a))
range_push a (suc n) =
    let e : (a + 1) + n ≡ a + suc n = omega arith in
    ap (λ list. a ∷ list) (range_push (a + 1) n ∙ ap (λ m. range_with_len (a + 1) n ++ m ∷ []) e)

-- the usable ones, one number more at the end
pub usable_in_more : (usable : List Bool) (first end : ℕ) → first ≤ end
    → usable_in usable (record { first = first; end = end + 1 }) ≡ usable_in usable (record { first = first; end = end }) ++ filter (is_usable usable) (end ∷ [])
usable_in_more usable first end ordered =
    let more : (end + 1) - first ≡ suc (end - first) = omega arith in
    let last : first + (end - first) ≡ end = omega arith in
    ap (λ n. filter (is_usable usable) (range_with_len first n)) more
    ∙ ap (filter (is_usable usable)) (range_push first (end - first))
    ∙ filter-append (is_usable usable) (range_with_len first (end - first)) ((first + (end - first)) ∷ [])
    ∙ ap (λ n. usable_in usable (record { first = first; end = end }) ++ filter (is_usable usable) (n ∷ [])) last

-- the last one is changed
with_last_push : (change : NodeSpec → NodeSpec) (specs : List NodeSpec) (spec : NodeSpec)
    → with_last change (specs ++ spec ∷ []) ≡ specs ++ change spec ∷ []
with_last_push change [] spec = refl
with_last_push change (one ∷ []) spec = refl
with_last_push change (one ∷ next ∷ specs) spec = ap (λ list. one ∷ list) (with_last_push change (next ∷ specs) spec)

-- a node that was begun is the last one, and else none was
pub linked_is : (some : Bool) (specs initial : List NodeSpec) (id : ℕ) (xs : List ℕ) (x : ℕ)
    → specs ≡ initial ++ begun id xs → (some ≡ true) ↔ (0 < length xs) → linked some id x specs ≡ initial ++ begun id (xs ++ x ∷ [])
linked_is true specs initial id [] x is some = absurd (omega (arith, some.0 refl))
linked_is true specs initial id (y ∷ ys) x is some =
    ap (with_last (with_successor x)) is ∙ with_last_push (with_successor x) initial (plain_node id 0 (y ∷ ys))
linked_is false specs initial id [] x is some = ap (λ list. list ++ plain_node id 0 (x ∷ []) ∷ []) (is ∙ append-nil initial)
linked_is false specs initial id (y ∷ ys) x is some = absurd (none (some.1 (omega arith)))
  where
    none : false ≡ true → ⊥
    none e = cc

-- there is a last node if one was begun
pub begun_some : (specs initial : List NodeSpec) (id : ℕ) (xs : List ℕ) → specs ≡ initial ++ begun id xs → 0 < length xs → 0 < length specs
begun_some specs initial id [] is some = absurd (omega arith)
begun_some specs initial id (y ∷ ys) is some = omega (arith, ap length is, length-append initial (plain_node id 0 (y ∷ ys) ∷ []))

module _ (usable : List Bool) (first id base number : ℕ) (specs initial : List NodeSpec) (ordered : first ≤ number) where
  abbrev to : ℕ → List ℕ
  to end = map (λ n. base + n) (usable_in usable (record { first = first; end = end }))

  -- a number that is not usable changes nothing
  pub passed : (some : Bool) → is_usable usable number ≡ false → specs ≡ initial ++ begun id (to number) → (some ≡ true) ↔ (0 < length (to number))
      → (specs ≡ initial ++ begun id (to (number + 1))) × ((some ≡ true) ↔ (0 < length (to (number + 1))))
  passed some unusable is reported =
      let e : to (number + 1) ≡ to number =
      ap (map (λ n. base + n)) (usable_in_more usable first number ordered
      ∙ ap (λ (b : Bool). usable_in usable (record { first = first; end = number }) ++ cond b (number ∷ []) []) unusable ∙ append-nil _) in
      let P : List ℕ → Type 0 = λ list. (specs ≡ initial ++ begun id list) × ((some ≡ true) ↔ (0 < length list)) in
      subst P (sym e) (is, reported)

  -- a usable one is linked
  pub taken : (some : Bool) (new : List NodeSpec) → is_usable usable number ≡ true → specs ≡ initial ++ begun id (to number)
      → (some ≡ true) ↔ (0 < length (to number)) → new ≡ linked some id (base + number) specs
      → (new ≡ initial ++ begun id (to (number + 1))) × ((true ≡ true) ↔ (0 < length (to (number + 1))))
  taken some new usable_is is reported new_is =
      let e : to (number + 1) ≡ to number ++ (base + number) ∷ [] =
      ap (map (λ n. base + n)) (usable_in_more usable first number ordered
      ∙ ap (λ (b : Bool). usable_in usable (record { first = first; end = number }) ++ cond b (number ∷ []) []) usable_is)
      ∙ map-append (λ n. base + n) (usable_in usable (record { first = first; end = number })) (number ∷ []) in
      let some_now : 0 < length (to number ++ (base + number) ∷ []) = omega (arith, length-append (to number) ((base + number) ∷ [])) in
      let P : List ℕ → Type 0 = λ list. (new ≡ initial ++ begun id list) × ((true ≡ true) ↔ (0 < length list)) in
      subst P (sym e) (new_is ∙ linked_is some specs initial id (to number) (base + number) is reported, (λ _. some_now, λ _. refl))
