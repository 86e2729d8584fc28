-- The places of true flags, and the nodes chosen there.
use Rattle.std.proofs.Common.{◌≡◌, ℕ, zero, suc, ◌+◌, ◌<◌, ◌≤◌, Bool, true, false, List, [], ◌∷◌, Option, Some, None, IfSome, length, get_or, slice_index, ◌⊎◌, inl, inr, refl, sym, ap, subst, drop, ◌++◌, ◌∙◌, append_assoc, drop-cons, arith}
use Rattle.std.specs.List.{Contains, flat_map, slice_get}
use Rattle.std.specs.List.Sorted.{IsStrictlyIncreasing}
use Rattle.std.proofs.lemmas.List.Elements.{Contains-get_or}
use Rattle.std.proofs.lemmas.Option.{slice_get-get_or}
use Rattle.omega_game_values.specs.declared.player.Player.{Player}
use Rattle.omega_game_values.specs.Game.{IsGame, Node}
use Rattle.omega_game_values.specs.Winning.{IsStrategy}
use Rattle.omega_answers_game.specs.private.steps.Places.{places_from}

-- ---- members of a list with a first element

Contains-cons_cases : {X : Type 0} (y : X) (ys : List X) (x : X) → Contains (y ∷ ys) x → (y ≡ x) ⊎ Contains ys x
Contains-cons_cases y ys x (zero, h, e) = inl e
Contains-cons_cases y ys x (suc j, h, e) = inr (j, omega arith, e)

Contains-cons : {X : Type 0} (y : X) (ys : List X) (x : X) → Contains ys x → Contains (y ∷ ys) x
Contains-cons y ys x (j, h, e) = (suc j, omega arith, e)

IsStrictlyIncreasing-cons : (x : ℕ) (xs : List ℕ) → ((j : ℕ) → j < length xs → x < slice_index xs j)
    → IsStrictlyIncreasing xs → IsStrictlyIncreasing (x ∷ xs)
IsStrictlyIncreasing-cons x xs least rising zero h = least 0 (omega arith)
IsStrictlyIncreasing-cons x xs least rising (suc j) h =
    let next : suc j + 1 ≡ suc (j + 1) = omega arith in rw next (rising j (omega arith))

-- ---- the places of true flags

pub places_from-true : (place : ℕ) (flags : List Bool) (v : ℕ) → Contains (places_from place flags) v
    → (i : ℕ) × (v ≡ place + i) × (slice_get flags i ≡ Some true)
places_from-true place [] v (j, h, e) = absurd (omega arith)
places_from-true place (true ∷ flags) v there =
    elim (Contains-cons_cases place (places_from (place + 1) flags) v there) [
      | inl here ↦ (0, omega arith, refl)
      | inr following ↦ let more = places_from-true (place + 1) flags v following in (suc more.0, omega (arith, more.1), more.2)
    ]
places_from-true place (false ∷ flags) v there =
    let more = places_from-true (place + 1) flags v there in (suc more.0, omega (arith, more.1), more.2)

pub Contains-places_from : (place : ℕ) (flags : List Bool) (i : ℕ) → slice_get flags i ≡ Some true
    → Contains (places_from place flags) (place + i)
Contains-places_from place [] i e = cc
Contains-places_from place (true ∷ flags) zero e = (0, omega arith, omega arith)
Contains-places_from place (false ∷ flags) zero e = cc
Contains-places_from place (true ∷ flags) (suc i) e =
    let shift : place + 1 + i ≡ place + suc i = omega arith in
    Contains-cons _ _ _ (subst (Contains (places_from (place + 1) flags)) shift (Contains-places_from (place + 1) flags i e))
Contains-places_from place (false ∷ flags) (suc i) e =
    let shift : place + 1 + i ≡ place + suc i = omega arith in
    subst (Contains (places_from (place + 1) flags)) shift (Contains-places_from (place + 1) flags i e)

places_from-above : (place : ℕ) (flags : List Bool) (j : ℕ) → j < length (places_from place flags)
    → place ≤ slice_index (places_from place flags) j
places_from-above place flags j h =
    let found = places_from-true place flags _ (Contains-get_or (places_from place flags) j 0 h) in omega (arith, found.1)

pub IsStrictlyIncreasing-places_from : (place : ℕ) (flags : List Bool) → IsStrictlyIncreasing (places_from place flags)
IsStrictlyIncreasing-places_from place [] = λ j h. absurd (omega arith)
IsStrictlyIncreasing-places_from place (true ∷ flags) =
    IsStrictlyIncreasing-cons place (places_from (place + 1) flags)
    (λ j h. omega (arith, places_from-above (place + 1) flags j h))
    (IsStrictlyIncreasing-places_from (place + 1) flags)
IsStrictlyIncreasing-places_from place (false ∷ flags) = IsStrictlyIncreasing-places_from (place + 1) flags

-- ---- a choice is a node

choice_cases : (nodes : List Node) (player : Player) (choices : List (Option ℕ)) (v : ℕ) (choice : Option ℕ) → IsGame nodes
    → IsStrategy nodes player choices → slice_get choices v ≡ Some choice → IfSome choice (λ w. w < length nodes)
choice_cases nodes player choices v None game strategy e = tt
choice_cases nodes player choices v (Some w) game strategy e = game.closed v w (strategy.listed v w e)

pub choice-within : (nodes : List Node) (player : Player) (choices : List (Option ℕ)) (v : ℕ) → IsGame nodes
    → IsStrategy nodes player choices → v < length choices → IfSome (get_or choices v None) (λ w. w < length nodes)
choice-within nodes player choices v game strategy h =
    choice_cases nodes player choices v (get_or choices v None) game strategy (slice_get-get_or choices v None h)

-- a flag that is true, as code reads it
pub slice_get-true : (flags : List Bool) (i : ℕ) → i < length flags → get_or flags i false ≡ true → slice_get flags i ≡ Some true
slice_get-true flags i h t = slice_get-get_or flags i false h ∙ ap Some t

-- ---- the lines of the places of true flags

-- the places from one on, with its flag first
places_from-drop : (won : List Bool) (place : ℕ) (flag : Bool) → place < length won → get_or won place false ≡ flag
    → places_from place (drop place won) ≡ places_from place (flag ∷ drop (place + 1) won)
places_from-drop won place flag h is =
    let next : suc place ≡ place + 1 = omega arith in
    ap (places_from place) (drop-cons won place false h ∙ ap (λ (b : Bool). b ∷ drop (suc place) won) is ∙ ap (λ (i : ℕ). flag ∷ drop i won) next)

-- one line more is written
pub lines-won : (line : ℕ → List ℕ) (won : List Bool) (place : ℕ) (out text : List ℕ) → place < length won → get_or won place false ≡ true
    → out ++ flat_map line (places_from place (drop place won)) ≡ text
    → (out ++ line place) ++ flat_map line (places_from (place + 1) (drop (place + 1) won)) ≡ text
lines-won line won place out text h is written =
    append_assoc out (line place) (flat_map line (places_from (place + 1) (drop (place + 1) won)))
    ∙ ap (λ (places : List ℕ). out ++ flat_map line places) (sym (places_from-drop won place true h is)) ∙ written

-- no line is written for a place that is not won
pub lines-lost : (line : ℕ → List ℕ) (won : List Bool) (place : ℕ) (out text : List ℕ) → place < length won → get_or won place false ≡ false
    → out ++ flat_map line (places_from place (drop place won)) ≡ text
    → out ++ flat_map line (places_from (place + 1) (drop (place + 1) won)) ≡ text
lines-lost line won place out text h is written =
    ap (λ (places : List ℕ). out ++ flat_map line places) (sym (places_from-drop won place false h is)) ∙ written
