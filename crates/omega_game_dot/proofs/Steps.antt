-- The steps of a lasso: one more, and those along places and on to others.
use Rattle.std.proofs.Common.{◌≡◌, ℕ, ◌+◌, ◌-◌, ◌<◌, ◌≤◌, ◌==◌, ◌&&◌, ◌||◌, Bool, true, false, cond, List, [], ◌∷◌, ◌++◌, length, take, drop, get_or, refl, sym, ap, ◌∙◌, subst, eqb-true, arith}
use Rattle.std.specs.List.{list_any}
use Rattle.std.proofs.lemmas.List.{take_all, take_more}
use Rattle.std.proofs.lemmas.List.Folds.{list_any-append}
use Rattle.omega_game_values.specs.Winning.{end_of}
use Rattle.omega_game_dot.specs.Roles.{is_step, steps_along, steps_from}
use Rattle.omega_game_dot.specs.private.Marking.{AddsSteps}

abbrev Step : Type 0
Step = ℕ × ℕ

-- whether two steps are the same
abbrev same_step : Step → Step → Bool
same_step a b = (a.0 == b.0) && (a.1 == b.1)

-- the steps along places and then along others
steps_on : (v : ℕ) (ws us : List ℕ) → steps_from v (ws ++ us) ≡ steps_from v ws ++ steps_from (end_of v ws) us
steps_on v [] us = refl
steps_on v (w ∷ ws) us = ap (λ (list : List Step). (v, w) ∷ list) (steps_on w ws us)

-- where they end
end_on : (v : ℕ) (ws us : List ℕ) → end_of v (ws ++ us) ≡ end_of (end_of v ws) us
end_on v [] us = refl
end_on v (w ∷ ws) us = end_on w ws us

-- whether two numbers are the same does not depend on their order
flip : (x y : ℕ) → (x == y) ≡ (y == x)
flip x y = go (x == y) (y == x) refl refl
  where
    go : (b c : Bool) → (x == y) ≡ b → (y == x) ≡ c → (x == y) ≡ (y == x)
    go true c e f = subst (λ (z : ℕ). (x == z) ≡ (z == x)) (eqb-true x y e) refl
    go false true e f = subst (λ (z : ℕ). (z == y) ≡ (y == z)) (eqb-true y x f) refl
    go false false e f = e ∙ sym f

-- what is found at last or before
shuffle : (x y b : Bool) → cond b true (x || y) ≡ (x || (y || (b || false)))
shuffle true y true = refl
shuffle true y false = refl
shuffle false true true = refl
shuffle false true false = refl
shuffle false false true = refl
shuffle false false false = refl

-- a step more is added
pub step_more : (from : ℕ) (places : List ℕ) (i at : ℕ) (before so_far after : List Step) → i < length places
    → AddsSteps from (take i places) before so_far × (at ≡ end_of from (take i places))
    → ((q : Step) → list_any (same_step q) after ≡ cond (same_step (at, get_or places i 0) q) true (list_any (same_step q) so_far))
    → AddsSteps from (take (i + 1) places) before after × (get_or places i 0 ≡ end_of from (take (i + 1) places))
step_more from places i at before so_far after inside said inserted = (
  (λ v w. added v w),
  sym (ap (end_of from) (take_more places i 0 inside) ∙ end_on from (take i places) (get_or places i 0 ∷ [])),
)
  where
    added : (v w : ℕ) → is_step v w after ≡ (is_step v w before || is_step v w (steps_from from (take (i + 1) places)))
    added v w =
        let ws = take i places in
        let place = get_or places i 0 in
        let x = is_step v w before in
        let y = is_step v w (steps_from from ws) in
        let b = (at == v) && (place == w) in
        let same : b ≡ ((v == end_of from ws) && (w == place)) =
        ap (λ (n : ℕ). (n == v) && (place == w)) said.1
        ∙ ap (λ (t : Bool). t && (place == w)) (flip (end_of from ws) v) ∙ ap (λ (t : Bool). (v == end_of from ws) && t) (flip place w) in
        inserted (v, w) ∙ ap (cond b true) (said.0 v w) ∙ shuffle x y b
        ∙ ap (λ (t : Bool). x || (y || (t || false))) same
        ∙ ap (λ (t : Bool). x || t) (sym (list_any-append (same_step (v, w)) (steps_from from ws) ((end_of from ws, place) ∷ [])))
        ∙ ap (λ (list : List Step). x || is_step v w list) (sym (ap (steps_from from) (take_more places i 0 inside) ∙ steps_on from ws (place ∷ [])))

-- the steps from the first of places along the others and on to more
pub steps_of_all : (places last : List ℕ) → 0 < length places
    → steps_from (get_or places 0 0) (take (length places - 1) (drop 1 places) ++ last) ≡ steps_along (places ++ last)
steps_of_all [] last some = absurd (omega (arith, some))
steps_of_all (v ∷ ws) last some =
    let whole : take (length (v ∷ ws) - 1) ws ≡ ws = take_all (length (v ∷ ws) - 1) ws (omega arith) in
    ap (λ (list : List ℕ). steps_from v (list ++ last)) whole

-- at most one place has no steps
pub none_along : (last : List ℕ) → length last ≤ 1 → steps_along last ≡ []
none_along [] few = refl
none_along (v ∷ []) few = refl
none_along (v ∷ w ∷ ws) few = absurd (omega (arith, few))

-- the steps along places and on to the last are added to none
pub steps_added : (first : ℕ) (others last : List ℕ) (end : ℕ) (before mid after : List Step) → before ≡ [] → end ≡ end_of first others
    → AddsSteps first others before mid → AddsSteps end last mid after
    → (v w : ℕ) → is_step v w after ≡ is_step v w (steps_from first (others ++ last))
steps_added first others last end before mid after empty is one two v w =
    two v w
    ∙ ap (λ (t : Bool). t || is_step v w (steps_from end last)) (one v w ∙ ap (λ (list : List Step). is_step v w list || is_step v w (steps_from first others)) empty)
    ∙ ap (λ (n : ℕ). is_step v w (steps_from first others) || is_step v w (steps_from n last)) is
    ∙ sym (list_any-append (same_step (v, w)) (steps_from first others) (steps_from (end_of first others) last))
    ∙ ap (is_step v w) (sym (steps_on first others last))
