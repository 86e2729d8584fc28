-- Places that listed edges join: one more, and where an edge is missing.
use Rattle.std.proofs.Common.{◌≡◌, ◌↔◌, ℕ, ◌+◌, ◌-◌, ◌<◌, List, [], ◌∷◌, ◌++◌, length, take, drop, get_or, refl, sym, ap, ◌∙◌, subst, arith}
use Rattle.std.proofs.lemmas.List.{drop_more, take-append-drop, take_all, take_more}
use Rattle.omega_game_values.specs.Game.{HasEdge, Node}
use Rattle.omega_game_values.specs.Paths.{IsPath}
use Rattle.omega_game_values.specs.Winning.{end_of}
use Rattle.omega_answers_walk.specs.Walk.{AreJoined}

-- the first of places and the others are all of them
pub all_joined : (nodes : List Node) (places : List ℕ) (P : Type 0) → 0 < length places
    → P ↔ IsPath nodes (get_or places 0 0) (take (length places - 1) (drop 1 places)) → P ↔ AreJoined nodes places
all_joined nodes [] P some said = absurd (omega (arith, some))
all_joined nodes (v ∷ ws) P some said =
    let whole : take (length (v ∷ ws) - 1) ws ≡ ws = take_all (length (v ∷ ws) - 1) ws (omega arith) in
    subst (λ (list : List ℕ). P ↔ IsPath nodes v list) whole said

module _ (nodes : List Node) where
  -- the end of places and one more
  end_push : (v : ℕ) (ws : List ℕ) (w : ℕ) → end_of v (ws ++ w ∷ []) ≡ w
  end_push v [] w = refl
  end_push v (u ∷ us) w = end_push u us w

  path_push : (v : ℕ) (ws : List ℕ) (w : ℕ) → IsPath nodes v ws → HasEdge nodes (end_of v ws) w → w < length nodes → IsPath nodes v (ws ++ w ∷ [])
  path_push v [] w path edge below = (edge, below)
  path_push v (u ∷ us) w path edge below = (path.0, path_push u us w path.1 edge below)

  -- a path ends at a node
  pub path_end : (v : ℕ) (ws : List ℕ) → IsPath nodes v ws → end_of v ws < length nodes
  path_end v [] path = path
  path_end v (w ∷ ws) path = path_end w ws path.1

  -- an edge of a path
  path_edge : (v : ℕ) (ws : List ℕ) (w : ℕ) (us : List ℕ) → IsPath nodes v (ws ++ w ∷ us) → HasEdge nodes (end_of v ws) w
  path_edge v [] w us path = path.0
  path_edge v (u ∷ ws) w us path = path_edge u ws w us path.1

  module _ (from : ℕ) (places : List ℕ) (i : ℕ) (inside : i < length places) where
    -- the place before this one is a node
    pub node_before : (at : ℕ) → IsPath nodes from (take i places) × (at ≡ end_of from (take i places)) → at < length nodes
    node_before at said = subst (λ (v : ℕ). v < length nodes) (sym said.1) (path_end from (take i places) said.0)

    -- one place more is joined
    pub one_joined : (at : ℕ) → IsPath nodes from (take i places) × (at ≡ end_of from (take i places)) → HasEdge nodes at (get_or places i 0)
        → get_or places i 0 < length nodes
        → IsPath nodes from (take (i + 1) places) × (get_or places i 0 ≡ end_of from (take (i + 1) places))
    one_joined at said edge below =
        let split = take_more places i 0 inside in (
          subst (IsPath nodes from) (sym split)
              (path_push from (take i places) (get_or places i 0) said.0 (subst (λ (v : ℕ). HasEdge nodes v (get_or places i 0)) said.1 edge) below),
          sym (ap (end_of from) split ∙ end_push from (take i places) (get_or places i 0)),
        )

    -- an edge of all places
    pub joined_there : (at : ℕ) → at ≡ end_of from (take i places) → IsPath nodes from places → HasEdge nodes at (get_or places i 0)
    joined_there at is path =
        let split : places ≡ take i places ++ get_or places i 0 ∷ drop (i + 1) places =
        sym (take-append-drop i places) ∙ ap (λ (list : List ℕ). take i places ++ list) (drop_more places i 0 inside) in
        subst (λ (v : ℕ). HasEdge nodes v (get_or places i 0)) (sym is)
        (path_edge from (take i places) (get_or places i 0) (drop (i + 1) places) (subst (IsPath nodes from) split path))
