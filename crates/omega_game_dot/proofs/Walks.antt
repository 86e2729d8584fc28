-- Walks of a given length, and their last edges.
use Rattle.std.proofs.Common.{◌≡◌, ◌⊎◌, inl, inr, ℕ, ◌+◌, ◌<◌, ◌≤◌, List, [], ◌∷◌, ◌++◌, length, Option, None, Some, refl, sym, subst, arith}
use Rattle.std.proofs.lemmas.List.{length_push}
use Rattle.omega_game_values.specs.Game.{Node, IsGame, HasEdge}
use Rattle.omega_game_values.specs.Paths.{IsPath, Reaches}
use Rattle.omega_game_values.specs.Winning.{end_of}
use Rattle.omega_game_dot.specs.Extent.{IsNear, ReachesWithin}

-- a walk goes on along an edge
walk_on : (nodes : List Node) (v w : ℕ) (us : List ℕ) → IsGame nodes → IsPath nodes v us → HasEdge nodes (end_of v us) w → IsPath nodes v (us ++ w ∷ [])
walk_on nodes v w [] game path edge = (edge, game.closed v w edge)
walk_on nodes v w (u ∷ us) game path edge = (path.0, walk_on nodes u w us game path.1 edge)

-- and ends at the target of the edge
end_on : (v w : ℕ) (us : List ℕ) → end_of v (us ++ w ∷ []) ≡ w
end_on v w [] = refl
end_on v w (u ∷ us) = end_on u w us

-- what an edge leads to is reached by one edge more
pub within_on : (nodes : List Node) (steps v u w : ℕ) → IsGame nodes → ReachesWithin nodes steps v u → HasEdge nodes u w → ReachesWithin nodes (steps + 1) v w
within_on nodes steps v u w game reaches edge = record {
  walk = record {
    path = reaches.walk.path ++ w ∷ [];
    joined = walk_on nodes v w reaches.walk.path game reaches.walk.joined (subst (λ x. HasEdge nodes x w) (sym reaches.walk.ends) edge);
    ends = end_on v w reaches.walk.path;
  };
  short = omega (arith, reaches.short, length_push reaches.walk.path w);
}

-- a node is reached by no edge
pub within_none : (nodes : List Node) (v : ℕ) → v < length nodes → ReachesWithin nodes 0 v v
within_none nodes v node = record { walk = record { path = []; joined = node; ends = refl }; short = omega arith }

-- what is reached by no edge is the node itself
pub none_within : (nodes : List Node) (v w : ℕ) → ReachesWithin nodes 0 v w → v ≡ w
none_within nodes v w reaches = go reaches.walk.path reaches.walk.ends reaches.short
  where
    go : (path : List ℕ) → end_of v path ≡ w → length path ≤ 0 → v ≡ w
    go [] ends short = ends
    go (u ∷ us) ends short = absurd (omega (arith, short))

-- a walk and its last edge
pub record IsLed (nodes : List Node) (steps v w : ℕ) : Type 0 where
  pub before : ℕ
  pub reached : ReachesWithin nodes steps v before
  pub edge : HasEdge nodes before w

-- a walk of some edge has a last one
last_edge : (nodes : List Node) (v u : ℕ) (us : List ℕ) → IsGame nodes → v < length nodes → IsPath nodes v (u ∷ us)
    → (ws : List ℕ) × IsPath nodes v ws × HasEdge nodes (end_of v ws) (end_of u us) × (length ws ≡ length us)
last_edge nodes v u [] game node path = ([], node, path.0, refl)
last_edge nodes v u (x ∷ us) game node path =
    let back = last_edge nodes u x us game (game.closed v u path.0) path.1 in
    (u ∷ back.0, (path.0, back.1), back.2, omega (arith, back.3))

-- what is reached by one edge more is reached by fewer, or by an edge from what is
pub within_back : (nodes : List Node) (steps v w : ℕ) → IsGame nodes → v < length nodes → ReachesWithin nodes (steps + 1) v w
    → ReachesWithin nodes steps v w ⊎ IsLed nodes steps v w
within_back nodes steps v w game node reaches = go reaches.walk.path reaches.walk.joined reaches.walk.ends reaches.short
  where
    go : (path : List ℕ) → IsPath nodes v path → end_of v path ≡ w → length path ≤ steps + 1
        → ReachesWithin nodes steps v w ⊎ IsLed nodes steps v w
    go [] joined ends short = inl (record { walk = record { path = []; joined = joined; ends = ends }; short = omega arith })
    go (u ∷ us) joined ends short =
        let back = last_edge nodes v u us game node joined in
        inr (record {
          before = end_of v back.0;
          reached = record { walk = record { path = back.0; joined = back.1; ends = refl }; short = omega (arith, back.3, short) };
          edge = subst (λ x. HasEdge nodes (end_of v back.0) x) ends back.2;
        })

-- what holds of a node, and along each edge, holds of what it reaches
pub all_along : (nodes : List Node) (Holds : ℕ → Type 0) → ((v w : ℕ) → Holds v → HasEdge nodes v w → Holds w) → (v w : ℕ) → Holds v → Reaches nodes v w → Holds w
all_along nodes Holds onward v w holds reaches = subst Holds reaches.ends (go v reaches.path holds reaches.joined)
  where
    go : (u : ℕ) (path : List ℕ) → Holds u → IsPath nodes u path → Holds (end_of u path)
    go u [] here path = here
    go u (x ∷ xs) here path = go x xs (onward u x here path.0) path.1

-- what is near is reached
pub near_reached : (nodes : List Node) (depth : Option ℕ) (v w : ℕ) → IsNear nodes depth v w → Reaches nodes v w
near_reached nodes None v w near = near
near_reached nodes (Some depth) v w near = near.walk
