-- The ways on which a search in breadth met places are low paths, and those that come back are cycles of a walk.
use Rattle.std.proofs.Common.{◌≡◌, ℕ, ◌<◌, ◌≤◌, ◌⊎◌, inl, inr, Option, Some, List, [], ◌∷◌, ◌++◌, length, get_or, Contains, refl, sym, ◌∙◌, ap, subst, arith, append_assoc, reverse}
use Rattle.std.proofs.lemmas.Bool.{cases_lt}
use Rattle.std.proofs.lemmas.List.{get_or_default, reverse-append}
use Rattle.omega_game_values.specs.Game.{Node, priority_at}
use Rattle.omega_game_reaching.specs.Reaching.{left_at}
use Rattle.omega_game_reaching.proofs.Marking.{path_on, end_on}
use Rattle.omega_game.specs.private.refuting.Ways.{origin_at, IsTree, IsWay, root, onward, LeadsTo}

module _ (nodes : List Node) (choices : List (Option ℕ)) (most : ℕ) (places met : List ℕ) (origins : List (Option ℕ)) (tree : IsTree nodes choices most places met origins) where
  -- a way in the tree is a low path from one of the places
  pub way_leads : (i : ℕ) (before : List ℕ) → i < length met → IsWay met origins i before → LeadsTo nodes choices most places (get_or met i 0) before
  way_leads i before within (root _ is) = record {
    reached = record { start = get_or met i 0; listed = (tree.each i within).root is; after = []; path = (tree.each i within).low; ends = refl };
    whole = refl;
  }
  way_leads i before within (onward _ b earlier is way) =
      further (way_leads b earlier (omega (arith, (tree.each i within).before b is)) way) ((tree.each i within).edge b is) (tree.each i within).low
    where
      further : LeadsTo nodes choices most places (get_or met b 0) earlier → Contains (left_at nodes choices (get_or met b 0)) (get_or met i 0)
          → priority_at nodes (get_or met i 0) ≤ most → LeadsTo nodes choices most places (get_or met i 0) (earlier ++ get_or met b 0 ∷ [])
      further leads edge low = record {
        reached = record {
          start = leads.reached.start;
          listed = leads.reached.listed;
          after = leads.reached.after ++ get_or met i 0 ∷ [];
          path = path_on nodes choices most leads.reached.start leads.reached.after (get_or met b 0) (get_or met i 0) leads.reached.path leads.reached.ends edge low;
          ends = end_on nodes choices most leads.reached.start leads.reached.after (get_or met i 0);
        };
        whole = ap (λ xs. xs ++ get_or met i 0 ∷ []) leads.whole;
      }

-- going back from an index to its origin puts the origin's place before the way so far
pub way_back_on : (met : List ℕ) (origins : List (Option ℕ)) (index i b : ℕ) (before before' : List ℕ) → origin_at origins i ≡ Some b
    → ((front : List ℕ) → IsWay met origins i front → IsWay met origins index (front ++ reverse before)) → before' ≡ before ++ get_or met b 0 ∷ []
    → (front : List ℕ) → IsWay met origins b front → IsWay met origins index (front ++ reverse before')
way_back_on met origins index i b before before' is so_far pushed front way =
    subst (λ ws. IsWay met origins index ws) joined (so_far (front ++ get_or met b 0 ∷ []) (onward i b front is way))
  where
    joined : (front ++ get_or met b 0 ∷ []) ++ reverse before ≡ front ++ reverse before'
    joined = append_assoc front (get_or met b 0 ∷ []) (reverse before) ∙ ap (λ ws. front ++ ws) (sym (reverse-append before (get_or met b 0 ∷ [])) ∙ ap reverse (sym pushed))

-- a place that is met and was not found before an index is found from there on
pub found_after : (met : List ℕ) (v i : ℕ) → Contains met v → ((k : ℕ) → k < i → get_or met k 0 ≡ v → ⊥) → i < length met
found_after met v i contained none = go (cases_lt contained.0 i)
  where
    go : (contained.0 < i) ⊎ (i ≤ contained.0) → i < length met
    go (inl before) = absurd (none contained.0 before (get_or_default met contained.0 0 v contained.1 ∙ contained.2))
    go (inr past) = omega (arith, contained.1)
