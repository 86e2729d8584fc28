-- A strategy wins if it can be followed in another game in which a strategy wins.
use Rattle.std.proofs.Common.{◌≡◌, ℕ, ◌<◌, List, [], ◌∷◌, length, map, max, Option, IsTrue, refl, ap, ap₂, subst, ◌∙◌, arith}
use Rattle.std.proofs.lemmas.List.{length-map}
use Rattle.omega_game_values.specs.declared.player.Player.{Player}
use Rattle.omega_game_values.specs.Game.{Node, priority_at}
use Rattle.omega_game_values.specs.Winning.{Leaves, IsWalk, Wins, end_of, greatest_on}
use Rattle.omega_game_values.specs.Player.{loses}

-- each edge that the first strategy leaves possible at a node of the set has an image that the second leaves possible
pub record IsMirror (nodes : List Node) (player : Player) (choices : List (Option ℕ))
    (others : List Node) (replies : List (Option ℕ)) (In : ℕ → Type 0) (image : ℕ → ℕ) : Type 0 where
  pub stays : (v w : ℕ) → In v → Leaves nodes player choices v w → In w
  pub left : (v w : ℕ) → In v → Leaves nodes player choices v w → Leaves others player replies (image v) (image w)
  pub priority : (v : ℕ) → In v → priority_at nodes v ≡ priority_at others (image v)
  pub node : (v : ℕ) → In v → image v < length others

-- the image of a list of places ends in the image of its end
pub end-map : (image : ℕ → ℕ) (v : ℕ) (ws : List ℕ) → end_of (image v) (map image ws) ≡ image (end_of v ws)
end-map image v [] = refl
end-map image v (w ∷ ws) = end-map image w ws

module _ (nodes : List Node) (player : Player) (choices : List (Option ℕ))
    (others : List Node) (replies : List (Option ℕ)) (In : ℕ → Type 0) (image : ℕ → ℕ)
    (mirror : IsMirror nodes player choices others replies In image) where
  -- the image of a walk is a walk
  image_walk : (v : ℕ) (ws : List ℕ) → In v → IsWalk nodes player choices v ws → IsWalk others player replies (image v) (map image ws)
  image_walk v [] here walk = mirror.node v here
  image_walk v (w ∷ ws) here walk = (mirror.left v w here walk.0, image_walk w ws (mirror.stays v w here walk.0) walk.1)

  -- a walk stays in the set
  stays_along : (v : ℕ) (ws : List ℕ) → In v → IsWalk nodes player choices v ws → In (end_of v ws)
  stays_along v [] here walk = here
  stays_along v (w ∷ ws) here walk = stays_along w ws (mirror.stays v w here walk.0) walk.1

  -- the image has the same greatest priority
  greatest_image : (v : ℕ) (ws : List ℕ) → In v → IsWalk nodes player choices v ws
      → greatest_on nodes v ws ≡ greatest_on others (image v) (map image ws)
  greatest_image v [] here walk = mirror.priority v here
  greatest_image v (w ∷ ws) here walk =
      ap₂ max (mirror.priority v here) (greatest_image w ws (mirror.stays v w here walk.0) walk.1)

  -- so the strategy wins wherever the other wins from the image
  pub wins_by_mirror : (v : ℕ) → In v → Wins others player replies (image v) → Wins nodes player choices v
  wins_by_mirror v here wins there around walk closed lost =
      let arrives : end_of (image v) (map image there) ≡ image (end_of v there) = end-map image v there in
      let start = stays_along v there here walk in
      wins (map image there) (map image around) (image_walk v there here walk)
      (rw arrives (record {
        walk = image_walk (end_of v there) around start closed.walk;
        longer = omega (arith, closed.longer, length-map around image);
        closed = end-map image (end_of v there) around ∙ ap image closed.closed;
      }))
      (rw arrives (subst (λ q. IsTrue (loses player q)) (greatest_image (end_of v there) around start closed.walk) lost))
