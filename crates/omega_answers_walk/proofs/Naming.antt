-- Places of nodes that are named by identifiers: one more, none, and no others.
use Rattle.std.proofs.Common.{◌≡◌, ℕ, ◌+◌, ◌<◌, List, [], ◌∷◌, ◌++◌, length, take, get_or, sym, ap, ◌∙◌, arith}
use Rattle.std.proofs.lemmas.List.{get_or-map, length-map, map-append, same_lists, take_more}
use Rattle.std.proofs.lemmas.List.Elements.{All-append, All-cons, All-nil}
use Rattle.omega_game_values.specs.Game.{IsGame, Node, identifier_at, identifiers, no_node}
use Rattle.omega_game_values.proofs.elements.Membership.{same_place}
use Rattle.omega_answers_game.specs.Part.{HasIdentifier, IsUnknownIdentifier}
use Rattle.omega_answers_walk.specs.Walk.{AreNamed}

module _ (nodes : List Node) where
  -- one more
  pub one_named : (ids places : List ℕ) (i place : ℕ) → i < length ids → AreNamed nodes (take i ids) places → HasIdentifier nodes (get_or ids i 0) place
      → AreNamed nodes (take (i + 1) ids) (places ++ place ∷ [])
  one_named ids places i place inside named has = record {
    inside = All-append (λ (v : ℕ). v < length nodes) places (place ∷ []) named.inside
        (All-cons (λ (v : ℕ). v < length nodes) place [] has.node (All-nil (λ (v : ℕ). v < length nodes)));
    named = map-append (identifier_at nodes) places (place ∷ []) ∙ ap (λ (list : List ℕ). list ++ identifier_at nodes place ∷ []) named.named
        ∙ ap (λ (n : ℕ). take i ids ++ n ∷ []) has.identified ∙ sym (take_more ids i 0 inside);
  }

  -- none
  pub none_named : (ids : List ℕ) (i : ℕ) → i < length ids → IsUnknownIdentifier nodes (get_or ids i 0) → (places : List ℕ) → AreNamed nodes ids places → ⊥
  none_named ids i inside unknown places named =
      let below : i < length places = omega (arith, inside, ap length named.named, length-map places (identifier_at nodes)) in
      unknown (get_or places i 0) (record {
        node = named.inside i 0 below;
        identified = sym (get_or-map (identifier_at nodes) places i 0 0 below) ∙ ap (λ (list : List ℕ). get_or list i 0) named.named;
      })

  -- a node of a game has its identifier alone
  same_node : IsGame nodes → (v w : ℕ) → v < length nodes → w < length nodes → identifier_at nodes v ≡ identifier_at nodes w → v ≡ w
  same_node game v w v_below w_below same =
      let count = length-map nodes (λ (node : Node). node.identifier) in
      same_place (identifiers nodes) v w game.rising (omega (arith, count, v_below)) (omega (arith, count, w_below))
      (get_or-map (λ (node : Node). node.identifier) nodes v no_node 0 v_below ∙ same
      ∙ sym (get_or-map (λ (node : Node). node.identifier) nodes w no_node 0 w_below))

  -- and no others
  pub named_once : IsGame nodes → (ids one other : List ℕ) → AreNamed nodes ids one → AreNamed nodes ids other → one ≡ other
  named_once game ids one other first second =
      let lengths : length one ≡ length other =
      omega (arith, ap length first.named, ap length second.named, length-map one (identifier_at nodes), length-map other (identifier_at nodes)) in
      same_lists one other lengths
      (λ k d below.
      let there : k < length other = omega (arith, below, lengths) in
      same_node game (get_or one k d) (get_or other k d) (first.inside k d below) (second.inside k d there)
      (sym (get_or-map (identifier_at nodes) one k d 0 below) ∙ ap (λ (list : List ℕ). get_or list k 0) (first.named ∙ sym second.named)
      ∙ get_or-map (identifier_at nodes) other k d 0 there))
