-- The places of starts: the place that an identifier has is the only one, and no start is left out.
use Rattle.std.proofs.Common.{◌≡◌, ◌==◌, ℕ, ◌<◌, Bool, true, false, List, [], ◌∷◌, length, get_or, Contains, None, Some, position, slice_get, sym, ap, ◌∙◌, subst, arith, eqb-true}
use Rattle.std.proofs.lemmas.List.{get_or-map, length-map}
use Rattle.std.proofs.lemmas.List.Quantifiers.{position-Some}
use Rattle.std.proofs.lemmas.Option.{get_or_from_slice_get, none-some, slice_get-get_or}
use Rattle.omega_hoa_automaton.specs.Automaton.{Description}
use Rattle.omega_game_values.proofs.elements.Membership.{place_of_contained}
use Rattle.omega_game_values.specs.Game.{IsGame, Node, identifier_at, identifiers, no_node}
use Rattle.omega_empty.specs.private.layout.Following.{HasNoWonStart, IsWonAt}
use Rattle.omega_empty.proofs.playing.Places.{same_place}

-- the identifier at a place
identified : (game : List Node) (v d : ℕ) → v < length game → get_or (identifiers game) v d ≡ identifier_at game v
identified game v d below = get_or-map (λ (node : Node). node.identifier) game v no_node d below

-- a place that is found has the identifier
place_found : (game : List Node) (id v : ℕ) → position (λ x. x == id) (identifiers game) ≡ Some v → (v < length game) × (identifier_at game v ≡ id)
place_found game id v here =
    let found = position-Some (λ x. x == id) (identifiers game) v 0 here in
    let below : v < length game = omega (arith, found.0, length-map game (λ (node : Node). node.identifier)) in
    (below, sym (identified game v 0 below) ∙ eqb-true (get_or (identifiers game) v 0) id found.1)

-- if none is found no node has it
pub none_found : (game : List Node) (won : List Bool) (id v : ℕ) → None ≡ position (λ x. x == id) (identifiers game) → IsWonAt game won id v → ⊥
none_found game won id v nowhere at =
    let within : Contains (identifiers game) id =
    (v, omega (arith, at.node, length-map game (λ (node : Node). node.identifier)), identified game v id at.node ∙ at.named) in
    none-some _ (nowhere ∙ (place_of_contained (identifiers game) id within).found)

-- one that is found is won or not
pub found_won : (game : List Node) (won : List Bool) (id v : ℕ) (d : Bool) → length won ≡ length game → Some v ≡ position (λ x. x == id) (identifiers game)
    → get_or won v d ≡ true → IsWonAt game won id v
found_won game won id v d entries here marked =
    let found = place_found game id v (sym here) in
    let within : v < length won = omega (arith, found.0, entries) in
    record {
      node = found.0;
      named = found.1;
      is_won = slice_get-get_or won v d within ∙ ap (λ (b : Bool). Some b) marked;
    }

pub found_lost : (game : List Node) (won : List Bool) (id v w : ℕ) (d : Bool) → IsGame game → Some v ≡ position (λ x. x == id) (identifiers game)
    → get_or won v d ≡ false → IsWonAt game won id w → ⊥
found_lost game won id v w d is here unmarked at =
    let found = place_found game id v (sym here) in
    let one : w ≡ v = same_place game w v is.rising at.node found.0 (at.named ∙ sym found.1) in
    let there : slice_get won v ≡ Some true = subst (λ n. slice_get won n ≡ Some true) one at.is_won in
    apart (sym (get_or_from_slice_get won v true d there) ∙ unmarked)
  where
    apart : true ≡ false → ⊥
    apart e = cc

-- no start among the first ones is won
abbrev pub NoneWon : Description → List Node → List Bool → ℕ → Type 0
NoneWon a game won k = (i : ℕ) → i < k → (start v : ℕ) → get_or a.starts i (start ∷ []) ≡ start ∷ [] → IsWonAt game won start v → ⊥

-- once each start is among them, no start is won
pub all_lost : (a : Description) (game : List Node) (won : List Bool) → NoneWon a game won (length a.starts) → HasNoWonStart a game won
all_lost a game won none start v begins at = none begins.0 begins.1 start v begins.2 at
