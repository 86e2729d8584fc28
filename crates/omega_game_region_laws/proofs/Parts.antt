-- Strategies carried over between a part and the game, both ways, so that regions agree.
use Rattle.std.proofs.Common.{◌≡◌, ◌↔◌, ◌==◌, ℕ, ◌<◌, List, length, Contains, slice_index, position, option_map, Option, Some, None, refl, sym, ap, ◌∙◌, subst, subst₂, eqb-true}
use Rattle.std.proofs.lemmas.List.Elements.{Contains-get_or}
use Rattle.std.proofs.lemmas.List.Quantifiers.{position-Some}
use Rattle.omega_game_values.specs.declared.player.Player.{Player}
use Rattle.omega_game_values.specs.Game.{Node, HasEdge, owner_at, priority_at}
use Rattle.omega_game_values.specs.Laws.{ChoicesAreEntries}
use Rattle.omega_game_values.specs.Places.{new_place}
use Rattle.omega_game_reaching.specs.Part.{KeepsNodes}
use Rattle.omega_game_values.specs.Winning.{IsStrategy, Chooses, Wins, InRegion, choice_at}
use Rattle.omega_game_region_laws.proofs.Choices.{entries_of, length_entries, mapped_choice, picked, picks}
use Rattle.omega_game_region_laws.proofs.Mirrors.{IsMirror, wins_by_mirror}

module _ (nodes part : List Node) (kept : List ℕ) (keeps : KeepsNodes nodes kept part) (entries : ChoicesAreEntries) where
  -- a choice of a strategy of the part, as a choice between nodes of the game
  abbrev outward : List (Option ℕ) → Option ℕ → Option ℕ
  outward choices None = None
  outward choices (Some k) = option_map (slice_index kept) (choice_at choices k)

  -- the choice at a kept node
  abbrev outward_at : List (Option ℕ) → ℕ → Option ℕ
  outward_at choices u = outward choices (position (λ x. x == u) kept)

  -- where an outward choice comes from
  record IsOutward (choices : List (Option ℕ)) (u w : ℕ) : Type 0 where
    place : ℕ
    below : place < length kept
    at : slice_index kept place ≡ u
    target : ℕ
    chosen : Chooses choices place target
    is : w ≡ slice_index kept target

  -- each outward choice comes from one of the part
  outward_from : (choices : List (Option ℕ)) (u w : ℕ) → outward_at choices u ≡ Some w → IsOutward choices u w
  outward_from choices u w is = go (position (λ x. x == u) kept) refl is
    where
      go : (place : Option ℕ) → position (λ x. x == u) kept ≡ place → outward choices place ≡ Some w → IsOutward choices u w
      go None at none = absurd (cc)
      go (Some k) at some =
          let here = position-Some (λ x. x == u) kept k 0 at in
          let chosen = mapped_choice (slice_index kept) (choice_at choices k) w some in
          record {
            place = k;
            below = here.0;
            at = eqb-true _ _ here.1;
            target = chosen.0;
            chosen = (entries choices k chosen.0).1 chosen.1;
            is = chosen.2;
          }

  -- and each choice of the part goes outward
  outward_to : (choices : List (Option ℕ)) (u c : ℕ) → Contains kept u → Chooses choices (new_place kept u) c
      → outward_at choices u ≡ Some (slice_index kept c)
  outward_to choices u c contained chose =
      ap (outward choices) (keeps.stands u contained).found
      ∙ ap (option_map (slice_index kept)) ((entries choices (new_place kept u) c).0 chose)

  -- outward, a strategy of the part is one of the game
  outward_strategy : (player : Player) (choices : List (Option ℕ)) → IsStrategy part player choices
      → IsStrategy nodes player (entries_of (outward_at choices) (length nodes))
  outward_strategy player choices strategy = record {
    entries = length_entries (outward_at choices) (length nodes);
    owned = λ u w chose.
        let from = outward_from choices u w (picked (outward_at choices) (length nodes) u w chose).1 in
        subst (λ x. owner_at nodes x ≡ player) from.at
        (sym (keeps.owner from.place from.below) ∙ strategy.owned from.place from.target from.chosen);
    listed = λ u w chose.
        let from = outward_from choices u w (picked (outward_at choices) (length nodes) u w chose).1 in
        subst₂ (HasEdge nodes) from.at (sym from.is) (keeps.edge_back from.place from.target from.below (strategy.listed from.place from.target from.chosen));
  }

  -- what the outward strategy leaves possible between kept nodes, the strategy leaves possible in the part
  outward_mirror : (player : Player) (choices : List (Option ℕ)) → IsStrategy part player choices
      → IsMirror nodes player (entries_of (outward_at choices) (length nodes)) part choices (Contains kept) (new_place kept)
  outward_mirror player choices strategy = record {
    stays = λ u w contained left. keeps.onward u w contained left.listed;
    left = λ u w contained left.
        let place = keeps.stands u contained in
        record {
          listed = keeps.edge (new_place kept u) w place.below (rw place.holds left.listed);
          chosen = λ own c chose.
              let own_outside : owner_at nodes u ≡ player =
              subst (λ x. owner_at nodes x ≡ player) place.holds (sym (keeps.owner (new_place kept u) place.below) ∙ own) in
              let is : w ≡ slice_index kept c =
              left.chosen own_outside (slice_index kept c)
              (picks (outward_at choices) (length nodes) u (slice_index kept c) (keeps.inside u contained) (outward_to choices u c contained chose)) in
              let inside : c < length kept =
              keeps.target (new_place kept u) c place.below (strategy.listed (new_place kept u) c chose) in
              ap (new_place kept) is ∙ keeps.back c inside;
        };
    priority = λ u contained.
        let place = keeps.stands u contained in
        sym (keeps.priority (new_place kept u) place.below ∙ ap (priority_at nodes) place.holds);
    node = λ u contained. rw keeps.count (keeps.stands u contained).below;
  }

  -- a region of the part lies in that of the game
  region_outward : (player : Player) (k : ℕ) → k < length kept → InRegion part player k → InRegion nodes player (slice_index kept k)
  region_outward player k below region = record {
    node = keeps.inside (slice_index kept k) (Contains-get_or kept k 0 below);
    choices = entries_of (outward_at region.choices) (length nodes);
    strategy = outward_strategy player region.choices region.strategy;
    wins = wins_by_mirror nodes player (entries_of (outward_at region.choices) (length nodes)) part region.choices (Contains kept) (new_place kept)
        (outward_mirror player region.choices region.strategy) (slice_index kept k) (Contains-get_or kept k 0 below)
        (subst (Wins part player region.choices) (sym (keeps.back k below)) region.wins);
  }

  -- a choice of a strategy of the game, as a choice between places of the part
  abbrev inward_at : List (Option ℕ) → ℕ → Option ℕ
  inward_at choices k = option_map (new_place kept) (choice_at choices (slice_index kept k))

  -- inward, a strategy of the game is one of the part
  inward_strategy : (player : Player) (choices : List (Option ℕ)) → IsStrategy nodes player choices
      → IsStrategy part player (entries_of (inward_at choices) (length part))
  inward_strategy player choices strategy = record {
    entries = length_entries (inward_at choices) (length part);
    owned = λ k w chose.
        let at = picked (inward_at choices) (length part) k w chose in
        let below : k < length kept = rw (← keeps.count) at.0 in
        let from = mapped_choice (new_place kept) (choice_at choices (slice_index kept k)) w at.1 in
        keeps.owner k below ∙ strategy.owned (slice_index kept k) from.0 ((entries choices (slice_index kept k) from.0).1 from.1);
    listed = λ k w chose.
        let at = picked (inward_at choices) (length part) k w chose in
        let below : k < length kept = rw (← keeps.count) at.0 in
        let from = mapped_choice (new_place kept) (choice_at choices (slice_index kept k)) w at.1 in
        rw from.2 (keeps.edge k from.0 below
        (strategy.listed (slice_index kept k) from.0 ((entries choices (slice_index kept k) from.0).1 from.1)));
  }

  -- what the inward strategy leaves possible, the strategy leaves possible between the kept nodes
  inward_mirror : (player : Player) (choices : List (Option ℕ)) → IsStrategy nodes player choices
      → IsMirror part player (entries_of (inward_at choices) (length part)) nodes choices (λ k. k < length kept) (slice_index kept)
  inward_mirror player choices strategy = record {
    stays = λ k j below left. keeps.target k j below left.listed;
    left = λ k j below left. record {
      listed = keeps.edge_back k j below left.listed;
      chosen = λ own c chose.
          let is : j ≡ new_place kept c =
          left.chosen (keeps.owner k below ∙ own) (new_place kept c)
          (picks (inward_at choices) (length part) k (new_place kept c) (rw keeps.count below)
          (ap (option_map (new_place kept)) ((entries choices (slice_index kept k) c).0 chose))) in
          let contained : Contains kept c =
          keeps.onward (slice_index kept k) c (Contains-get_or kept k 0 below) (strategy.listed (slice_index kept k) c chose) in
          ap (slice_index kept) is ∙ (keeps.stands c contained).holds;
    };
    priority = λ k below. keeps.priority k below;
    node = λ k below. keeps.inside (slice_index kept k) (Contains-get_or kept k 0 below);
  }

  -- the region of the game, within the part, is that of the part
  region_inward : (player : Player) (k : ℕ) → k < length kept → InRegion nodes player (slice_index kept k) → InRegion part player k
  region_inward player k below region = record {
    node = rw keeps.count below;
    choices = entries_of (inward_at region.choices) (length part);
    strategy = inward_strategy player region.choices region.strategy;
    wins = wins_by_mirror part player (entries_of (inward_at region.choices) (length part)) nodes region.choices (λ k. k < length kept) (slice_index kept)
        (inward_mirror player region.choices region.strategy) k below region.wins;
  }

  -- the regions agree at each place of the part
  pub regions_of_part : (player : Player) (k : ℕ) → k < length kept → InRegion part player k ↔ InRegion nodes player (slice_index kept k)
  regions_of_part player k below = (region_outward player k below, region_inward player k below)
