-- A strategy that wins, with a choice at each place of its player: where it has none, the first successor.
use Rattle.std.proofs.Common.{◌≡◌, ℕ, ◌+◌, ◌<◌, Bool, true, false, cond, List, [], ◌∷◌, length, map, get_or, Contains, Option, Some, None, slice_get, sym, ap, refl, ◌∙◌, subst, arith}
use Rattle.std.specs.List.{range_with_len}
use Rattle.std.proofs.lemmas.List.FromFn.{get_or-map-range_with_len, length-map-range_with_len}
use Rattle.std.proofs.lemmas.Option.{get_or_from_slice_get, slice_get-get_or, slice_get_within}
use Rattle.omega_game_values.specs.Game.{HasEdge, IsGame, Node, owner_at, successors_at}
use Rattle.omega_game_values.specs.Winning.{Chooses, InRegion, IsClosedWalk, IsStrategy, IsWalk, Leaves, Wins, choice_at}
use Rattle.omega_game_values.specs.declared.player.Player.{Player}
use Rattle.omega_game_values.specs.declared.player.Player.TheVariants.{One, Zero}
use Rattle.omega_synth_rounds.specs.Extracting.{IsWinningFrom}

same_player : Player → Player → Bool
same_player Zero Zero = true
same_player One One = true
same_player Zero One = false
same_player One Zero = false

same_is : (one other : Player) → same_player one other ≡ true → one ≡ other
unfolding same_player
same_is Zero Zero is = refl
same_is One One is = refl
same_is Zero One is = absurd (cc)
same_is One Zero is = absurd (cc)

is_same : (one other : Player) → one ≡ other → same_player one other ≡ true
unfolding same_player
is_same Zero Zero is = refl
is_same One One is = refl
is_same Zero One is = absurd (cc)
is_same One Zero is = absurd (cc)

-- the choice, or the first successor for a place of the player
picked : Bool → Option ℕ → List ℕ → Option ℕ
picked own (Some w) successors = Some w
picked true None successors = slice_get successors 0
picked false None successors = None

picked_chosen : (own : Bool) (w : ℕ) (successors : List ℕ) → picked own (Some w) successors ≡ Some w
unfolding picked
picked_chosen true w successors = refl
picked_chosen false w successors = refl

same_some : (x y : ℕ) → Some x ≡ Some y → x ≡ y
same_some x y e = cc

none_some : (x : ℕ) → ◌≡◌ {A = Option ℕ} None (Some x) → ⊥
none_some x e = cc

module _ (nodes : List Node) (player : Player) (choices : List (Option ℕ)) where
  pub filled_at : ℕ → Option ℕ
  filled_at v = picked (same_player (owner_at nodes v) player) (choice_at choices v) (successors_at nodes v)

  pub filled : List (Option ℕ)
  filled = map filled_at (range_with_len 0 (length nodes))

  module _ (game : IsGame nodes) (strategy : IsStrategy nodes player choices) where
    filled_count : length filled ≡ length nodes
    unfolding filled
    filled_count = length-map-range_with_len filled_at 0 (length nodes)

    -- what is chosen is filled in, and the other way round
    filled_in : (v w : ℕ) → v < length nodes → filled_at v ≡ Some w → Chooses filled v w
    unfolding filled
    filled_in v w below is =
        slice_get-get_or filled v None (omega (arith, below, filled_count))
        ∙ ap Some (get_or-map-range_with_len filled_at 0 (length nodes) v v None below (omega arith) ∙ is)

    filled_from : (v w : ℕ) → Chooses filled v w → (v < length nodes) × (filled_at v ≡ Some w)
    unfolding filled
    filled_from v w chooses =
        let below : v < length nodes = omega (arith, slice_get_within filled v (Some w) chooses, filled_count) in (
          below,
          sym (get_or-map-range_with_len filled_at 0 (length nodes) v v None below (omega arith)) ∙ get_or_from_slice_get filled v (Some w) None chooses,
        )

    -- a choice of the strategy stays
    stays : (v w : ℕ) → Chooses choices v w → Chooses filled v w
    unfolding filled_at
    stays v w chooses =
        let below : v < length nodes = omega (arith, slice_get_within choices v (Some w) chooses, strategy.entries) in
        filled_in v w below
        (ap (λ (o : Option ℕ). picked (same_player (owner_at nodes v) player) o (successors_at nodes v)) (get_or_from_slice_get choices v (Some w) None chooses)
        ∙ picked_chosen (same_player (owner_at nodes v) player) w (successors_at nodes v))

    -- each choice is one of the strategy, or a first successor
    picked_from : (v w : ℕ) (own : Bool) (o : Option ℕ) → same_player (owner_at nodes v) player ≡ own → choice_at choices v ≡ o → v < length nodes
        → picked own o (successors_at nodes v) ≡ Some w → (owner_at nodes v ≡ player) × HasEdge nodes v w
    unfolding picked
    picked_from v w own (Some u) own_is choice_is below is =
        let same : u ≡ w = same_some u w is in
        let chooses : Chooses choices v w =
        slice_get-get_or choices v None (omega (arith, below, strategy.entries)) ∙ ap Some (choice_is ∙ ap Some same) in
        (strategy.owned v w chooses, strategy.listed v w chooses)
    picked_from v w true None own_is choice_is below is =
        (same_is (owner_at nodes v) player own_is, (0, slice_get_within (successors_at nodes v) 0 w is, get_or_from_slice_get (successors_at nodes v) 0 w w is))
    picked_from v w false None own_is choice_is below is = absurd (none_some w is)

    filled_strategy : IsStrategy nodes player filled
    unfolding filled_at
    filled_strategy = record {
      entries = filled_count;
      owned = λ v w chooses.
          (let found = filled_from v w chooses in
          (picked_from v w (same_player (owner_at nodes v) player) (choice_at choices v) refl refl found.0 found.1).0);
      listed = λ v w chooses.
          (let found = filled_from v w chooses in
          (picked_from v w (same_player (owner_at nodes v) player) (choice_at choices v) refl refl found.0 found.1).1);
    }

    -- fewer walks are left
    leaves_fewer : (v w : ℕ) → Leaves nodes player filled v w → Leaves nodes player choices v w
    leaves_fewer v w leaves = record { listed = leaves.listed; chosen = λ own c chooses. leaves.chosen own c (stays v c chooses) }

    walk_fewer : (v : ℕ) (ws : List ℕ) → IsWalk nodes player filled v ws → IsWalk nodes player choices v ws
    walk_fewer v [] walk = walk
    walk_fewer v (w ∷ ws) walk = (leaves_fewer v w walk.0, walk_fewer w ws walk.1)

    wins_on : (v : ℕ) → Wins nodes player choices v → Wins nodes player filled v
    wins_on v wins there around walk closed loses =
        wins there around (walk_fewer v there walk)
        (record { walk = walk_fewer _ around closed.walk; longer = closed.longer; closed = closed.closed }) loses

    choice_for : (w : ℕ) → w < length nodes → owner_at nodes w ≡ player → (u : ℕ) × Chooses filled w u
    unfolding filled_at picked
    choice_for w below own = go (choice_at choices w) refl
      where
        go : (o : Option ℕ) → choice_at choices w ≡ o → (u : ℕ) × Chooses filled w u
        go (Some u) is = (
          u,
          filled_in w u below
              (ap (λ (choice : Option ℕ). picked (same_player (owner_at nodes w) player) choice (successors_at nodes w)) is
              ∙ picked_chosen (same_player (owner_at nodes w) player) u (successors_at nodes w)),
        )
        go None is = (
          get_or (successors_at nodes w) 0 0,
          filled_in w (get_or (successors_at nodes w) 0 0) below
              (ap (λ (choice : Option ℕ). picked (same_player (owner_at nodes w) player) choice (successors_at nodes w)) is
              ∙ ap (λ (b : Bool). picked b None (successors_at nodes w)) (is_same (owner_at nodes w) player own)
              ∙ slice_get-get_or (successors_at nodes w) 0 0 (game.continued w below)),
        )

    pub filled_wins : (v : ℕ) → Wins nodes player choices v → IsWinningFrom nodes player filled v
    filled_wins v wins = record {
      strategy = filled_strategy;
      wins = wins_on v wins;
      chosen = λ w below own wins_there. choice_for w below own;
    }

-- so a node of a region has such a strategy
pub region_won : (nodes : List Node) (player : Player) (v : ℕ) → IsGame nodes → InRegion nodes player v
    → (choices : List (Option ℕ)) × IsWinningFrom nodes player choices v
region_won nodes player v game region =
    (filled nodes player region.choices, filled_wins nodes player region.choices game region.strategy v region.wins)
