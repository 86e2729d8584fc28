-- A strategy with memory against a strategy of the opponent that wins:
-- the limit of the play that follows both loses for neither.
use Rattle.std.proofs.Common.{◌≡◌, ℕ, zero, suc, ◌<◌, ◌⊎◌, inl, inr, Bool, true, false, cond, List, [], ◌∷◌, ◌++◌, length, Option, Some, None, IsTrue, slice_index, refl, sym, ap, ◌∙◌, subst, add-one}
use Rattle.std.proofs.lemmas.Bool.{false≢true}
use Rattle.omega_game_values.specs.declared.player.Player.{Player}
use Rattle.omega_game_values.specs.declared.player.Player.TheVariants.{Zero, One}
use Rattle.omega_game_values.specs.Game.{Node, IsGame, HasEdge, owner_at, successors_at}
use Rattle.omega_game_values.specs.Player.{loses, opponent_of}
use Rattle.omega_game_values.specs.Winning.{IsStrategy, Leaves, InRegion}
use Rattle.omega_game_region_laws.specs.Histories.{history, IsMemoryStrategy, IsMemoryPlay, MemoryWinsAllPlays}
use Rattle.omega_game_region_laws.specs.Plays.{IsPlay, IsLimit}
use Rattle.omega_text.specs.Omniscience.{LimitedPrincipleOfOmniscience}
use Rattle.omega_game_region_laws.proofs.Apart.{left_to_other}
use Rattle.omega_game_region_laws.proofs.Determinacy.{covered}
use Rattle.omega_game_region_laws.proofs.Following.{choice_at, first_listed, some_left}
use Rattle.omega_game_region_laws.proofs.Players.{apart_from_opponent, is_player, is_player-true, is_player-same, loses_for_one}
use Rattle.omega_game_region_laws.proofs.Settling.{limits}
use Rattle.omega_game_region_laws.proofs.Stretches.{wins_plays}

-- what is chosen, or d
abbrev answer : Option ℕ → ℕ → ℕ
answer None d = d
answer (Some c) d = c

module _ (nodes : List Node) (player : Player) (strategy : List ℕ → Option ℕ) (choices : List (Option ℕ)) (v : ℕ) where
  -- the next place after a history and its last place: what the strategy with memory chooses if the player owns the
  -- place, else what the choices do
  abbrev next : List ℕ → ℕ → ℕ
  next past u =
      cond (is_player (owner_at nodes u) player) (answer (strategy past) (slice_index (successors_at nodes u) 0)) (choice_at nodes choices u)

  -- the history up to an index and its last place
  abbrev built : ℕ → List ℕ × ℕ
  built zero = (v ∷ [], v)
  built (suc i) = ((built i).0 ++ (next (built i).0 (built i).1 ∷ []), next (built i).0 (built i).1)

  -- the play in which both are followed
  abbrev play : ℕ → ℕ
  play i = (built i).1

  -- its histories are those from which it was built
  remembered : (i : ℕ) → history play i ≡ (built i).0
  remembered zero = refl
  remembered (suc i) = ap (λ past. past ++ (play (suc i) ∷ [])) (remembered i)

  -- each ends at the play's place
  ends : (i : ℕ) → (past : List ℕ) × ((built i).0 ≡ past ++ (play i ∷ []))
  ends zero = ([], refl)
  ends (suc i) = ((built i).0, refl)

  -- a step that both leave possible
  record IsStep (past : List ℕ) (u w : ℕ) : Type 0 where
    left : Leaves nodes (opponent_of player) choices u w
    chosen : owner_at nodes u ≡ player → (c : ℕ) → strategy past ≡ Some c → w ≡ c

  module _ (game : IsGame nodes) (is_strategy : IsMemoryStrategy nodes player strategy) (theirs : IsStrategy nodes (opponent_of player) choices) where
    -- what the strategy with memory chooses at the player's place
    own_step : (past : List ℕ) (u : ℕ) (before : List ℕ) → past ≡ before ++ (u ∷ []) → u < length nodes → owner_at nodes u ≡ player
        → IsStep past u (answer (strategy past) (slice_index (successors_at nodes u) 0))
    own_step past u before last below owns = go (strategy past) refl
      where
        left : (w : ℕ) → HasEdge nodes u w → Leaves nodes (opponent_of player) choices u w
        left w edge = left_to_other nodes (opponent_of player) player choices u w owns (apart_from_opponent player) edge

        go : (choice : Option ℕ) → strategy past ≡ choice → IsStep past u (answer choice (slice_index (successors_at nodes u) 0))
        go None is = record { left = left _ (first_listed nodes u game below); chosen = λ own c chose. absurd (cc) }
        go (Some w) is = record {
          left = left w (is_strategy before u w owns (subst (λ h. strategy h ≡ Some w) last is));
          chosen = λ own c chose. cc;
        }

    -- the next place is such a step
    is_step : (past : List ℕ) (u : ℕ) (before : List ℕ) → past ≡ before ++ (u ∷ []) → u < length nodes → IsStep past u (next past u)
    is_step past u before last below = go (is_player (owner_at nodes u) player) refl
      where
        go : (mine : Bool) → is_player (owner_at nodes u) player ≡ mine
            → IsStep past u (cond mine (answer (strategy past) (slice_index (successors_at nodes u) 0)) (choice_at nodes choices u))
        go true is = own_step past u before last below (is_player-true _ _ is)
        go false is = record {
          left = some_left nodes (opponent_of player) choices u game theirs below;
          chosen = λ own c chose.
              absurd (false≢true (sym is ∙ subst (λ o. is_player o player ≡ true) (sym own) (is_player-same player)));
        }

    -- each step of the play is one
    step : v < length nodes → (i : ℕ) → (play i < length nodes) × IsStep (built i).0 (play i) (play (suc i))
    step below zero = (below, is_step (built 0).0 (play 0) (ends 0).0 (ends 0).1 below)
    step below (suc i) =
        let inside : play (suc i) < length nodes = game.closed (play i) (play (suc i)) (step below i).1.left.listed in
        (inside, is_step (built (suc i)).0 (play (suc i)) (ends (suc i)).0 (ends (suc i)).1 inside)

    -- it is a play under the opponent's strategy
    their_play : v < length nodes → IsPlay nodes (opponent_of player) choices v play
    their_play below = record { first = refl; steps = λ i. rw add-one ((step below i).1.left) }

    -- and follows the strategy with memory
    own_play : v < length nodes → IsMemoryPlay nodes player strategy v play
    own_play below = record {
      first = refl;
      listed = λ i. rw add-one ((step below i).1.left.listed);
      chosen = λ i own c chose. rw add-one ((step below i).1.chosen own c (ap strategy (sym (remembered i)) ∙ chose));
    }

-- each priority loses for a player or for the opponent
loses_for_either : (player : Player) (p : ℕ) → IsTrue (loses player p) ⊎ IsTrue (loses (opponent_of player) p)
loses_for_either Zero p = loses_for_one p
loses_for_either One p = go (loses_for_one p)
  where
    go : IsTrue (loses Zero p) ⊎ IsTrue (loses One p) → IsTrue (loses One p) ⊎ IsTrue (loses Zero p)
    go (inl zero_loses) = inr zero_loses
    go (inr one_loses) = inl one_loses

-- each node is in a player's region or in the opponent's
own_or_theirs : (nodes : List Node) (player : Player) (v : ℕ) → IsGame nodes → v < length nodes
    → InRegion nodes player v ⊎ InRegion nodes (opponent_of player) v
own_or_theirs nodes Zero v game below = covered nodes v game below
own_or_theirs nodes One v game below = go (covered nodes v game below)
  where
    go : InRegion nodes Zero v ⊎ InRegion nodes One v → InRegion nodes One v ⊎ InRegion nodes Zero v
    go (inl zero_wins) = inr zero_wins
    go (inr one_wins) = inl one_wins

-- no strategy with memory wins all plays from a node of the opponent's region
not_theirs : LimitedPrincipleOfOmniscience → (nodes : List Node) (player : Player) (strategy : List ℕ → Option ℕ) (v : ℕ)
    → IsGame nodes → IsMemoryStrategy nodes player strategy → MemoryWinsAllPlays nodes player strategy v → InRegion nodes (opponent_of player) v → ⊥
not_theirs middle nodes player strategy v game is_strategy wins region = go (loses_for_either player limit.0)
  where
    limit : (p : ℕ) × IsLimit nodes (play nodes player strategy region.choices v) p
    limit = limits middle nodes (opponent_of player) region.choices v (play nodes player strategy region.choices v)
        (their_play nodes player strategy region.choices v game is_strategy region.strategy region.node)

    go : IsTrue (loses player limit.0) ⊎ IsTrue (loses (opponent_of player) limit.0) → ⊥
    go (inl lost) = wins (play nodes player strategy region.choices v) limit.0
        (own_play nodes player strategy region.choices v game is_strategy region.strategy region.node) limit.1 lost
    go (inr lost) = wins_plays nodes (opponent_of player) region.choices v region.wins (play nodes player strategy region.choices v) limit.0
        (their_play nodes player strategy region.choices v game is_strategy region.strategy region.node) limit.1 lost

-- so a node from which one wins all plays is in the player's region
pub memory_no_more : LimitedPrincipleOfOmniscience → (nodes : List Node) (player : Player) (strategy : List ℕ → Option ℕ) (v : ℕ)
    → IsGame nodes → v < length nodes → IsMemoryStrategy nodes player strategy
    → MemoryWinsAllPlays nodes player strategy v → InRegion nodes player v
memory_no_more middle nodes player strategy v game below is_strategy wins = go (own_or_theirs nodes player v game below)
  where
    go : InRegion nodes player v ⊎ InRegion nodes (opponent_of player) v → InRegion nodes player v
    go (inl own) = own
    go (inr theirs) = absurd (not_theirs middle nodes player strategy v game is_strategy wins theirs)
