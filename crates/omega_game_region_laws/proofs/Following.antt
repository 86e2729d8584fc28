-- Following a function of the next node: what it leaves possible is a walk.
use Rattle.std.proofs.Common.{◌≡◌, ℕ, zero, suc, ◌+◌, ◌<◌, List, [], ◌∷◌, length, Option, Some, None, slice_get, slice_index, refl, arith}
use Rattle.std.proofs.lemmas.List.Elements.{Contains-get_or}
use Rattle.omega_game_values.specs.declared.player.Player.{Player}
use Rattle.omega_game_values.specs.Game.{Node, IsGame, HasEdge, successors_at}
use Rattle.omega_game_values.specs.Winning.{IsStrategy, Leaves, IsWalk, end_of}

-- the node k steps on from v
abbrev pub reached : (ℕ → ℕ) → ℕ → ℕ → ℕ
reached next v zero = v
reached next v (suc k) = reached next (next v) k

-- the k nodes after v
abbrev pub trail : (ℕ → ℕ) → ℕ → ℕ → List ℕ
trail next v zero = []
trail next v (suc k) = next v ∷ trail next (next v) k

-- the last of the k nodes after v is the node k steps on
pub end-trail : (next : ℕ → ℕ) (k v : ℕ) → end_of v (trail next v k) ≡ reached next v k
end-trail next zero v = refl
end-trail next (suc k) v = end-trail next k (next v)

-- some steps lead to some nodes
pub longer_trail : (next : ℕ → ℕ) (v k : ℕ) → 0 < k → 0 < length (trail next v k)
longer_trail next v zero h = absurd (omega arith)
longer_trail next v (suc k) h = omega arith

-- steps after steps
pub reached-add : (next : ℕ → ℕ) (i d v : ℕ) → reached next (reached next v i) d ≡ reached next v (i + d)
reached-add next zero d v = let e : 0 + d ≡ d = omega arith in rw e
reached-add next (suc i) d v = let e : suc i + d ≡ suc (i + d) = omega arith in rw e (reached-add next i d (next v))

-- following stays in the game
pub reached_below : (next : ℕ → ℕ) (n : ℕ) → ((u : ℕ) → u < n → next u < n) → (k v : ℕ) → v < n → reached next v k < n
reached_below next n inside zero v below = below
reached_below next n inside (suc k) v below = reached_below next n inside k (next v) (inside v below)

-- following edges left possible is a walk
pub walk_of_trail : (nodes : List Node) (player : Player) (choices : List (Option ℕ)) (next : ℕ → ℕ)
    → ((u : ℕ) → u < length nodes → Leaves nodes player choices u (next u)) → ((u : ℕ) → u < length nodes → next u < length nodes)
    → (k v : ℕ) → v < length nodes → IsWalk nodes player choices v (trail next v k)
walk_of_trail nodes player choices next left inside zero v below = below
walk_of_trail nodes player choices next left inside (suc k) v below =
    (left v below, walk_of_trail nodes player choices next left inside k (next v) (inside v below))

-- what an entry chooses, or d
abbrev pub chosen_or : Option (Option ℕ) → ℕ → ℕ
chosen_or None d = d
chosen_or (Some None) d = d
chosen_or (Some (Some c)) d = c

-- the choice at v, or the first successor
abbrev pub choice_at : List Node → List (Option ℕ) → ℕ → ℕ
choice_at nodes choices v = chosen_or (slice_get choices v) (slice_index (successors_at nodes v) 0)

-- the first successor is a listed one
pub first_listed : (nodes : List Node) (v : ℕ) → IsGame nodes → v < length nodes → HasEdge nodes v (slice_index (successors_at nodes v) 0)
first_listed nodes v game below = Contains-get_or (successors_at nodes v) 0 0 (game.continued v below)

-- a strategy leaves some edge from each node possible
pub some_left : (nodes : List Node) (player : Player) (choices : List (Option ℕ)) (v : ℕ)
    → IsGame nodes → IsStrategy nodes player choices → v < length nodes → Leaves nodes player choices v (choice_at nodes choices v)
some_left nodes player choices v game strategy below = go (slice_get choices v) refl
  where
    go : (entry : Option (Option ℕ)) → slice_get choices v ≡ entry
        → Leaves nodes player choices v (chosen_or entry (slice_index (successors_at nodes v) 0))
    go None is = record { listed = first_listed nodes v game below; chosen = λ own c chose. absurd (cc) }
    go (Some None) is = record { listed = first_listed nodes v game below; chosen = λ own c chose. absurd (cc) }
    go (Some (Some u)) is = record { listed = strategy.listed v u is; chosen = λ own c chose. cc }
