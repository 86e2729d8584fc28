-- No node is in both regions: following both strategies at once closes a walk that loses for one of the players.
use Rattle.std.proofs.Common.{◌≡◌, ℕ, ◌+◌, ◌-◌, ◌<◌, List, length, Option, IsTrue, refl, sym, ◌∙◌, arith, ⊎_elim}
use Rattle.omega_game_values.specs.declared.player.Player.{Player}
use Rattle.omega_game_values.specs.declared.player.Player.TheVariants.{Zero, One}
use Rattle.omega_game_values.specs.Game.{Node, IsGame, HasEdge, owner_at}
use Rattle.omega_game_values.specs.Winning.{IsStrategy, Leaves, Wins, InRegion, end_of, greatest_on}
use Rattle.omega_game_values.specs.Player.{loses}
use Rattle.omega_game_region_laws.proofs.Following.{reached, trail, end-trail, longer_trail, reached-add, reached_below, walk_of_trail, choice_at, some_left}
use Rattle.omega_game_region_laws.proofs.Pigeonhole.{Repeats, repeats}
use Rattle.omega_game_region_laws.proofs.Players.{loses_for_one}

-- the first's choice at the nodes of player 0, the second's at the others
abbrev by_owner : Player → ℕ → ℕ → ℕ
by_owner Zero one other = one
by_owner One one other = other

-- a listed edge from the other player's node is left possible
pub left_to_other : (nodes : List Node) (player other : Player) (choices : List (Option ℕ)) (v w : ℕ)
    → owner_at nodes v ≡ other → (other ≡ player → ⊥) → HasEdge nodes v w → Leaves nodes player choices v w
left_to_other nodes player other choices v w owns apart listed = record { listed = listed; chosen = λ own c chose. absurd (apart (sym owns ∙ own)) }

-- both strategies at once: the choice of the owner
abbrev both : List Node → List (Option ℕ) → List (Option ℕ) → ℕ → ℕ
both nodes zero one v = by_owner (owner_at nodes v) (choice_at nodes zero v) (choice_at nodes one v)

-- it is left possible by both
left_by_both : (nodes : List Node) (zero one : List (Option ℕ)) (v : ℕ) → IsGame nodes
    → IsStrategy nodes Zero zero → IsStrategy nodes One one → v < length nodes
    → Leaves nodes Zero zero v (both nodes zero one v) × Leaves nodes One one v (both nodes zero one v)
left_by_both nodes zero one v game first second below = go (owner_at nodes v) refl
  where
    go : (owner : Player) → owner_at nodes v ≡ owner
        → Leaves nodes Zero zero v (by_owner owner (choice_at nodes zero v) (choice_at nodes one v))
        × Leaves nodes One one v (by_owner owner (choice_at nodes zero v) (choice_at nodes one v))
    go Zero owns =
        let left = some_left nodes Zero zero v game first below in
        (left, left_to_other nodes One Zero one v (choice_at nodes zero v) owns (λ e. cc) left.listed)
    go One owns =
        let left = some_left nodes One one v game second below in
        (left_to_other nodes Zero One zero v (choice_at nodes one v) owns (λ e. cc) left.listed, left)

-- a strategy that wins from v wins the closed walk at a repeat of what it leaves possible
closed_at_repeat : (nodes : List Node) (player : Player) (choices : List (Option ℕ)) (next : ℕ → ℕ) (v : ℕ)
    → ((u : ℕ) → u < length nodes → Leaves nodes player choices u (next u)) → ((u : ℕ) → u < length nodes → next u < length nodes)
    → v < length nodes → Wins nodes player choices v → (i d : ℕ) → 0 < d → reached next v i ≡ reached next v (i + d)
    → IsTrue (loses player (greatest_on nodes (reached next v i) (trail next (reached next v i) d))) → ⊥
closed_at_repeat nodes player choices next v left inside below wins i d further same lost =
    let arrives : end_of v (trail next v i) ≡ reached next v i = end-trail next i v in
    let start : reached next v i < length nodes = reached_below next (length nodes) inside i v below in
    wins (trail next v i) (trail next (reached next v i) d)
    (walk_of_trail nodes player choices next left inside i v below)
    (rw arrives (record {
      walk = walk_of_trail nodes player choices next left inside d (reached next v i) start;
      longer = longer_trail next (reached next v i) d further;
      closed = end-trail next d (reached next v i) ∙ reached-add next i d v ∙ sym same;
    }))
    (rw arrives lost)

-- the closed walk that both strategies leave possible
both_lose : (nodes : List Node) (v : ℕ) (next : ℕ → ℕ) (zero one : List (Option ℕ))
    → ((u : ℕ) → u < length nodes → Leaves nodes Zero zero u (next u)) → ((u : ℕ) → u < length nodes → Leaves nodes One one u (next u))
    → ((u : ℕ) → u < length nodes → next u < length nodes)
    → v < length nodes → Wins nodes Zero zero v → Wins nodes One one v → Repeats (reached next v) (length nodes) → ⊥
both_lose nodes v next zero one left_zero left_one inside below wins_zero wins_one repeat =
    let d = repeat.second - repeat.first in
    let further : 0 < d = omega arith in
    let sum : repeat.first + d ≡ repeat.second = omega arith in
    let same : reached next v repeat.first ≡ reached next v (repeat.first + d) = rw sum repeat.same in
    ⊎_elim
    (closed_at_repeat nodes Zero zero next v left_zero inside below wins_zero repeat.first d further same)
    (closed_at_repeat nodes One one next v left_one inside below wins_one repeat.first d further same)
    (loses_for_one (greatest_on nodes (reached next v repeat.first) (trail next (reached next v repeat.first) d)))

-- no node is in both regions
pub apart : (nodes : List Node) (v : ℕ) → IsGame nodes → InRegion nodes Zero v → InRegion nodes One v → ⊥
apart nodes v game first second =
    let next = both nodes first.choices second.choices in
    let left = λ (u : ℕ) (below : u < length nodes). left_by_both nodes first.choices second.choices u game first.strategy second.strategy below in
    let inside = λ (u : ℕ) (below : u < length nodes). game.closed u (next u) ((left u below).0).listed in
    both_lose nodes v next first.choices second.choices (λ u below. (left u below).0) (λ u below. (left u below).1) inside
    first.node first.wins second.wins
    (repeats (length nodes) (reached next v) (λ k h. reached_below next (length nodes) inside k v first.node))
