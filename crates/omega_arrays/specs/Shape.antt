-- Which arrays encode a game, and the first entry that is wrong in others.
use Rattle.std.specs.Prelude.{◌≡◌, ℕ, ◌+◌, ◌-◌, ◌<◌, ◌≤◌, ◌==◌, if◌then◌else◌, List, Option}
use Rattle.std.specs.Prelude.{Some, None, All, length, min, nat_le, nat_lt, option_map, position}
use Rattle.std.specs.List.{range_with_len}
use Rattle.std.specs.Option.{option_or}
use Rattle.omega_text.specs.Limits.{most_number}
use Rattle.omega_text.specs.declared.refusal.game.GameFault.{GameFault}
use Rattle.omega_text.specs.declared.refusal.game.GameFault.TheVariants.{TooManyEdges, TooManyNodes}
use Rattle.omega_game_values.specs.Limits.{most_nodes, most_successors}
use Rattle.omega_arrays.specs.declared.fault.WrongEntry.{WrongEntry}
use Rattle.omega_arrays.specs.Arrays.{GameArrays, node_count, start_at}

-- arrays that encode a game: a node or more, for each an owner, a start and a successor or more, all places of nodes
pub record IsGameShape (a : GameArrays) : Type 0 where
  pub inhabited : 0 < node_count a
  pub owned : length a.owners ≡ node_count a
  pub started : length a.starts ≡ node_count a + 1
  pub priorities : All (λ q. q ≤ most_number) a.priorities
  pub owners : All (λ p. p ≤ 1) a.owners
  pub first : start_at a 0 ≡ 0
  pub rising : (v : ℕ) → v < node_count a → start_at a v < start_at a (v + 1)
  pub last : start_at a (node_count a) ≡ length a.successors
  pub places : All (λ w. w < node_count a) a.successors

-- the entry of an array at an index
abbrev pub entry : ℕ → ℕ → WrongEntry
entry array place = record { array = array; place = place }

-- of an array with `count` entries in place of `wanted` ones, the first that is missing or the first that is too many
abbrev pub miscounted : (array count wanted : ℕ) → Option WrongEntry
miscounted array count wanted =
    if count == wanted then None else Some (entry array (min count wanted))

-- the first entry over a limit
abbrev pub first_above : (array most : ℕ) → List ℕ → Option WrongEntry
first_above array most entries = option_map (entry array) (position (λ x. nat_lt most x) entries)

-- what is wrong with the lengths: there is no node, or not an owner for each, or not a start for each and one after
abbrev pub wrong_length : GameArrays → Option WrongEntry
wrong_length a = option_or (if node_count a == 0 then Some (entry 0 0) else None)
    (option_or (miscounted 1 (length a.owners) (node_count a))
    (miscounted 2 (length a.starts) (node_count a + 1)))

-- the first place whose successors end before its first one or there
abbrev pub first_fall : GameArrays → Option ℕ
first_fall a =
    position (λ v. nat_le (start_at a (v + 1)) (start_at a v)) (range_with_len 0 (node_count a))

-- the first start that is wrong: it is to be 0, then greater than the one before, at last the number of successors
abbrev pub wrong_start : GameArrays → Option WrongEntry
wrong_start a = option_or (if start_at a 0 == 0 then None else Some (entry 2 0))
    (option_or (option_map (λ v. entry 2 (v + 1)) (first_fall a))
    (if start_at a (node_count a) == length a.successors then None
    else Some (entry 2 (node_count a))))

-- the first entry that is wrong: the lengths are judged first, then the arrays one by one
abbrev pub wrong_entry : GameArrays → Option WrongEntry
wrong_entry a =
    option_or (wrong_length a)
    (option_or (first_above 0 most_number a.priorities)
    (option_or (first_above 1 1 a.owners)
    (option_or (wrong_start a)
    (first_above 3 (node_count a - 1) a.successors))))

-- the fault of arrays that encode a game over the limits: too many nodes, or else too many edges
abbrev pub IsSizeFault : GameArrays → GameFault → Type 0
IsSizeFault a TooManyNodes = most_nodes < node_count a
IsSizeFault a TooManyEdges = (node_count a ≤ most_nodes) × (most_successors < length a.successors)
IsSizeFault a fault = ⊥

-- the game of the arrays is within the limits
abbrev pub IsSized : GameArrays → Type 0
IsSized a = (node_count a ≤ most_nodes) × (length a.successors ≤ most_successors)
