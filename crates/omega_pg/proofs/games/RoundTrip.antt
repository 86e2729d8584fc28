-- The canonical text of a game describes that game.
use Rattle.std.proofs.Common.{◌≡◌, ℕ, zero, suc, ◌+◌, ◌-◌, ◌<◌, ◌≤◌, Some, List, length, map, refl, ap, arith, All}
use Rattle.std.specs.Prelude.{slice_index}
use Rattle.std.specs.List.Sorted.{IsStrictlyIncreasing}
use Rattle.std.proofs.lemmas.List.{get_or-map, length-map}
use Rattle.std.proofs.lemmas.List.Elements.{All-from_get_or, All-map}
use Rattle.std.proofs.lemmas.List.Sorted.{IsPermutation-refl}
use Rattle.omega_text.specs.pg.Laws.{EndsAreGaps, NamesAreLongest, NumbersAreLongest, SignsAreLongest, TokensFollow, WordsAreLongest}
use Rattle.omega_game_values.specs.Building.{IsWellFormed, specified}
use Rattle.omega_game_values.specs.Game.{IsGame, IsWithinLimits, Node, identifiers, no_node, node_at, successors_at, greatest_identifier, identifier_at}
use Rattle.omega_text.specs.Limits.{most_number}
use Rattle.omega_game_values.specs.declared.node_spec.NodeSpec.{NodeSpec}
use Rattle.omega_pg.specs.game.Canonical.{canonical_game}
use Rattle.omega_pg.specs.game.Laws.{CanonicalGamesAreRead}
use Rattle.omega_pg.proofs.games.Written.{text_written}
use Rattle.omega_pg.proofs.games.Listed.{successors_are_places}

-- an identifier of a game fits
pub identifier_fits : (nodes : List Node) (v : ℕ) → IsWithinLimits nodes → v < length nodes → identifier_at nodes v ≤ most_number
identifier_fits nodes v limits inside = (limits.writable v no_node inside).identifier

-- a node of a game is specified well
specified_well : (nodes : List Node) (v : ℕ) → IsGame nodes → IsWithinLimits nodes → v < length nodes → IsWellFormed (specified nodes (node_at nodes v))
specified_well nodes v game limits inside =
    let writable = limits.writable v no_node inside in
    record {
      id = writable.identifier;
      priority = writable.priority;
      successors = All-map (λ id. id ≤ most_number) (identifier_at nodes) (successors_at nodes v)
          (λ k d h. identifier_fits nodes _ limits (successors_are_places nodes v game k d h));
      continued = omega (arith, length-map (successors_at nodes v) (identifier_at nodes), game.continued v inside);
      name = writable.name;
    }

-- so are all of them
specs_well : (nodes : List Node) → IsGame nodes → IsWithinLimits nodes → All IsWellFormed (map (specified nodes) nodes)
specs_well nodes game limits =
    All-map IsWellFormed (specified nodes) nodes
    (All-from_get_or (λ node. IsWellFormed (specified nodes node)) nodes no_node (λ v inside. specified_well nodes v game limits inside))

-- no identifier is above the last
identifiers_rise : (ids : List ℕ) → IsStrictlyIncreasing ids → (v w : ℕ) → v + w < length ids → slice_index ids v ≤ slice_index ids (v + w)
identifiers_rise ids rising v zero inside =
    let same : slice_index ids (v + zero) ≡ slice_index ids v = ap (slice_index ids) (let sum : v + zero ≡ v = omega arith in sum) in
    omega arith
identifiers_rise ids rising v (suc w) inside =
    let same : slice_index ids (v + suc w) ≡ slice_index ids ((v + w) + 1) = ap (slice_index ids) (let sum : v + suc w ≡ (v + w) + 1 = omega arith in sum) in
    omega (arith, rising (v + w) (omega arith), identifiers_rise ids rising v w (omega arith))

greatest_is_greatest : (nodes : List Node) → IsGame nodes → (v : ℕ) → v < length nodes → identifier_at nodes v ≤ greatest_identifier nodes
greatest_is_greatest nodes game v inside =
    let last = length nodes - 1 in
    let sum : v + (last - v) ≡ last = omega arith in
    let count = length-map nodes (λ (node : Node). node.identifier) in
    let rise = identifiers_rise (identifiers nodes) game.rising v (last - v) (omega (arith, count)) in
    let here = get_or-map (λ (node : Node). node.identifier) nodes v no_node 0 inside in
    let there = get_or-map (λ (node : Node). node.identifier) nodes last no_node 0 (omega arith) in
    omega (arith, here, there, ap (slice_index (identifiers nodes)) sum, rise)

-- the canonical text describes the game
pub canonical_read : TokensFollow → EndsAreGaps → NumbersAreLongest → WordsAreLongest → SignsAreLongest → NamesAreLongest → CanonicalGamesAreRead
canonical_read tokens gaps numbers words signs names nodes game limits short =
    let specs = map (specified nodes) nodes in
    let greatest = greatest_identifier nodes in
    let well : All IsWellFormed specs = specs_well nodes game limits in
    let fits : greatest ≤ most_number = identifier_fits nodes _ limits (omega (arith, game.inhabited)) in
    let cut = text_written tokens gaps numbers words signs names greatest specs fits well (canonical_game nodes) 0 (omega arith) refl in
    record {
      short = short;
      raw = record { header = Some greatest; specs = specs };
      writes = record {
        lexemes = cut.lexemes;
        cut = record { end = cut.end; cuts = cut.cuts; rest = cut.gap };
        text = record { specified = omega (arith, length-map nodes (specified nodes), game.inhabited); continued = λ k d h. (well k d h).continued; spelled = cut.spelled };
      };
      rearranged = record { game = game; rearranged = IsPermutation-refl specs };
      covers = All-map (λ (spec : NodeSpec). spec.id ≤ greatest) (specified nodes) nodes
          (All-from_get_or (λ (node : Node). node.identifier ≤ greatest) nodes no_node (λ v inside. greatest_is_greatest nodes game v inside));
      limits = limits;
    }
