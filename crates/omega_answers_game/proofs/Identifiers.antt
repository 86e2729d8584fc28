-- The place that an identifier names.
use Rattle.std.proofs.Common.{◌≡◌, ℕ, ◌<◌, ◌==◌, Bool, true, false, List, Some, None, cond, length, get_or, refl, sym, ◌∙◌, arith}
use Rattle.std.specs.List.{position, position_or_len}
use Rattle.std.proofs.lemmas.Bool.{eqb-false, eqb-true, ltb-false}
use Rattle.std.proofs.lemmas.List.{get_or-map, length-map}
use Rattle.std.proofs.lemmas.List.Quantifiers.{position-Some}
use Rattle.std.proofs.lemmas.List.Sums.{fails_before_first}
use Rattle.omega_game_values.specs.Game.{Node, identifiers, no_node, node_at}
use Rattle.omega_answers_game.specs.Part.{HasIdentifier, IsUnknownIdentifier}

identifier-at : (nodes : List Node) (v : ℕ) → v < length nodes → get_or (identifiers nodes) v 0 ≡ (node_at nodes v).identifier
identifier-at nodes v h = get_or-map (λ (node : Node). node.identifier) nodes v no_node 0 h

-- the place of an identifier
pub identified-place : (nodes : List Node) (identifier place : ℕ) → position (λ x. x == identifier) (identifiers nodes) ≡ Some place
    → HasIdentifier nodes identifier place
identified-place nodes identifier place e =
    let found = position-Some (λ x. x == identifier) (identifiers nodes) place 0 e in
    let node : place < length nodes = omega (arith, found.0, length-map nodes (λ (node : Node). node.identifier)) in
    record { node = node; identified = sym (identifier-at nodes place node) ∙ eqb-true _ _ found.1 }

none_before : (b : Bool) (n : ℕ) → cond b (Some n) None ≡ None → b ≡ false
none_before true n e = cc
none_before false n e = refl

-- no place has an identifier that is not in the list
pub identified-nowhere : (nodes : List Node) (identifier : ℕ) → position (λ x. x == identifier) (identifiers nodes) ≡ None
    → IsUnknownIdentifier nodes identifier
identified-nowhere nodes identifier e place identified =
    let first = position_or_len (λ x. x == identifier) (identifiers nodes) in
    let past = ltb-false first (length (identifiers nodes)) (none_before _ first e) in
    let before : place < first = omega (arith, past, identified.node, length-map nodes (λ (node : Node). node.identifier)) in
    let other = fails_before_first (λ x. x == identifier) (identifiers nodes) place 0 before in
    eqb-false _ _ other (identifier-at nodes place identified.node ∙ identified.identified)
