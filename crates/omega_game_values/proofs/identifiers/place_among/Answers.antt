-- `place_among`: the place of an identifier among those of `count` nodes, which is itself where none is listed.
use Rattle.std.proofs.Common.{◌≡◌, ◌<◌, ◌==◌, length, ap, sym, ◌∙◌, rules}
use Rattle.omega_game_values.proofs.layout.Columns.{position_listed, identifiers_unlisted, position-range_with_len, position_past}
use Rattle.std.specs.List.{position}
use Rattle.omega_game_values.proofs.identifiers.place_among.Goals as goal

pub returns-in_err-get_index_of : goal.returns-in_err-get_index_of
returns-in_err-get_index_of c =
    let some : 0 < length c.args.listed.now.keys = search rules in
    c.from_residual.ensures ∙ c.in_err-get_index_of.ensures.index ∙ position_listed c.args.count c.args.listed.now.keys c.args.id some

pub returns-then-not-is_empty : goal.returns-then-not-is_empty
returns-then-not-is_empty c =
    let some : 0 < length c.args.listed.now.keys = search rules in
    c.in_ok-get_index_of.ensures.index ∙ position_listed c.args.count c.args.listed.now.keys c.args.id some

pub returns-then-id-count : goal.returns-then-id-count
returns-then-id-count c =
    let none : length c.args.listed.now.keys ≡ 0 = search rules in
    sym (ap (position (λ x. x == c.args.id)) (identifiers_unlisted c.args.count c.args.listed.now.keys none) ∙ position-range_with_len c.args.count c.args.id c.if-id-count.true)

pub returns-else-id-count : goal.returns-else-id-count
returns-else-id-count c =
    let none : length c.args.listed.now.keys ≡ 0 = search rules in
    sym (ap (position (λ x. x == c.args.id)) (identifiers_unlisted c.args.count c.args.listed.now.keys none) ∙ position_past c.args.count c.args.id c.if-id-count.false)
