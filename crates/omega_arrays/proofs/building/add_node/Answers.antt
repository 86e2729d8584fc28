-- `add_node`: the successors lie within the array, and are added one by one.
use Rattle.std.proofs.Common.{ℕ, ◌+◌, ◌<◌, ◌≤◌, ◌++◌, ◌∷◌, [], List, length, get_or, ap, ◌∙◌, arith}
use Rattle.std.specs.Prelude.{slice_range}
use Rattle.omega_game_values.specs.Building.{with_last, with_successor}
use Rattle.omega_arrays.specs.Arrays.{player_of}
use Rattle.omega_arrays.specs.private.Specified.{spec_with}
use Rattle.omega_arrays.proofs.Built.{begun, ends_within, one_more}
use Rattle.omega_arrays.proofs.building.add_node.Goals as goal

pub bounds-listed-first : goal.bounds-listed-first
bounds-listed-first c =
    let ends = ends_within c.args.arrays.now c.requires.shape c.args.place c.requires.inside in
    let at = ap (λ (xs : List ℕ). get_or xs c.args.place 0) c.starts.ensures in
    omega (arith, ends.0, ends.1, at, ap length c.successors-listed.ensures)

pub loop-at-init : goal.loop-at-init
loop-at-init c =
    let ends = ends_within c.args.arrays.now c.requires.shape c.args.place c.requires.inside in
    let at = ap (λ (xs : List ℕ). get_or xs c.args.place 0) c.starts.ensures in
    c.in_ok-add_node.ensures.ok
    ∙ begun c.args.arrays.now c.args.place (get_or c.starts.result.now c.args.place 0) c.args.nodes.now c.priorities.result.now
    c.successors-listed.result.now c.player_of-owner.result c.priorities.ensures
    (c.player_of-owner.ensures ∙ ap (λ (xs : List ℕ). player_of (get_or xs c.args.place 0)) c.owners.ensures) c.successors-listed.ensures
    (omega (arith, ends.0, ends.1, at))

pub bounds-listed-at : goal.bounds-listed-at
bounds-listed-at c =
    let ends = ends_within c.args.arrays.now c.requires.shape c.args.place c.requires.inside in
    let at = ap (λ (xs : List ℕ). get_or xs (c.args.place + 1) 0) c.starts-2.ensures in
    omega (arith, ends.1, at, c.loop-at-test.true, ap length c.successors-listed.ensures)

pub loop-at-preserved : goal.loop-at-preserved
loop-at-preserved c =
    let a = c.args.arrays.now in
    let ends = ends_within a c.requires.shape c.args.place c.requires.inside in
    let first : ℕ = get_or c.starts.result.now c.args.place 0 in
    let end = ap (λ (xs : List ℕ). get_or xs (c.args.place + 1) 0) c.starts-2.ensures in
    let begins : first ≤ c.loop-at.at = omega (arith, c.loop-at.auto.at) in
    let within : c.loop-at.at < length a.successors = omega (arith, ends.1, end, c.loop-at-test.true) in
    c.in_ok-add_successor.ensures.ok
    ∙ ap (with_last (with_successor (get_or c.successors-listed.result.now c.loop-at.at 0))) c.loop-at.invariant
    ∙ ap (λ (xs : List ℕ). with_last (with_successor (get_or xs c.loop-at.at 0))
    (c.args.nodes.now ++ spec_with a c.args.place (slice_range a.successors first c.loop-at.at) ∷ [])) c.successors-listed.ensures
    ∙ one_more a c.args.place c.args.nodes.now first c.loop-at.at begins within
