-- `GameBuilder::resolved`: the game of specifications whose identifiers rise, or the first fault that applies.
use Rattle.std.proofs.Common.{◌≡◌, ◌<◌, length, List, arith, ap, sym, subst, refl, ◌∙◌}
use Rattle.std.specs.List.Sorted.{IsStrictlyIncreasing}
use Rattle.omega_game_values.specs.declared.node_spec.NodeSpec.{NodeSpec}
use Rattle.omega_game_values.specs.Building.{IsGameOf}
use Rattle.omega_game_values.specs.private.layout.Collected.{AreCollected, ids_of}
use Rattle.omega_game_values.specs.Game.{Node, IsGame, IsWithinLimits}
use Rattle.omega_game_values.specs.private.layout.Columns.{AreEven, Columns, collected, columns_of, nodes_of, specs_of}
use Rattle.omega_game_values.proofs.building.Collecting.{ids-specs_of, length-specs_of}
use Rattle.omega_game_values.proofs.building.Resolved.{AreEven-resolved, AreResolved, IsGameOf-columns, game_of_columns, limits_of_columns}
use Rattle.omega_game_values.proofs.building.Refusals.{AreResolved-from, KnowsFault, columns_same, few_listed, flag_is, ids_known, knows_fault, sum_by-places}
use Rattle.omega_game_values.proofs.builder.GameBuilder.game_of_sorted.Goals as goal

-- the identifiers rise
rises : (columns : Columns) (specs : List NodeSpec) → specs_of columns ≡ specs → IsStrictlyIncreasing (ids_of specs) → IsStrictlyIncreasing columns.identifiers
rises columns specs is rising = subst IsStrictlyIncreasing (ap ids_of (sym is) ∙ ids-specs_of columns) rising

-- there is an identifier
some : (columns : Columns) (specs : List NodeSpec) → specs_of columns ≡ specs → 0 < length specs → 0 < length columns.identifiers
some columns specs is h = omega (arith, ap length is, length-specs_of columns)

pub listed_ids-requires-clause-some : goal.listed_ids-requires-clause-some
listed_ids-requires-clause-some c = omega (arith, ap length c.as_slice.ensures.value, some (collected c.self.inside.ids.items c.self.inside.priorities.items c.self.inside.owners.items c.self.inside.successors c.self.inside.quoted) c.args.self c.self.view_is c.requires.some)

pub listed_ids-requires-clause-rising : goal.listed_ids-requires-clause-rising
listed_ids-requires-clause-rising c = subst IsStrictlyIncreasing (sym c.as_slice.ensures.value) (rises (collected c.self.inside.ids.items c.self.inside.priorities.items c.self.inside.owners.items c.self.inside.successors c.self.inside.quoted) c.args.self c.self.view_is c.requires.rising)

pub resolve-requires : goal.resolve-requires
resolve-requires c = few_listed (collected c.self.inside.ids.items c.self.inside.priorities.items c.self.inside.owners.items c.self.inside.successors c.self.inside.quoted) c.in_ok-listed.listed.keys c.self.invariant (rises (collected c.self.inside.ids.items c.self.inside.priorities.items c.self.inside.owners.items c.self.inside.successors c.self.inside.quoted) c.args.self c.self.view_is c.requires.rising) (some (collected c.self.inside.ids.items c.self.inside.priorities.items c.self.inside.owners.items c.self.inside.successors c.self.inside.quoted) c.args.self c.self.view_is c.requires.some)
    (ids_known c.self.inside.ids.items c.as_slice.result.now c.in_ok-listed.listed.keys (length c.self.inside.ids.items) refl c.as_slice.ensures.value c.in_ok-listed.ensures)

-- the refusal of the specifications
knows : (columns : Columns) (specs : List NodeSpec) → specs_of columns ≡ specs → AreCollected columns → IsStrictlyIncreasing (ids_of specs) → KnowsFault specs columns.identifiers columns.successors
knows columns specs is kept rising = knows_fault columns specs is kept.even (rises columns specs is rising)

pub returns-then-not-resolve-clause-refused : goal.returns-then-not-resolve-clause-refused
returns-then-not-resolve-clause-refused c =
    (knows (collected c.self.inside.ids.items c.self.inside.priorities.items c.self.inside.owners.items c.self.inside.successors c.self.inside.quoted) c.args.self c.self.view_is c.self.invariant c.requires.rising).undefined (flag_is c.self.inside.ids.items c.as_slice.result.now c.in_ok-listed.listed.keys c.len-count.result c.self.inside.successors c.resolve.new.self c.resolve.result (record { count = omega (arith, c.len-count.ensures); value = c.as_slice.ensures.value; listed = c.in_ok-listed.ensures; defined = c.resolve.ensures.defined; placed = c.resolve.ensures.places }) ∙ c.if-not-resolve.true)

pub returns-then-count-gt-MOST_NODES-clause-refused : goal.returns-then-count-gt-MOST_NODES-clause-refused
returns-then-count-gt-MOST_NODES-clause-refused c =
    (knows (collected c.self.inside.ids.items c.self.inside.priorities.items c.self.inside.owners.items c.self.inside.successors c.self.inside.quoted) c.args.self c.self.view_is c.self.invariant c.requires.rising).nodes (flag_is c.self.inside.ids.items c.as_slice.result.now c.in_ok-listed.listed.keys c.len-count.result c.self.inside.successors c.resolve.new.self c.resolve.result (record { count = omega (arith, c.len-count.ensures); value = c.as_slice.ensures.value; listed = c.in_ok-listed.ensures; defined = c.resolve.ensures.defined; placed = c.resolve.ensures.places }) ∙ c.if-not-resolve.false) (omega (arith, c.len-count.ensures, c.if-count-gt-MOST_NODES.true))

pub returns-then-total-gt-MOST_SUCCESSORS-clause-refused : goal.returns-then-total-gt-MOST_SUCCESSORS-clause-refused
returns-then-total-gt-MOST_SUCCESSORS-clause-refused c =
    let are : AreResolved c.self.inside.ids.items c.self.inside.successors c.resolve.new.self = AreResolved-from c.self.inside.ids.items c.as_slice.result.now c.in_ok-listed.listed.keys c.len-count.result c.self.inside.successors c.resolve.new.self c.resolve.result (record { count = omega (arith, c.len-count.ensures); value = c.as_slice.ensures.value; listed = c.in_ok-listed.ensures; defined = c.resolve.ensures.defined; placed = c.resolve.ensures.places }) c.if-not-resolve.false in
    (knows (collected c.self.inside.ids.items c.self.inside.priorities.items c.self.inside.owners.items c.self.inside.successors c.self.inside.quoted) c.args.self c.self.view_is c.self.invariant c.requires.rising).edges are.defined (omega (arith, c.len-count.ensures, c.if-count-gt-MOST_NODES.false))
    (omega (arith, c.total.ensures, c.if-total-gt-MOST_SUCCESSORS.true, sum_by-places c.self.inside.ids.items c.self.inside.successors c.resolve.new.self are.placed))

-- the successors are resolved
are : (c : goal.Else-total-gt-MOST_SUCCESSORS) → AreResolved c.self.inside.ids.items c.self.inside.successors c.resolve.new.self
are c = AreResolved-from c.self.inside.ids.items c.as_slice.result.now c.in_ok-listed.listed.keys c.len-count.result c.self.inside.successors c.resolve.new.self c.resolve.result (record { count = omega (arith, c.len-count.ensures); value = c.as_slice.ensures.value; listed = c.in_ok-listed.ensures; defined = c.resolve.ensures.defined; placed = c.resolve.ensures.places }) c.if-not-resolve.false

-- the columns of the game
same : (c : goal.Else-total-gt-MOST_SUCCESSORS) → columns_of c.in_ok-listed.listed.keys c.self.inside.priorities.items c.self.inside.owners.items c.resolve.new.self c.self.inside.quoted
    ≡ collected c.self.inside.ids.items c.self.inside.priorities.items c.self.inside.owners.items c.resolve.new.self c.self.inside.quoted
same c = columns_same c.self.inside.ids.items c.in_ok-listed.listed.keys c.self.inside.priorities.items c.self.inside.owners.items c.resolve.new.self c.self.inside.quoted c.self.invariant.even.priorities_even
    (ids_known c.self.inside.ids.items c.as_slice.result.now c.in_ok-listed.listed.keys (length c.self.inside.ids.items) refl c.as_slice.ensures.value c.in_ok-listed.ensures)

pub of_columns-requires-clause-even : goal.of_columns-requires-clause-even
of_columns-requires-clause-even c = subst AreEven (sym (same c)) (AreEven-resolved c.self.inside.ids.items c.self.inside.priorities.items c.self.inside.owners.items c.self.inside.successors c.self.inside.quoted c.resolve.new.self c.self.invariant.even (are c))

pub of_columns-requires-clause-game : goal.of_columns-requires-clause-game
of_columns-requires-clause-game c = subst (λ (columns : Columns). IsGame (nodes_of columns)) (sym (same c))
    (game_of_columns c.self.inside.ids.items c.self.inside.priorities.items c.self.inside.owners.items c.self.inside.successors c.self.inside.quoted c.resolve.new.self c.self.invariant (are c) (some (collected c.self.inside.ids.items c.self.inside.priorities.items c.self.inside.owners.items c.self.inside.successors c.self.inside.quoted) c.args.self c.self.view_is c.requires.some) (rises (collected c.self.inside.ids.items c.self.inside.priorities.items c.self.inside.owners.items c.self.inside.successors c.self.inside.quoted) c.args.self c.self.view_is c.requires.rising))

pub of_columns-requires-clause-limits : goal.of_columns-requires-clause-limits
of_columns-requires-clause-limits c = subst (λ (columns : Columns). IsWithinLimits (nodes_of columns)) (sym (same c))
    (limits_of_columns c.self.inside.ids.items c.self.inside.priorities.items c.self.inside.owners.items c.self.inside.successors c.self.inside.quoted c.resolve.new.self c.self.invariant (are c) (omega (arith, c.len-count.ensures, c.if-count-gt-MOST_NODES.false)) (omega (arith, c.total.ensures, c.if-total-gt-MOST_SUCCESSORS.false)))

pub returns-clause-game : goal.returns-clause-game
returns-clause-game c =
    let resolved : AreResolved c.self.inside.ids.items c.self.inside.successors c.resolve.new.self = AreResolved-from c.self.inside.ids.items c.as_slice.result.now c.in_ok-listed.listed.keys c.len-count.result c.self.inside.successors c.resolve.new.self c.resolve.result (record { count = omega (arith, c.len-count.ensures); value = c.as_slice.ensures.value; listed = c.in_ok-listed.ensures; defined = c.resolve.ensures.defined; placed = c.resolve.ensures.places }) c.if-not-resolve.false in
    let columns : columns_of c.in_ok-listed.listed.keys c.self.inside.priorities.items c.self.inside.owners.items c.resolve.new.self c.self.inside.quoted ≡ collected c.self.inside.ids.items c.self.inside.priorities.items c.self.inside.owners.items c.resolve.new.self c.self.inside.quoted =
    columns_same c.self.inside.ids.items c.in_ok-listed.listed.keys c.self.inside.priorities.items c.self.inside.owners.items c.resolve.new.self c.self.inside.quoted c.self.invariant.even.priorities_even
    (ids_known c.self.inside.ids.items c.as_slice.result.now c.in_ok-listed.listed.keys (length c.self.inside.ids.items) refl c.as_slice.ensures.value c.in_ok-listed.ensures) in
    let nodes : c.in_ok-forward.forward ≡ nodes_of (collected c.self.inside.ids.items c.self.inside.priorities.items c.self.inside.owners.items c.resolve.new.self c.self.inside.quoted) = c.in_ok-forward.ensures ∙ ap nodes_of columns in
    subst (λ (specs : List NodeSpec). IsGameOf specs c.in_ok-forward.forward) c.self.view_is
    (subst (λ (game : List Node). IsGameOf (specs_of (collected c.self.inside.ids.items c.self.inside.priorities.items c.self.inside.owners.items c.self.inside.successors c.self.inside.quoted)) game) (sym nodes)
    (IsGameOf-columns c.self.inside.ids.items c.self.inside.priorities.items c.self.inside.owners.items c.self.inside.successors c.self.inside.quoted c.resolve.new.self c.self.invariant resolved (some (collected c.self.inside.ids.items c.self.inside.priorities.items c.self.inside.owners.items c.self.inside.successors c.self.inside.quoted) c.args.self c.self.view_is c.requires.some) (rises (collected c.self.inside.ids.items c.self.inside.priorities.items c.self.inside.owners.items c.self.inside.successors c.self.inside.quoted) c.args.self c.self.view_is c.requires.rising)))

pub returns-clause-faultless : goal.returns-clause-faultless
returns-clause-faultless c =
    let resolved : AreResolved c.self.inside.ids.items c.self.inside.successors c.resolve.new.self = AreResolved-from c.self.inside.ids.items c.as_slice.result.now c.in_ok-listed.listed.keys c.len-count.result c.self.inside.successors c.resolve.new.self c.resolve.result (record { count = omega (arith, c.len-count.ensures); value = c.as_slice.ensures.value; listed = c.in_ok-listed.ensures; defined = c.resolve.ensures.defined; placed = c.resolve.ensures.places }) c.if-not-resolve.false in
    (knows (collected c.self.inside.ids.items c.self.inside.priorities.items c.self.inside.owners.items c.self.inside.successors c.self.inside.quoted) c.args.self c.self.view_is c.self.invariant c.requires.rising).none resolved.defined (omega (arith, c.len-count.ensures, c.if-count-gt-MOST_NODES.false))
    (omega (arith, c.total.ensures, c.if-total-gt-MOST_SUCCESSORS.false, sum_by-places c.self.inside.ids.items c.self.inside.successors c.resolve.new.self resolved.placed))
