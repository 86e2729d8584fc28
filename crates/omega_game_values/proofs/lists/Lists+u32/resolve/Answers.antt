-- `Lists::resolve`: replaces each identifier by its place, and says whether each has one.
use Rattle.std.proofs.Common.{◌≡◌, length, map, arith, ap, sym, ◌∙◌}
use Rattle.omega_game_values.proofs.building.Resolutions.{lists_of-map, flat-lists_of, list_all-flat_map}
use Rattle.std.specs.List.{list_all}
use Rattle.omega_game_values.specs.private.layout.Columns.{identifiers_of}
use Rattle.omega_text.specs.JoinedLists.{lists_of}
use Rattle.omega_game_values.specs.private.layout.Resolving.{is_defined, resolved_in}
use Rattle.std.proofs.lemmas.List.{with_items_is, length-map}
use Rattle.std.specs.Vec.{with_items}
use Rattle.omega_game_values.proofs.lists.Lists+u32.resolve.Goals as goal

pub returns-clause-defined : goal.returns-clause-defined
returns-clause-defined c =
    c.resolve.ensures.defined
    ∙ ap (list_all (is_defined (identifiers_of c.args.count c.args.listed.now.keys))) (c.as_mut_slice.ensures.value ∙ sym (flat-lists_of c.self.inside.starts.items c.self.inside.items.items c.self.invariant))
    ∙ list_all-flat_map (is_defined (identifiers_of c.args.count c.args.listed.now.keys)) (lists_of c.self.inside.starts.items c.self.inside.items.items)
    ∙ ap (list_all (λ list. list_all (is_defined (identifiers_of c.args.count c.args.listed.now.keys)) list)) c.self.view_is

-- the items after the writes
new_items : (c : goal.After-self-1) → (with_items c.self.inside.items c.resolve.new.targets).items ≡ map (resolved_in (identifiers_of c.args.count c.args.listed.now.keys)) c.self.inside.items.items
new_items c =
    let are : c.resolve.new.targets ≡ map (resolved_in (identifiers_of c.args.count c.args.listed.now.keys)) c.self.inside.items.items =
    c.resolve.ensures.places ∙ ap (map (resolved_in (identifiers_of c.args.count c.args.listed.now.keys))) c.as_mut_slice.ensures.value in
    with_items_is c.self.inside.items c.resolve.new.targets (omega (arith, ap length are, length-map c.self.inside.items.items (resolved_in (identifiers_of c.args.count c.args.listed.now.keys)))) ∙ are

pub returns-clause-places : goal.returns-clause-places
returns-clause-places c = rw (← c.self.view_is, new_items c) (lists_of-map (resolved_in (identifiers_of c.args.count c.args.listed.now.keys)) c.self.inside.starts.items c.self.inside.items.items)
