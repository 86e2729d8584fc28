-- The extent at the place of a name is that of what it stands for.
use Rattle.std.proofs.Common.{◌≡◌, [], None, get_or, length, map, option_map, ap, arith, sym, ◌∙◌}
use Rattle.std.proofs.lemmas.List.{length-map}
use Rattle.omega_hoa_label_text.specs.Expanding.{entries_of, extent_of, place_among}
use Rattle.omega_hoa_label_text.specs.private.Aliases.{defined_of, definitions_held}
use Rattle.omega_hoa_label_text.specs.private.Extents.{extent_named}
use Rattle.omega_hoa_label_text.proofs.AliasLemmas.{get_or-made}
use Rattle.omega_hoa_label_text.proofs.EntryLemmas.{extent-at, stands_for-none}
use Rattle.omega_hoa_label_text.proofs.aliases.Aliases.extent.Goals as goal

pub returns-then-place-len : goal.returns-then-place-len
returns-then-place-len c =
    let definitions = definitions_held c.self.inside in
    let count : length definitions ≡ length c.self.inside.definitions.items = length-map c.self.inside.definitions.items defined_of in
    let seen : length definitions ≡ length c.args.self.now = ap length c.self.view_is in
    let place : c.place-place.result ≡ place_among definitions c.args.name.now = c.place-place.ensures ∙ ap (λ ds. place_among ds c.args.name.now) (sym c.self.view_is) in
    ap (λ d. d.extent) c.index.ensures
    ∙ (sym (get_or-made (λ d. d.extent) c.self.inside.definitions.items c.place-place.result c.index.result.now None (omega (arith, c.if-place-len.true, c.len.ensures, count, seen)))
    ∙ (ap (λ extents. get_or extents c.place-place.result None) c.self.invariant.measured
    ∙ (ap (λ at. get_or (map (λ entry. option_map extent_of entry.meaning) (entries_of [] definitions)) at None) place
    ∙ (extent-at c.args.name.now [] definitions None (omega (arith, c.if-place-len.true, c.len.ensures, seen, place))
    ∙ ap (λ ds. extent_named (entries_of [] ds) c.args.name.now) c.self.view_is))))

pub returns-else-place-len : goal.returns-else-place-len
returns-else-place-len c =
    sym (ap (option_map extent_of) (stands_for-none c.args.name.now [] c.args.self.now (omega (arith, c.if-place-len.false, c.len.ensures, c.place-place.ensures))))
