-- The name is not among the keys; with one more, or as they were, aliases keep what they keep.
use Rattle.std.proofs.Common.{◌≡◌, length, ap, subst, sym, ◌∙◌, arith, option_map}
use Rattle.std.proofs.lemmas.List.{length-map}
use Rattle.omega_hoa_label_text.specs.Expanding.{expansion, extent_of, place_among}
use Rattle.omega_hoa_label_text.specs.private.Aliases.{defined_of, definitions_held}
use Rattle.omega_hoa_label_text.specs.private.Emitting.{IsKept}
use Rattle.omega_hoa_label_text.proofs.AliasLemmas.{place-absent}
use Rattle.omega_hoa_label_text.proofs.PutLemmas.{Keeps-push, Keeps-put}
use Rattle.omega_hoa_label_text.proofs.aliases.Aliases.add.Goals as goal

pub put_last-requires : goal.put_last-requires
put_last-requires c =
    let seen : place_among (definitions_held c.self.inside) c.args.name.now ≡ place_among c.args.self.now c.args.name.now = ap (λ ds. place_among ds c.args.name.now) c.self.view_is in
    let count : length (definitions_held c.self.inside) ≡ length c.args.self.now = ap length c.self.view_is in
    let size : length (definitions_held c.self.inside) ≡ length c.self.inside.definitions.items = length-map c.self.inside.definitions.items defined_of in
    place-absent (λ key. key.items) defined_of c.args.name.now c.self.inside.names.keys c.self.inside.definitions.items c.self.invariant.named
    (omega (arith, c.in-Ok.ensures.absent, seen, count, size))

pub invariant_of-self : goal.invariant_of-self
invariant_of-self c =
    let keeps = Keeps-put c.put_last.result _ _ c.self.inside.definitions.items c.put_last.new.definitions.items _ (record { named = c.self.invariant.named; measured = c.self.invariant.measured; kept = c.self.invariant.kept })
    c.put_last.ensures.names c.put_last.ensures.definitions c.put_last.ensures.same_names c.put_last.ensures.same_definitions
    (c.in-Ok.ensures.extent ∙ ap (λ ds. option_map extent_of (expansion ds c.args.body)) (sym c.self.view_is))
    (subst (λ ds. IsKept c.in-Ok.expanded (expansion ds c.args.body)) (sym c.self.view_is) c.in-Ok.ensures.kept) in
    record { named = keeps.named; measured = keeps.measured; kept = keeps.kept }

pub invariant_of-self-in-Ok : goal.invariant_of-self-in-Ok
invariant_of-self-in-Ok c =
    let keeps = Keeps-push _ _ c.self.inside.definitions.items c.put_last.new.definitions.items _ (record { named = c.self.invariant.named; measured = c.self.invariant.measured; kept = c.self.invariant.kept })
    c.in_ok-put_last-in-Ok.ensures.names c.in_ok-put_last-in-Ok.ensures.definitions
    (c.in-Ok.ensures.extent ∙ ap (λ ds. option_map extent_of (expansion ds c.args.body)) (sym c.self.view_is))
    (subst (λ ds. IsKept c.in-Ok.expanded (expansion ds c.args.body)) (sym c.self.view_is) c.in-Ok.ensures.kept) in
    record { named = keeps.named; measured = keeps.measured; kept = keeps.kept }
