-- The place in the set is that among the definitions.
use Rattle.std.proofs.Common.{length, ap, sym, ◌∙◌}
use Rattle.std.proofs.lemmas.List.{length-map}
use Rattle.omega_hoa_label_text.specs.Expanding.{place_among}
use Rattle.omega_hoa_label_text.specs.private.Aliases.{defined_of}
use Rattle.omega_hoa_label_text.proofs.AliasLemmas.{place-found, place-missing}
use Rattle.omega_hoa_label_text.proofs.aliases.Aliases.place.Goals as goal

pub returns-in-Some : goal.returns-in-Some
returns-in-Some c =
    place-found (λ key. key.items) defined_of c.args.name.now c.self.inside.names.keys c.self.inside.definitions.items _ _ c.self.invariant.named c.get_index_of.ensures.index c.in-Some.is
    ∙ ap (λ definitions. place_among definitions c.args.name.now) c.self.view_is

pub returns-in-None : goal.returns-in-None
returns-in-None c =
    c.len.ensures
    ∙ (ap length (sym c.self.view_is)
    ∙ (length-map c.self.inside.definitions.items defined_of
    ∙ (place-missing (λ key. key.items) defined_of c.args.name.now c.self.inside.names.keys c.self.inside.definitions.items _ c.self.invariant.named c.get_index_of.ensures.index c.in-None.is
    ∙ ap (λ definitions. place_among definitions c.args.name.now) c.self.view_is)))
