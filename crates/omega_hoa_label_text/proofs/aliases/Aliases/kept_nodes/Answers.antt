-- What is kept at a place are the nodes of what the definition there means.
use Rattle.std.proofs.Common.{[], length, ap, subst, sym, ◌∙◌, arith, ◌≡◌}
use Rattle.std.proofs.lemmas.List.{length-map}
use Rattle.omega_hoa_label_text.specs.private.Aliases.{defined_of, definitions_held}
use Rattle.omega_hoa_label_text.specs.private.Emitting.{IsKeptAt}
use Rattle.omega_hoa_label_text.proofs.KeptLemmas.{kept-at}
use Rattle.omega_hoa_label_text.proofs.aliases.Aliases.kept_nodes.Goals as goal

pub returns-in-Some : goal.returns-in-Some
returns-in-Some c =
    let items = c.self.inside.definitions.items in
    let count : length (definitions_held c.self.inside) ≡ length items = length-map items defined_of in
    let seen : length (definitions_held c.self.inside) ≡ length c.args.self.now = ap length c.self.view_is in
    subst (λ ds. IsKeptAt ds c.args.place c.as_slice.result.now) c.self.view_is
    (λ body is. c.as_slice.ensures
    ∙ kept-at [] items c.args.place c.index.result.now _ body c.self.invariant.kept (omega (arith, c.requires, count, seen))
    (sym (ap (λ d. d.expanded) c.index.ensures) ∙ c.in-Some.is) is)
