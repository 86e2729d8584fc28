-- The name stands as it is, or in quotes.
use Rattle.std.proofs.Common.{◌++◌, ◌∷◌, [], Bool, List, ℕ, ap, sym, ◌∙◌, append_assoc, if◌then◌else◌}
use Rattle.omega_ltl_text.proofs.names.write_name.Goals as goal

pub returns-then-stands_bare-clause-text : goal.returns-then-stands_bare-clause-text
returns-then-stands_bare-clause-text c =
    c.in_ok-extend_from_slice.ensures.items
    ∙ ap (λ (b : Bool). c.args.out.now.items ++ (if b then c.args.name.now else 34 ∷ (c.args.name.now ++ 34 ∷ [])))
    (sym c.if-stands_bare.true ∙ c.stands_bare.ensures)

pub returns-clause-text : goal.returns-clause-text
returns-clause-text c =
    c.in_ok-push-2.ensures.items
    ∙ (ap (λ (l : List ℕ). l ++ 34 ∷ []) (c.in_ok-extend_from_slice-2.ensures.items ∙ ap (λ (l : List ℕ). l ++ c.args.name.now) c.in_ok-push.ensures.items)
    ∙ (append_assoc (c.args.out.now.items ++ 34 ∷ []) c.args.name.now (34 ∷ [])
    ∙ (append_assoc c.args.out.now.items (34 ∷ []) (c.args.name.now ++ 34 ∷ [])
    ∙ ap (λ (b : Bool). c.args.out.now.items ++ (if b then c.args.name.now else 34 ∷ (c.args.name.now ++ 34 ∷ [])))
    (sym c.if-stands_bare.false ∙ c.stands_bare.ensures))))
