-- the label of an edge that stays
use Rattle.std.proofs.Common.{◌≡◌, Bool, true, cond, [], ◌∷◌, Contains, refl, sym, ap, subst, ◌∙◌, arith}
use Rattle.std.specs.List.{list_all}
use Rattle.omega_hoa_automaton.specs.declared.edge.Edge.{Edge}
use Rattle.omega_hoa_edges.proofs.Refusals.{large_weaker, passed_on}
use Rattle.omega_lang_trim.specs.Trimmed.{edge_stays, stays}
use Rattle.omega_lang_trim.specs.private.Writing.{HaveDeepLabel, kept_alone, kept_by}
use Rattle.omega_lang_trim.proofs.edges.push_kept.Goals as goal

pub returns-in_err-raw-clause-err : goal.returns-in_err-raw-clause-err
returns-in_err-raw-clause-err c =
    let edge : Edge = kept_by c.args.keeping.now c.args.at c.args.edge.now in
    let stay : edge_stays c.args.keeping.now.kept.now.keys c.args.edge.now ≡ true =
    ap (list_all (stays c.args.keeping.now.kept.now.keys)) (sym c.targets.ensures) ∙ sym c.all_stay.ensures ∙ c.if-not-all_stay.false in
    passed_on c.from_residual.result _ _ c.from_residual.ensures.1
    (large_weaker _ (HaveDeepLabel (kept_alone c.args.keeping.now c.args.at c.args.edge.now))
    (λ deep. (edge, subst (λ (b : Bool). Contains (cond b (edge ∷ []) []) edge) (sym stay) (0, omega arith, refl), deep))
    _ c.in_err-raw.ensures.err)
