-- all edges are usable, and the verdict is one on an automaton of the table
use Rattle.std.proofs.Common.{◌≡◌, ◌<◌, ℕ, List, length, All, sym, ap, subst, ◌∙◌}
use Rattle.std.proofs.lemmas.List.{length-map}
use Rattle.omega_hoa_automaton.specs.Automaton.{Description, edges_of}
use Rattle.omega_hoa_acceptance.specs.Acceptance.{AccTree}
use Rattle.omega_graph.specs.declared.edge.Edge.{Edge}
use Rattle.omega_lang_lasso_search.specs.Tabled.{AreUsableEdges, ends_of}
use Rattle.omega_lang_lasso_search.proofs.Numbers.{all_usable, numbers_inside}
use Rattle.omega_lang_lasso_search.proofs.Tables.{automaton_made, made_tabled, made_usable, on_table}
use Rattle.omega_lang_lasso_search.proofs.finding.lasso_in_table.Goals as goal

pub verdict_by_search-requires : goal.verdict_by_search-requires
verdict_by_search-requires c = record {
  marks = c.requires;
  edges = subst (λ (numbers : List ℕ). All (λ number. number < length c.args.ends.now) numbers) (sym (c.as_slice.ensures.value ∙ c.in_ok-edges.ensures))
      (numbers_inside (length c.args.ends.now));
}

pub returns-clause-verdict : goal.returns-clause-verdict
returns-clause-verdict c =
    let starts : List ℕ = c.args.starts.now in
    let ends : List Edge = c.args.ends.now in
    let marks : List (List ℕ) = c.args.marks.now in
    let formula : AccTree = c.args.formula.now in
    let a : Description = automaton_made starts ends marks formula in
    let tabled = made_tabled starts ends marks formula c.requires in
    let usable = made_usable starts ends marks formula c.requires in
    let count : length (edges_of a) ≡ length ends =
    sym (length-map (edges_of a) ends_of) ∙ ap (λ (list : List Edge). length list) tabled.ends_are in
    on_table starts ends marks formula a tabled usable c.in_ok-verdict.verdict
    (c.in_ok-verdict.ensures.verdict a (record {
      tabled = tabled;
      usable = subst (AreUsableEdges a) (sym (c.as_slice.ensures.value ∙ c.in_ok-edges.ensures)) (all_usable a (length ends) count usable);
    }))
