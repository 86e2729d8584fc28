-- the parts that were made are a search, in each automaton of the table
use Rattle.std.proofs.Common.{◌≡◌, ◌<◌, List, ℕ, length, map, All, sym, ap, subst, ◌∙◌}
use Rattle.std.proofs.lemmas.List.{length-map}
use Rattle.omega_graph.specs.declared.edge.Edge.{Edge}
use Rattle.omega_lang_lasso_search.specs.private.Numbering.{AreNamed, ends_in, first_of}
use Rattle.omega_lang_lasso_search.proofs.finding.verdict_by_search.Goals as goal

pub found_in-requires : goal.found_in-requires
found_in-requires c =
    let numbered = c.in_ok-numbered.ensures.numbered in
    let graph = c.in_ok-numbered.numbered.graph in
    let count : length c.args.given.now.ends.now ≡ length graph.edges =
    ap (λ (list : List Edge). length list) (sym numbered.1.ends) ∙ length-map graph.edges (ends_in numbered.0) in
    record {
      marks = c.requires.marks ∙ count;
      edges = subst (λ (n : ℕ). All (λ number. number < n) c.args.given.now.edges.now) count c.requires.edges;
      sources = subst (λ (sources : List ℕ). All (λ source. source < graph.states) sources) (sym c.as_slice.ensures.value) numbered.1.states;
    }

pub returns-clause-verdict : goal.returns-clause-verdict
returns-clause-verdict c = λ a given.
    (let numbered = c.in_ok-numbered.ensures.numbered in
    let graph = c.in_ok-numbered.numbered.graph in
    let named = subst (λ (sources : List ℕ). AreNamed c.args.given.now.starts.now c.args.given.now.ends.now numbered.0 sources graph) (sym c.as_slice.ensures.value) numbered.1 in
    c.in_ok-verdict.ensures.verdict a (record {
      single = given.tabled.single;
      marks_are = given.tabled.marks_are;
      names = numbered.0;
      numbered = subst (λ (ends : List Edge). AreNamed (map first_of a.starts) ends numbered.0 c.as_slice.result.now graph) (sym given.tabled.ends_are)
          (subst (λ (starts : List ℕ). AreNamed starts c.args.given.now.ends.now numbered.0 c.as_slice.result.now graph) (sym given.tabled.starts_are) named);
      usable = given.usable;
      formula_is = given.tabled.formula_is;
    }))
