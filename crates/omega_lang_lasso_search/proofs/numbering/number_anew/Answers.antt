-- the names are the states that were met
use Rattle.std.proofs.Common.{◌≡◌, ◌<◌, ℕ, List, length, ap, ◌∙◌, arith}
use Rattle.std.proofs.lemmas.List.Elements.{All-weaker}
use Rattle.omega_lang_lasso_search.proofs.Names.{all_below, apart, length_grown, names_kept}
use Rattle.omega_lang_lasso_search.proofs.numbering.number_anew.Goals as goal

pub graph_of-requires-clause-before : goal.graph_of-requires-clause-before
graph_of-requires-clause-before c =
    let some = length_grown _ c.new-met.result.keys c.sources.new.met.keys c.in_ok-sources.ensures.grows in
    let none : length c.new-met.result.keys ≡ 0 = ap (λ (keys : List ℕ). length keys) c.new-met.ensures.empty in
    omega arith

pub returns-clause-numbered : goal.returns-clause-numbered
returns-clause-numbered c =
    let keys : List ℕ = c.sources.new.met.keys in
    let names : List ℕ = c.graph_of.new.met.keys in
    let grows = c.in_ok-graph.ensures.grows in
    let some = length_grown _ c.new-met.result.keys c.sources.new.met.keys c.in_ok-sources.ensures.grows in
    let none : length c.new-met.result.keys ≡ 0 = ap (λ (keys : List ℕ). length keys) c.new-met.ensures.empty in (
      names,
      record {
        apart = apart names c.in_ok-graph.ensures.distinct;
        inside = c.in_ok-graph.ensures.inside;
        ends = c.in_ok-graph.ensures.ends;
        within = all_below _ keys names c.in_ok-sources.sources.items grows c.in_ok-sources.ensures.within;
        states = All-weaker (λ source. source < length keys) (λ source. source < c.in_ok-graph.graph.states) (λ source low. let states = c.in_ok-graph.ensures.states in omega arith)
            c.in_ok-sources.sources.items c.in_ok-sources.ensures.within;
        starts_are = names_kept _ keys names c.in_ok-sources.sources.items grows c.in_ok-sources.ensures.within ∙ c.in_ok-sources.ensures.names;
      },
    )
