-- the stem leads to the cycle
use Rattle.std.proofs.Common.{List, ℕ, sym, subst}
use Rattle.omega_graph.specs.Reaching.{IsWalkFrom}
use Rattle.omega_graph_accepting_walk.specs.Rows.{row_at}
use Rattle.omega_lang_lasso_search.specs.declared.search.LassoSearch.{LassoSearch}
use Rattle.omega_lang_lasso_search.specs.private.Searched.{Reaches, beginning, graph_of, usable_of}
use Rattle.omega_lang_lasso_search.proofs.Lassos.{first_inside, is_lasso}
use Rattle.omega_lang_lasso_search.proofs.finding.with_stem.Goals as goal

pub from-target-requires : goal.from-target-requires
from-target-requires c = first_inside c.args.search.now c.requires.ready c.args.cycle.now c.requires.cycle

pub returns-in-None-clause-none : goal.returns-in-None-clause-none
returns-in-None-clause-none c =
    let search : LassoSearch = c.args.search.now in
    let none = rw c.in-None.is at c.in_ok-path.ensures.none in
    λ reached. none (row_at search.marks.now) (subst (Reaches search) (sym c.from-target.ensures.from) reached)

pub returns-in_ok-verdict-in-Some-clause-verdict : goal.returns-in_ok-verdict-in-Some-clause-verdict
returns-in_ok-verdict-in-Some-clause-verdict c =
    let search : LassoSearch = c.args.search.now in
    let sources : List ℕ = search.sources.now in
    let stem : List ℕ = c.as_slice.result.now in
    let target : ℕ = beginning search c.args.cycle.now in
    let walk = rw c.in-Some.is at c.in_ok-path.ensures.walk in
    let way : IsWalkFrom (graph_of search) (usable_of search) sources stem target =
    subst (λ (xs : List ℕ). IsWalkFrom (graph_of search) (usable_of search) sources xs target) (sym c.as_slice.ensures.value)
    (subst (IsWalkFrom (graph_of search) (usable_of search) sources c.in-Some.stem.items) c.from-target.ensures.from (walk (row_at search.marks.now))) in
    λ a sought. c.in_ok-verdict-in-Some.ensures.verdict a (is_lasso c.args.search.now a sought stem c.args.cycle.now c.requires.cycle way)
