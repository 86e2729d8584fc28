-- no closed walk accepts, or one does and perhaps a stem leads to it
use Rattle.std.proofs.Common.{ℕ, List, sym, subst}
use Rattle.omega_lang_lasso_search.specs.declared.search.LassoSearch.{LassoSearch}
use Rattle.omega_lang_lasso_search.specs.private.Searched.{IsAcceptingCycle}
use Rattle.omega_lang_lasso_search.proofs.Lassos.{no_lasso}
use Rattle.omega_lang_lasso_search.proofs.finding.found_in.Goals as goal

pub returns-in-None-clause-verdict : goal.returns-in-None-clause-verdict
returns-in-None-clause-verdict c =
    let none = rw c.in-None.is at c.in_ok-found.ensures.none in
    λ a sought. no_lasso c.args.search.now a sought none

pub with_stem-requires-clause-cycle : goal.with_stem-requires-clause-cycle
with_stem-requires-clause-cycle c =
    let search : LassoSearch = c.args.search.now in
    let walk = rw c.in-Some.is at c.in_ok-found.ensures.walk in
    subst (λ (cycle : List ℕ). IsAcceptingCycle search cycle) (sym c.as_slice.ensures.value) walk
