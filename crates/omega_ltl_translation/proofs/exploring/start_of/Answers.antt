-- the closed set of the root, or the root alone
use Rattle.std.proofs.Common.{[], ◌∷◌, sym, subst}
use Rattle.std.specs.Prelude.{IfNone, IfSome}
use Rattle.omega_ltl_terms.specs.Closing.{AreNeverTrue, IsClosedSet}
use Rattle.omega_ltl_translation.specs.PastLimits.{IsStart, start_closed, start_false}
use Rattle.omega_ltl_translation.proofs.exploring.start_of.Goals as goal

pub returns-in-Some-clause-start : goal.returns-in-Some-clause-start
returns-in-Some-clause-start c = start_closed c.in-Some.start
    (subst (λ found. IfSome found (IsClosedSet c.args.tables.now.shapes (c.args.root ∷ []))) c.in-Some.is c.in_ok-start.ensures.exact)

pub returns-in-None-clause-start : goal.returns-in-None-clause-start
returns-in-None-clause-start c = subst (IsStart c.args.tables.now.shapes c.args.root) (sym c.one.ensures)
    (start_false (subst (λ found. IfNone found (AreNeverTrue c.args.tables.now.shapes (c.args.root ∷ []))) c.in-None.is c.in_ok-start.ensures.none))
