use Rattle.std.proofs.Common.{List, subst}
use Rattle.std.specs.Prelude.{IfNone, IfOk, IfSome}
use Rattle.omega_ltl_shapes.specs.declared.shape.Shape.{Shape}
use Rattle.omega_ltl_terms.specs.Closing.{AreNeverTrue, IsClosedSet}
use Rattle.omega_ltl_terms.proofs.tables.Tables.closed.Goals as goal

pub returns-clause-none : goal.returns-clause-none
returns-clause-none c =
    subst (λ (shapes : List Shape). IfOk c.closed.result (λ found. IfNone found (AreNeverTrue shapes c.args.demands.now))) c.as_slice.ensures c.closed.ensures.none

pub returns-clause-exact : goal.returns-clause-exact
returns-clause-exact c =
    subst (λ (shapes : List Shape). IfOk c.closed.result (λ found. IfSome found (IsClosedSet shapes c.args.demands.now))) c.as_slice.ensures c.closed.ensures.exact
