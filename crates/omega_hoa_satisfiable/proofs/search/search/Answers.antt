-- As long as the search goes on, at least one step is left to visit.
use Rattle.std.proofs.Common.{◌≡◌, ◌<◌, ap, arith}
use Rattle.omega_hoa_satisfiable.specs.Limits.{most_visited}
use Rattle.omega_hoa_satisfiable.specs.private.Leading.{leads}
use Rattle.omega_hoa_satisfiable.specs.private.Visits.{pending_visits, visits}
use Rattle.omega_hoa_satisfiable.proofs.Leading.{visits-positive}
use Rattle.omega_hoa_satisfiable.proofs.search.search.Goals as goal

pub loop-visit-init : goal.loop-visit-init
loop-visit-init c =
    let none : pending_visits (visits c.args.steps.now) c.new-branches.result.later.items ≡ 0 =
    ap (pending_visits (visits c.args.steps.now)) c.new-branches.ensures.visited in
    record {
      leading = λ held. c.new-branches.ensures.leading held (leads held c.args.steps.now) (leads held c.args.steps.now c.args.start);
      pending = c.new-branches.ensures.pending;
      visited = omega (arith, none);
    }

pub returns-clause-none : goal.returns-clause-none
returns-clause-none c =
    let over : most_visited < visits c.args.steps.now c.args.start =
    omega (arith, c.loop-visit.invariant.visited, c.loop-visit-test.false, visits-positive c.args.steps.now c.loop-visit.place) in
    over
