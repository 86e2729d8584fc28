-- the walk has no edge that the atom forbids, and a walk without them satisfies it
use Rattle.std.proofs.Common.{not}
use Rattle.std.proofs.lemmas.Bool.{and_from, and_parts, not-true, not_from_false}
use Rattle.omega_hoa_acceptance.specs.Acceptance.{accepts, occurs}
use Rattle.omega_graph.specs.Walks.{marks_on}
use Rattle.omega_graph.proofs.Forbidding.{avoided, avoiding, avoids}
use Rattle.omega_graph.proofs.rules.fin_takes_edges.Goals as goal

pub returns : goal.returns
returns c graph edges negated set formula = (
  λ has.
      let parts = and_parts (not (occurs (marks_on graph has.0) negated set)) (accepts (marks_on graph has.0) formula) has.1.accepted in (
        has.0,
        record {
          closed = avoids graph negated set edges has.0 has.1.closed (not-true (occurs (marks_on graph has.0) negated set) parts.0);
          accepted = parts.1;
        },
      ),
  λ has. (
    has.0,
    record {
      closed = avoiding graph negated set edges has.0 has.1.closed;
      accepted =
          and_from (not (occurs (marks_on graph has.0) negated set)) (accepts (marks_on graph has.0) formula)
          (not_from_false (occurs (marks_on graph has.0) negated set) (avoided graph negated set edges has.0 has.1.closed)) has.1.accepted;
    },
  ),
)
