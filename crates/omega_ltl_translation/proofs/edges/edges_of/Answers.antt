use Rattle.std.proofs.Common.{List, sym, subst}
use Rattle.std.specs.List.{AllZip}
use Rattle.std.proofs.lemmas.Result.{IfOk-weaker}
use Rattle.omega_ltl_translation.specs.declared.joining.JoinedEdge.{JoinedEdge}
use Rattle.omega_ltl_translation.specs.private.Joining.{AreFilled}
use Rattle.omega_ltl_translation.specs.private.Written.{IsWrittenEdge}
use Rattle.omega_ltl_translation.proofs.edges.edges_of.Goals as goal

pub returns-clause-edges : goal.returns-clause-edges
returns-clause-edges c = IfOk-weaker c.written_edges.result _ _
    (λ raw written. record {
      joined = c.in_ok-joined.joined.items;
      are_joined = c.in_ok-joined.ensures.joined;
      written = subst (λ (js : List JoinedEdge). AllZip (IsWrittenEdge c.args.sets) js raw) c.as_slice.ensures.value written;
    })
    c.written_edges.ensures.edges

pub written_edges-requires : goal.written_edges-requires
written_edges-requires c = subst AreFilled (sym c.as_slice.ensures.value) c.in_ok-joined.ensures.joined.filled
