-- It is that of the edge's label.
use Rattle.std.proofs.Common.{subst}
use Rattle.omega_hoa_edges.specs.Summaries.{IsSummaryOf}
use Rattle.omega_lang_product.specs.declared.plain_edge.PlainEdge.{PlainEdge}
use Rattle.omega_lang_product.proofs.tabled.Tabled.label_summary.Goals as goal

pub returns : goal.returns
returns c = subst (λ (edge : PlainEdge). IsSummaryOf edge.label c.self.inside.summary) c.self.view_is c.self.invariant.0
