-- They are those of the edge's label.
use Rattle.std.proofs.Common.{subst}
use Rattle.std.specs.Prelude.{IfSome}
use Rattle.omega_hoa_satisfiable.specs.Literals.{AreLiteralsOf}
use Rattle.omega_lang_product.specs.declared.plain_edge.PlainEdge.{PlainEdge}
use Rattle.omega_lang_product.proofs.tabled.Tabled.label_literals.Goals as goal

pub returns : goal.returns
returns c = subst (λ (edge : PlainEdge). IfSome c.self.inside.literals (AreLiteralsOf edge.label)) c.self.view_is c.self.invariant.1
