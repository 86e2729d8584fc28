-- the row of one edge, by its number
use Rattle.std.proofs.Common.{◌≡◌, ◌+◌, ◌-◌, List, drop, take, ap₂, ◌∙◌, arith}
use Rattle.omega_lang_product.specs.JointEdges.{numbered_from}
use Rattle.omega_lang_product.specs.declared.plain_edge.PlainEdge.{PlainEdge}
use Rattle.omega_lang_product.proofs.Alone.{numbered_alone}
use Rattle.omega_lang_product.proofs.row.Row.row_at.Goals as goal

pub returns-clause-numbered : goal.returns-clause-numbered
returns-clause-numbered c =
    let ts : List PlainEdge = c.args.self.now.edges.now in
    let at = c.args.at in
    let one : at + 1 - at ≡ 1 = omega arith in
    ap₂ (λ n k. numbered_from n (take k (drop at ts))) c.in_ok-before.ensures.ok one
    ∙ numbered_alone c.args.self.now.before at ts (omega (arith, c.requires))
