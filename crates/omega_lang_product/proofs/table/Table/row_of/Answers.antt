-- the row of the state at its place, or none
use Rattle.std.proofs.Common.{◌≡◌, ap, ap₂, sym, ◌∙◌}
use Rattle.omega_lang_product.specs.JointEdges.{numbered_from}
use Rattle.omega_hoa_automaton.specs.Automaton.{edges_before}
use Rattle.omega_lang_product.specs.PlainEdges.{plain_edges_at}
use Rattle.omega_lang_product.proofs.Made.{row_made}
use Rattle.omega_lang_product.proofs.Rows.{first_found, row_missing}
use Rattle.omega_lang_product.proofs.table.Table.row_of.Goals as goal

pub returns-in-Some : goal.returns-in-Some
returns-in-Some c = λ view states are.
    (let table = c.args.self.now in
    let edges : c.row.result.now ≡ plain_edges_at view states c.args.number =
    row_made view states table c.args.number c.in-Some.place c.row.result.now are c.requires (sym c.in-Some.ensures.index) c.row.ensures in
    let before : c.first_edge.result ≡ edges_before states c.args.number =
    c.first_edge.ensures ∙ first_found states table.numbers.keys table.firsts.items c.args.number c.in-Some.place are.numbered (sym c.in-Some.ensures.index) in
    record { edges = edges; numbered = ap₂ numbered_from before edges })

pub returns-in-None : goal.returns-in-None
returns-in-None c = λ view states are.
    (let table = c.args.self.now in
    let none = sym (row_missing view states table.numbers.keys table.firsts.items c.args.number are.numbered (sym c.in-None.ensures.index)) in
    record { edges = none; numbered = ap (numbered_from (edges_before states c.args.number)) none })
