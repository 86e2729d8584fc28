-- Rows of a table that are made.
use Rattle.std.proofs.Common.{◌≡◌, ℕ, ◌<◌, nat_eq, List, [], length, map, get_or, Option, Some, None, position, sym, ap, subst, ◌∙◌, true≢false}
use Rattle.std.specs.Prelude.{IfSome}
use Rattle.std.specs.Option.{IsSome}
use Rattle.std.proofs.lemmas.List.{get_or-map}
use Rattle.omega_hoa_automaton.specs.declared.state.State.{State}
use Rattle.omega_lang_product.specs.PlainEdges.{View, plain_edges_at}
use Rattle.omega_lang_product.specs.private.Tables.{HasRow, IsTableOf, row_of}
use Rattle.omega_lang_product.specs.declared.table.Table.{Table}
use Rattle.omega_lang_product.specs.declared.plain_edge.PlainEdge.{PlainEdge}
use Rattle.omega_lang_product.proofs.Rows.{row_found}

-- the row that is made of the state at the place of a number is that of the number
pub row_here : (view : View) (states : List State) (table : Table) (number place : ℕ) (state : State) → IsTableOf view states table
    → position (nat_eq number) table.numbers.keys ≡ Some place → place < length states → state ≡ get_or states place state
    → row_of view state ≡ plain_edges_at view states number
row_here view states table number place state are found below here =
    ap (row_of view) here ∙ sym (get_or-map (row_of view) states place state [] below)
    ∙ sym (row_found view states table.numbers.keys table.firsts.items number place are.numbered found)

-- what is made is the row
made_is : (row : Option (List PlainEdge)) (edges wanted : List PlainEdge) → IsSome row → IfSome row (λ r. edges ≡ r) → IfSome row (λ r. r ≡ wanted) → edges ≡ wanted
made_is None edges wanted some is are = absurd (true≢false (sym some))
made_is (Some r) edges wanted some is are = is ∙ are

pub row_made : (view : View) (states : List State) (table : Table) (number place : ℕ) (edges : List PlainEdge) → IsTableOf view states table → HasRow table number
    → position (nat_eq number) table.numbers.keys ≡ Some place → IfSome (get_or table.rows.items place None) (λ row. edges ≡ row)
    → edges ≡ plain_edges_at view states number
row_made view states table number place edges are has found is =
    made_is (get_or table.rows.items place None) edges (get_or (map (row_of view) states) place [])
    (subst (λ (at : Option ℕ). IfSome at (λ k. IsSome (get_or table.rows.items k None))) found has) is (are.rows.each place)
    ∙ sym (row_found view states table.numbers.keys table.firsts.items number place are.numbered found)
