-- The formulas of nodes, as they are written piece by piece.
use Rattle.std.proofs.Common.{◌≡◌, ℕ, ◌+◌, ◌<◌, Bool, true, false, List, [], ◌∷◌, ◌++◌, length, refl, ap, ap₂}
use Rattle.std.proofs.Common.{sym, ◌∙◌, subst, arith, append_assoc, append-nil, codes}
use Rattle.std.specs.List.{AllByRecursion}
use Rattle.omega_ltl_formula.specs.Formula.{FormulaTree, binary, formula_size, unary}
use Rattle.omega_ltl_formula.specs.Table.{FormulaTable, IsFormula, IsPlaced, NodesAreOverNodes}
use Rattle.omega_ltl_formula.specs.Table.{NumberedFormula, node_at, tree_at, tree_of, tree_over}
use Rattle.omega_ltl_formula.specs.declared.node.FormulaNode.{FormulaNode}
use Rattle.omega_ltl_formula.specs.declared.node.FormulaNode.TheVariants.{Binary, Constant, Name, Unary}
use Rattle.omega_ltl_formula.specs.declared.operators.BinaryOperator.{BinaryOperator}
use Rattle.omega_ltl_formula.specs.declared.operators.UnaryOperator.{UnaryOperator}
use Rattle.omega_ltl_text.specs.Written.{binary_text, enclosed, formula_text, is_binary, space_after}
use Rattle.omega_ltl_text.specs.Written.{unary_text}
use Rattle.omega_ltl_text.specs.declared.unwritten.Unwritten.{Unwritten}
use Rattle.omega_ltl_text.specs.declared.unwritten.Unwritten.TheVariants.{Between, Closing, Node, Operand}
use Rattle.omega_ltl_text.specs.private.Nodes.{has_two}
use Rattle.omega_ltl_text.specs.private.Unwritten.{IsNodeAmong, Writes, unwritten_text, unwritten_texts, work}
use Rattle.omega_ltl_text.specs.private.Unwritten.{works}
use Rattle.omega_ltl_text.proofs.Elements.{all_push}

-- what was put last comes first
texts_push : (table : FormulaTable) (rest : List Unwritten) (last : Unwritten) → unwritten_texts table (rest ++ last ∷ []) ≡ unwritten_text table last ++ unwritten_texts table rest
texts_push table [] last = sym (append-nil (unwritten_text table last))
texts_push table (first ∷ rest) last =
    ap (λ (l : List ℕ). l ++ unwritten_text table first) (texts_push table rest last)
    ∙ append_assoc (unwritten_text table last) (unwritten_texts table rest) (unwritten_text table first)

works_push : (table : FormulaTable) (rest : List Unwritten) (last : Unwritten) → works table (rest ++ last ∷ []) ≡ work table last + works table rest
works_push table [] last = refl
works_push table (first ∷ rest) last = let more = works_push table rest last in omega (arith, more)

-- what is written and what is not are the text
pub record IsWriting (table : FormulaTable) (text written : List ℕ) (unwritten : List Unwritten) : Type 0 where
  pub whole : written ++ unwritten_texts table unwritten ≡ text
  pub nodes : AllByRecursion (IsNodeAmong (length table.nodes)) unwritten

pub writing_begins : (formula : NumberedFormula) (root : ℕ) (unwritten none : List Unwritten) (written : List ℕ) → IsFormula formula → root ≡ formula.root
    → written ≡ [] → none ≡ [] → unwritten ≡ none ++ Node root ∷ [] → IsWriting formula.table (formula_text (tree_of formula)) written unwritten
writing_begins formula root unwritten none written is rooted empty blank begun =
    subst (IsWriting formula.table (formula_text (tree_of formula)) written) (sym (begun ∙ ap₂ (λ (l : List Unwritten) (n : ℕ). l ++ Node n ∷ []) blank rooted))
    (subst (λ (w : List ℕ). IsWriting formula.table (formula_text (tree_of formula)) w (Node formula.root ∷ [])) (sym empty)
    (record { whole = refl; nodes = (is.rooted, tt) }))

pub writing_goes_on : (table : FormulaTable) (text before after : List ℕ) (all others left : List Unwritten) (next : Unwritten) → IsWriting table text before all
    → all ≡ others ++ next ∷ [] → Writes table next others left before after → IsWriting table text after left
writing_goes_on table text before after all others left next is split writes = record {
  whole = writes.text
      ∙ (ap (λ (l : List ℕ). before ++ l) (sym (texts_push table others next))
      ∙ (ap (λ (l : List Unwritten). before ++ unwritten_texts table l) (sym split) ∙ is.whole));
  nodes = writes.nodes;
}

pub writing_ends : (table : FormulaTable) (text written : List ℕ) (unwritten : List Unwritten) → IsWriting table text written unwritten → unwritten ≡ [] → written ≡ text
writing_ends table text written unwritten is none =
    sym (append-nil written) ∙ (ap (λ (l : List Unwritten). written ++ unwritten_texts table l) (sym none) ∙ is.whole)

pub writing_shrinks : (table : FormulaTable) (before after : List ℕ) (all others left : List Unwritten) (next : Unwritten) → all ≡ others ++ next ∷ []
    → Writes table next others left before after → works table left < works table all
writing_shrinks table before after all others left next split writes =
    let sum : works table all ≡ work table next + works table others = ap (works table) split ∙ works_push table others next in
    omega (arith, sum, writes.less)

-- one piece
module _ (table : FormulaTable) (others : List Unwritten) (are : AllByRecursion (IsNodeAmong (length table.nodes)) others) where
  -- is written as a whole
  pub whole_written : (next : Unwritten) (before after : List ℕ) → 0 < work table next → after ≡ before ++ unwritten_text table next → Writes table next others others before after
  whole_written next before after some is = record {
    text = ap (λ (l : List ℕ). l ++ unwritten_texts table others) is ∙ append_assoc before (unwritten_text table next) (unwritten_texts table others);
    nodes = are;
    less = omega (arith, some);
  }

  -- or an operator before its operand
  pub unary_written : (number part : ℕ) (op : UnaryOperator) (within : Bool) (before after : List ℕ) (left : List Unwritten)
      → tree_at table number ≡ unary op (tree_at table part) → part < length table.nodes → within ≡ is_binary (tree_at table part)
      → after ≡ before ++ (unary_text op ++ space_after op within) → left ≡ others ++ Operand part ∷ [] → Writes table (Node number) others left before after
  unary_written number part op within before after left is among two wrote put = record {
    text =
        ap₂ (λ (l : List ℕ) (u : List Unwritten). l ++ unwritten_texts table u) wrote put
        ∙ (ap (λ (l : List ℕ). (before ++ (unary_text op ++ space_after op within)) ++ l) (texts_push table others (Operand part))
        ∙ (append_assoc before (unary_text op ++ space_after op within) (unwritten_text table (Operand part) ++ unwritten_texts table others)
        ∙ ap (λ (l : List ℕ). before ++ l) (
        sym (append_assoc (unary_text op ++ space_after op within) (unwritten_text table (Operand part)) (unwritten_texts table others))
        ∙ ap (λ (l : List ℕ). l ++ unwritten_texts table others) (
        append_assoc (unary_text op) (space_after op within) (unwritten_text table (Operand part))
        ∙ (ap (λ (b : Bool). unary_text op ++ (space_after op b ++ unwritten_text table (Operand part))) two
        ∙ ap formula_text (sym is))))));
    nodes = subst (AllByRecursion (IsNodeAmong (length table.nodes))) (sym put) (all_push (IsNodeAmong (length table.nodes)) others (Operand part) are among);
    less =
        let size : formula_size (tree_at table number) ≡ formula_size (tree_at table part) + 1 = ap formula_size is in
        let sum : works table left ≡ work table (Operand part) + works table others = ap (works table) put ∙ works_push table others (Operand part) in
        omega (arith, size, sum);
  }

  -- or nothing of an operator between its operands
  pub binary_written : (number one other : ℕ) (op : BinaryOperator) (before : List ℕ) (first second left : List Unwritten)
      → tree_at table number ≡ binary op (tree_at table one) (tree_at table other) → one < length table.nodes → other < length table.nodes
      → first ≡ others ++ Operand other ∷ [] → second ≡ first ++ Between op ∷ [] → left ≡ second ++ Operand one ∷ []
      → Writes table (Node number) others left before before
  binary_written number one other op before first second left is one_among other_among first_is second_is left_is =
      let count : ℕ = length table.nodes in
      let text_one : List ℕ = unwritten_text table (Operand one) in
      let text_other : List ℕ = unwritten_text table (Operand other) in
      let text_between : List ℕ = unwritten_text table (Between op) in
      let between_is : text_between ++ text_other ≡ codes " " ++ (binary_text op ++ (codes " " ++ text_other)) =
      append_assoc (codes " ") (binary_text op ++ codes " ") text_other ∙ ap (λ (l : List ℕ). codes " " ++ l) (append_assoc (binary_text op) (codes " ") text_other) in
      record {
        text = ap (λ (l : List ℕ). before ++ l) (
            ap (unwritten_texts table) left_is
            ∙ (texts_push table second (Operand one)
            ∙ (ap (λ (l : List ℕ). text_one ++ l) (
            ap (unwritten_texts table) second_is
            ∙ (texts_push table first (Between op)
            ∙ ap (λ (l : List ℕ). text_between ++ l) (ap (unwritten_texts table) first_is ∙ texts_push table others (Operand other))))
            ∙ (ap (λ (l : List ℕ). text_one ++ l) (sym (append_assoc text_between text_other (unwritten_texts table others)))
            ∙ (sym (append_assoc text_one (text_between ++ text_other) (unwritten_texts table others))
            ∙ ap (λ (l : List ℕ). l ++ unwritten_texts table others) (ap (λ (l : List ℕ). text_one ++ l) between_is ∙ ap formula_text (sym is)))))));
        nodes = subst (AllByRecursion (IsNodeAmong count)) (sym left_is)
            (all_push (IsNodeAmong count) second (Operand one)
            (subst (AllByRecursion (IsNodeAmong count)) (sym second_is)
            (all_push (IsNodeAmong count) first (Between op) (subst (AllByRecursion (IsNodeAmong count)) (sym first_is) (all_push (IsNodeAmong count) others (Operand other) are other_among)) tt)) one_among);
        less =
            let size : formula_size (tree_at table number) ≡ formula_size (tree_at table one) + formula_size (tree_at table other) + 1 = ap formula_size is in
            let sum : works table left ≡ work table (Operand one) + works table second = ap (works table) left_is ∙ works_push table second (Operand one) in
            let sum_second : works table second ≡ work table (Between op) + works table first = ap (works table) second_is ∙ works_push table first (Between op) in
            let sum_first : works table first ≡ work table (Operand other) + works table others = ap (works table) first_is ∙ works_push table others (Operand other) in
            omega (arith, size, sum, sum_second, sum_first);
      }

  -- an operand begins with a parenthesis
  pub group_written : (number : ℕ) (before after : List ℕ) (closed left : List Unwritten) → number < length table.nodes → is_binary (tree_at table number) ≡ true
      → after ≡ before ++ 40 ∷ [] → closed ≡ others ++ Closing ∷ [] → left ≡ closed ++ Node number ∷ [] → Writes table (Operand number) others left before after
  group_written number before after closed left among two wrote closed_is left_is =
      let text : List ℕ = formula_text (tree_at table number) in
      record {
        text =
            ap₂ (λ (l : List ℕ) (u : List Unwritten). l ++ unwritten_texts table u) wrote left_is
            ∙ (ap (λ (l : List ℕ). (before ++ 40 ∷ []) ++ l) (
            texts_push table closed (Node number)
            ∙ ap (λ (l : List ℕ). text ++ l) (ap (unwritten_texts table) closed_is ∙ texts_push table others Closing))
            ∙ (append_assoc before (40 ∷ []) (text ++ (41 ∷ [] ++ unwritten_texts table others))
            ∙ ap (λ (l : List ℕ). before ++ l) (
            ap (λ (l : List ℕ). 40 ∷ l) (sym (append_assoc text (41 ∷ []) (unwritten_texts table others)))
            ∙ ap (λ (b : Bool). enclosed b text ++ unwritten_texts table others) (sym two))));
        nodes = subst (AllByRecursion (IsNodeAmong (length table.nodes))) (sym left_is)
            (all_push (IsNodeAmong (length table.nodes)) closed (Node number)
            (subst (AllByRecursion (IsNodeAmong (length table.nodes))) (sym closed_is) (all_push (IsNodeAmong (length table.nodes)) others Closing are tt)) among);
        less =
            let sum : works table left ≡ work table (Node number) + works table closed = ap (works table) left_is ∙ works_push table closed (Node number) in
            let sum_closed : works table closed ≡ work table Closing + works table others = ap (works table) closed_is ∙ works_push table others Closing in
            omega (arith, sum, sum_closed);
      }

  -- or is its node
  pub bare_written : (number : ℕ) (before after : List ℕ) (same left : List Unwritten) → number < length table.nodes → is_binary (tree_at table number) ≡ false
      → after ≡ before → same ≡ others → left ≡ same ++ Node number ∷ [] → Writes table (Operand number) others left before after
  bare_written number before after same left among one wrote same_is put =
      let left_is : left ≡ others ++ Node number ∷ [] = put ∙ ap (λ (l : List Unwritten). l ++ Node number ∷ []) same_is in
      record {
        text =
            ap₂ (λ (l : List ℕ) (u : List Unwritten). l ++ unwritten_texts table u) wrote left_is
            ∙ ap (λ (l : List ℕ). before ++ l) (
            texts_push table others (Node number)
            ∙ ap (λ (b : Bool). enclosed b (formula_text (tree_at table number)) ++ unwritten_texts table others) (sym one));
        nodes = subst (AllByRecursion (IsNodeAmong (length table.nodes))) (sym left_is) (all_push (IsNodeAmong (length table.nodes)) others (Node number) are among);
        less =
            let sum : works table left ≡ work table (Node number) + works table others = ap (works table) left_is ∙ works_push table others (Node number) in
            omega (arith, sum);
      }

binary_over : (names : List (List ℕ)) (operand : ℕ → FormulaTree) (node : FormulaNode) → is_binary (tree_over names operand node) ≡ has_two node
binary_over names operand (Constant value) = refl
binary_over names operand (Name number) = refl
binary_over names operand (Unary op part) = refl
binary_over names operand (Binary op left right) = refl

module _ (formula : NumberedFormula) (is : IsFormula formula) (over : NodesAreOverNodes) (number : ℕ) (within : number < length formula.table.nodes) where
  pub two_is : has_two (node_at formula.table.nodes number) ≡ is_binary (tree_at formula.table number)
  two_is = sym (ap is_binary (over formula.table number is.table within)
      ∙ binary_over formula.table.names (tree_at formula.table) (node_at formula.table.nodes number))

  tree_is : (node : FormulaNode) → node_at formula.table.nodes number ≡ node → tree_at formula.table number ≡ tree_over formula.table.names (tree_at formula.table) node
  tree_is node e = over formula.table number is.table within ∙ ap (tree_over formula.table.names (tree_at formula.table)) e

  placed_is : (node : FormulaNode) → node_at formula.table.nodes number ≡ node → IsPlaced (length formula.table.names) number node
  placed_is node e = subst (IsPlaced (length formula.table.names) number) e (is.table.placed number within)

  -- an operator of one operand
  pub unary_is : (op : UnaryOperator) (part : ℕ) → node_at formula.table.nodes number ≡ Unary op part → tree_at formula.table number ≡ unary op (tree_at formula.table part)
  unary_is op part e = tree_is (Unary op part) e

  pub part_within : (op : UnaryOperator) (part : ℕ) → node_at formula.table.nodes number ≡ Unary op part → part < length formula.table.nodes
  part_within op part e = let placed : part < number = placed_is (Unary op part) e in omega (arith, placed, within)

  -- an operator of two operands
  pub binary_is : (op : BinaryOperator) (left right : ℕ) → node_at formula.table.nodes number ≡ Binary op left right
      → tree_at formula.table number ≡ binary op (tree_at formula.table left) (tree_at formula.table right)
  binary_is op left right e = tree_is (Binary op left right) e

  pub left_within : (op : BinaryOperator) (left right : ℕ) → node_at formula.table.nodes number ≡ Binary op left right → left < length formula.table.nodes
  left_within op left right e = let placed : left < number = (placed_is (Binary op left right) e).0 in omega (arith, placed, within)

  pub right_within : (op : BinaryOperator) (left right : ℕ) → node_at formula.table.nodes number ≡ Binary op left right → right < length formula.table.nodes
  right_within op left right e = let placed : right < number = (placed_is (Binary op left right) e).1 in omega (arith, placed, within)
