-- The shapes of nodes, node by node.
use Rattle.std.proofs.Common.{◌≡◌, inl, inr, ◌<◌, ◌+◌, ◌*◌, ℕ, Bool, true, false, List, [], ◌∷◌, ◌++◌, length}
use Rattle.std.proofs.Common.{refl, sym, ap, ap₂, subst, ◌∙◌, arith, get_or}
use Rattle.std.proofs.lemmas.Bool.{cases_lt}
use Rattle.std.proofs.lemmas.List.{get_or_append_left, get_or_at, get_or_default, length_push}
use Rattle.omega_ltl_formula.specs.Table.{node_at}
use Rattle.omega_ltl_formula.specs.declared.node.FormulaNode.{FormulaNode}
use Rattle.omega_ltl_formula.specs.declared.node.FormulaNode.TheVariants as node
use Rattle.omega_ltl_shapes.specs.Shapes.{AreShapesOf, demand, node_shape, shape_at, shape_of}
use Rattle.omega_ltl_shapes.specs.declared.combination.Combination.TheVariants.{Constant}
use Rattle.omega_ltl_shapes.specs.declared.shape.Shape.{Shape}
use Rattle.omega_ltl_shapes.specs.declared.shape.Shape.TheVariants.{Now}
use Rattle.omega_ltl_shapes.proofs.Numbering.{demand_node, demand_sign}

-- the shapes of the first nodes
pub record AreShapesBelow (nodes : List FormulaNode) (count : ℕ) (shapes : List Shape) : Type 0 where
  pub long : length shapes ≡ 2 * count
  pub each : (d : ℕ) → d < length shapes → shape_at shapes d ≡ shape_of nodes d

pub shapes_none : (nodes : List FormulaNode) → AreShapesBelow nodes 0 []
shapes_none nodes = record { long = refl; each = λ d low. absurd (omega arith) }

pub shapes_all : (nodes : List FormulaNode) (count : ℕ) (shapes : List Shape) → count ≡ length nodes → AreShapesBelow nodes count shapes → AreShapesOf nodes shapes
shapes_all nodes count shapes all are = record { count = are.long ∙ ap (λ (n : ℕ). 2 * n) all; each = are.each }

-- one shape more, whatever its number is
shape_more : (nodes : List FormulaNode) (shapes : List Shape) (shape : Shape) → ((d : ℕ) → d < length shapes → shape_at shapes d ≡ shape_of nodes d)
    → shape ≡ shape_of nodes (length shapes) → (d : ℕ) → d < length (shapes ++ shape ∷ []) → shape_at (shapes ++ shape ∷ []) d ≡ shape_of nodes d
shape_more nodes shapes shape each is d low = elim (cases_lt d (length shapes)) [
  | inl before ↦ get_or_append_left shapes (shape ∷ []) (Now (Constant false)) d before ∙ each d before
  | inr reached ↦ (let same : length shapes ≡ d = omega (arith, length_push shapes shape) in
      subst (λ (n : ℕ). shape_at (shapes ++ shape ∷ []) n ≡ shape_of nodes n) same (get_or_at shapes shape [] (Now (Constant false)) (length shapes) refl ∙ is))
]

shape_of_demand : (nodes : List FormulaNode) (number : ℕ) (negated : Bool) → node_shape (node_at nodes number) negated ≡ shape_of nodes (demand number negated)
shape_of_demand nodes number negated =
    ap₂ node_shape (ap (node_at nodes) (sym (demand_node number negated))) (sym (demand_sign number negated))

-- the two shapes of one node more
pub shapes_more : (nodes : List FormulaNode) (number : ℕ) (one other : FormulaNode) (shapes half new : List Shape) (positive negative : Shape) → number < length nodes
    → AreShapesBelow nodes number shapes → positive ≡ node_shape (get_or nodes number one) false → negative ≡ node_shape (get_or nodes number other) true
    → half ≡ shapes ++ positive ∷ [] → new ≡ half ++ negative ∷ [] → AreShapesBelow nodes (number + 1) new
shapes_more nodes number one other shapes half new positive negative low are p n e f =
    subst (AreShapesBelow nodes (number + 1)) (sym (f ∙ ap (λ (xs : List Shape). xs ++ negative ∷ []) e)) (record {
      long = (let a : length (shapes ++ positive ∷ []) ≡ length shapes + 1 = length_push shapes positive in
          let b : length ((shapes ++ positive ∷ []) ++ negative ∷ []) ≡ length (shapes ++ positive ∷ []) + 1 = length_push (shapes ++ positive ∷ []) negative in
          omega (arith, are.long));
      each = shape_more nodes (shapes ++ positive ∷ []) negative
          (shape_more nodes shapes positive are.each (read one false p ∙ shape_of_demand nodes number false ∙ ap (shape_of nodes) (let g : 2 * number ≡ length shapes = omega (arith, are.long) in g)))
          (read other true n ∙ shape_of_demand nodes number true ∙ ap (shape_of nodes)
          (let a : length (shapes ++ positive ∷ []) ≡ length shapes + 1 = length_push shapes positive in
          let g : 2 * number + 1 ≡ length (shapes ++ positive ∷ []) = omega (arith, are.long) in g));
    })
  where
    read : {shape : Shape} (d : FormulaNode) (negated : Bool) → shape ≡ node_shape (get_or nodes number d) negated → shape ≡ node_shape (node_at nodes number) negated
    read d negated is = is ∙ ap (λ (node : FormulaNode). node_shape node negated) (get_or_default nodes number d (node.Constant false) low)
