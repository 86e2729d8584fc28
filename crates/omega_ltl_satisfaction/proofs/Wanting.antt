-- Marks of the nodes that a part of a formula needs.
use Rattle.std.proofs.Common.{◌≡◌, ◌⊎◌, inl, inr, ℕ, ◌+◌, ◌-◌, ◌<◌, ◌≤◌, Bool, true, false, List, length}
use Rattle.std.proofs.Common.{refl, sym}
use Rattle.std.proofs.Common.{◌∙◌, ◌++◌, ap₂, drop, subst, take, take_at, arith, if◌then◌else◌}
use Rattle.std.specs.Prelude.{slice_index_or, slice_set}
use Rattle.std.proofs.lemmas.Bool.{cases_lt}
use Rattle.std.proofs.lemmas.List.{get_or-set_other, get_or-set_same, length-set}
use Rattle.omega_ltl_formula.specs.Table.{FormulaTable, IsPlaced, IsTable, node_at}
use Rattle.omega_ltl_formula.specs.declared.node.FormulaNode.{FormulaNode}
use Rattle.omega_ltl_formula.specs.declared.node.FormulaNode.TheVariants.{Binary, Constant, Name, Unary}
use Rattle.omega_ltl_satisfaction.specs.private.Wanted.{HasOperands, IsMarked, IsWanting, marked}
use Rattle.omega_ltl_satisfaction.specs.private.Wanted.{with_operands}

-- marks have become others: those from a place on stay, and none is lost
record Grows (from : ℕ) (old new : List Bool) : Type 0 where
  long : length new ≡ length old
  later : (k : ℕ) → from ≤ k → slice_index_or new k false ≡ slice_index_or old k false
  more : (k : ℕ) → IsMarked old k → IsMarked new k

stays : (from : ℕ) (marks : List Bool) → Grows from marks marks
stays from marks = record { long = refl; later = λ k past. refl; more = λ k of. of }

-- one mark more
set_marked : (marks : List Bool) (k : ℕ) → k < length marks → IsMarked (slice_set marks k true) k
set_marked marks k within = get_or-set_same marks k true false within

set_grows : (from k : ℕ) (marks : List Bool) → k < from → k < length marks → Grows from marks (slice_set marks k true)
set_grows from k marks before within = record {
  long = length-set marks k true;
  later = λ j past. get_or-set_other marks k j true false (λ same. omega (arith, same, past, before));
  more = λ j of. go j of (cases_lt j k) (cases_lt k j);
}
  where
    go : (j : ℕ) → IsMarked marks j → (j < k) ⊎ (k ≤ j) → (k < j) ⊎ (j ≤ k) → IsMarked (slice_set marks k true) j
    go j of (inl less) other = get_or-set_other marks k j true false (λ same. omega (arith, same, less)) ∙ of
    go j of (inr past) (inl less) = get_or-set_other marks k j true false (λ same. omega (arith, same, less)) ∙ of
    go j of (inr past) (inr low) =
        let same : k ≡ j = omega (arith, past, low) in
        subst (IsMarked (slice_set marks k true)) same (set_marked marks k within)

grows_on : (from : ℕ) (one two three : List Bool) → Grows from one two → Grows from two three → Grows from one three
grows_on from one two three first second = record {
  long = second.long ∙ first.long;
  later = λ k past. second.later k past ∙ first.later k past;
  more = λ k of. second.more k (first.more k of);
}

-- the operands of a node are marked
marked_grows : (names from : ℕ) (node : FormulaNode) (marks : List Bool) → IsPlaced names from node → from ≤ length marks → Grows from marks (marked node marks)
marked_grows names from (Constant value) marks placed within = stays from marks
marked_grows names from (Name number) marks placed within = stays from marks
marked_grows names from (Unary op part) marks placed within = set_grows from part marks placed (omega (arith, placed, within))
marked_grows names from (Binary op left right) marks placed within =
    let long : length (slice_set marks left true) ≡ length marks = length-set marks left true in
    grows_on from marks (slice_set marks left true) (slice_set (slice_set marks left true) right true)
    (set_grows from left marks placed.0 (omega (arith, placed.0, within)))
    (set_grows from right (slice_set marks left true) placed.1 (omega (arith, placed.1, within, long)))

marked_operands : (names from : ℕ) (node : FormulaNode) (marks : List Bool) → IsPlaced names from node → from ≤ length marks
    → HasOperands (IsMarked (marked node marks)) node
marked_operands names from (Constant value) marks placed within = tt
marked_operands names from (Name number) marks placed within = tt
marked_operands names from (Unary op part) marks placed within = set_marked marks part (omega (arith, placed, within))
marked_operands names from (Binary op left right) marks placed within =
    let long : length (slice_set marks left true) ≡ length marks = length-set marks left true in
    let rights : right < length (slice_set marks left true) = omega (arith, placed.1, within, long) in (
      (set_grows from right (slice_set marks left true) placed.1 rights).more left (set_marked marks left (omega (arith, placed.0, within))),
      set_marked (slice_set marks left true) right rights,
    )

operands_more : (old new : List Bool) (node : FormulaNode) → ((k : ℕ) → IsMarked old k → IsMarked new k) → HasOperands (IsMarked old) node → HasOperands (IsMarked new) node
operands_more old new (Constant value) more has = tt
operands_more old new (Name number) more has = tt
operands_more old new (Unary op part) more has = more part has
operands_more old new (Binary op left right) more has = (more left has.0, more right has.1)

-- one node more has its operands marked, if it is marked
module _ (nodes : List FormulaNode) (number at : ℕ) (old : List Bool) (was : IsWanting nodes number (at + 1) old) (within : at < length nodes)
    (names : ℕ) (placed : IsPlaced names at (node_at nodes at)) where
  closed_on : (new : List Bool) → Grows at old new → (IsMarked new at → HasOperands (IsMarked new) (node_at nodes at)) → IsWanting nodes number at new
  closed_on new grows own = record {
    long = grows.long ∙ was.long;
    itself = grows.more number was.itself;
    closed = λ k past below of. go k past below of (cases_lt at k);
  }
    where
      go : (k : ℕ) → at ≤ k → k < length nodes → IsMarked new k → (at < k) ⊎ (k ≤ at) → HasOperands (IsMarked new) (node_at nodes k)
      go k past below of (inl later) =
          operands_more old new (node_at nodes k) grows.more
          (was.closed k (omega (arith, later)) below (sym (grows.later k past) ∙ of))
      go k past below of (inr low) =
          let same : at ≡ k = omega (arith, past, low) in
          subst (λ (j : ℕ). HasOperands (IsMarked new) (node_at nodes j)) same (own (subst (IsMarked new) (sym same) of))

  room : at ≤ length old
  room = let long = was.long in omega (arith, long, within)

  if_marked : (is_marked : Bool) → slice_index_or old at false ≡ is_marked
      → IsWanting nodes number at (if is_marked then marked (node_at nodes at) old else old)
  if_marked true is =
      closed_on (marked (node_at nodes at) old) (marked_grows names at (node_at nodes at) old placed room)
      (λ of. marked_operands names at (node_at nodes at) old placed room)
  if_marked false is = closed_on old (stays at old) (λ of. absurd (let clash : false ≡ true = sym is ∙ of in cc))

  pub wanting_on : (new : List Bool) → new ≡ with_operands at (node_at nodes at) old → IsWanting nodes number at new
  wanting_on new e = subst (IsWanting nodes number at) (sym e) (if_marked (slice_index_or old at false) refl)

-- the node itself is marked first
pub wanting_begins : (nodes : List FormulaNode) (number : ℕ) (marks new : List Bool) → length marks ≡ length nodes → number < length nodes
    → new ≡ slice_set marks number true → IsWanting nodes number (length nodes) new
wanting_begins nodes number marks new long within e = subst (IsWanting nodes number (length nodes)) (sym e) (record {
  long = length-set marks number true ∙ long;
  itself = set_marked marks number (omega (arith, long, within));
  closed = λ k past below of. absurd (omega (arith, past, below));
})

-- the operands of a node that is read stand before it
pub placed_at : (table : FormulaTable) (nodes : List FormulaNode) (at : ℕ) → IsTable table → nodes ≡ table.nodes → 0 < at → at ≤ length table.nodes
    → (names : ℕ) × IsPlaced names (at - 1) (node_at nodes (at - 1))
placed_at table nodes at is same some within = (
  length table.names,
  subst (λ (l : List FormulaNode). IsPlaced (length table.names) (at - 1) (node_at l (at - 1))) (sym same) (is.placed (at - 1) (omega (arith, some, within))),
)

-- all marks are written back
written_back : (old new : List Bool) (count : ℕ) → count ≡ length old → length new ≡ length old → take count (new ++ drop (length new) old) ≡ new
written_back old new count counted long = take_at new (drop (length new) old) count (omega (arith, counted, long))

-- one node more, as it is read
pub wanting_step : (table : FormulaTable) (nodes : List FormulaNode) (number at count : ℕ) (old lent new : List Bool) → IsTable table → nodes ≡ table.nodes
    → 0 < at → IsWanting table.nodes number at old × (at ≤ length table.nodes) → count ≡ length old → lent ≡ old
    → new ≡ with_operands (at - 1) (node_at nodes (at - 1)) lent
    → IsWanting table.nodes number (at - 1) (take count (new ++ drop (length new) old)) × (at - 1 ≤ length table.nodes)
wanting_step table nodes number at count old lent new is nodes_are some was counted lent_is new_is =
    let low : at - 1 < length table.nodes = omega (arith, some, was.1) in
    let next : at ≡ at - 1 + 1 = omega (arith, some) in
    let own : new ≡ with_operands (at - 1) (node_at table.nodes (at - 1)) old =
    new_is ∙ ap₂ (λ (l : List FormulaNode) (m : List Bool). with_operands (at - 1) (node_at l (at - 1)) m) nodes_are lent_is in
    let wanting = wanting_on table.nodes number (at - 1) old (subst (λ (n : ℕ). IsWanting table.nodes number n old) next was.0) low (length table.names)
    (is.placed (at - 1) low) new own in
    let long : length new ≡ length old = wanting.long ∙ sym was.0.long in
    (subst (IsWanting table.nodes number (at - 1)) (sym (written_back old new count counted long)) wanting, omega (arith, was.1))
