-- Parity and generalized Büchi formulas in postfix order: what stands at their ends.
use Rattle.std.proofs.Common.{◌≡◌, ◌↔◌, ℕ, suc, Bool, true, false, cond, List, [], ◌∷◌, ◌++◌, ap, append_assoc, refl, subst, sym, ◌∙◌}
use Rattle.std.proofs.lemmas.List.{append_cancel_right}
use Rattle.omega_hoa_parity_kind.specs.Priority.{has_parity}
use Rattle.omega_hoa_parity_kind.specs.declared.kind.Order.{Order}
use Rattle.omega_hoa_parity_kind.specs.declared.kind.Parity.{Parity}
use Rattle.omega_hoa_acceptance.specs.Acceptance.{AccTree, conjunction, disjunction, fin, inf}
use Rattle.omega_hoa_acceptance.specs.Kind.{buchi_formula, first_left, formula_of, sets_left}
use Rattle.omega_hoa_acceptance.specs.private.layout.Acceptance.{acc_postfix}
use Rattle.omega_hoa_acceptance.specs.private.layout.Chain.{atom_node, joining_node}
use Rattle.omega_hoa_acceptance.specs.declared.formula.AccNode.{AccNode}
use Rattle.omega_hoa_acceptance.specs.declared.formula.AccNode.TheVariants.{And, Fin, Inf, Or}

joined-ends : (has : Bool) (set : ℕ) (others : AccTree)
    → acc_postfix (cond has (disjunction (inf false set) others) (conjunction (fin false set) others))
    ≡ cond has (Inf false set) (Fin false set) ∷ (acc_postfix others ++ cond has Or And ∷ [])
joined-ends true set others = refl
joined-ends false set others = refl

-- the atom of the first set stands first, and what joins it to the others last
pub parity-ends : (order : Order) (parity : Parity) (count following : ℕ)
    → acc_postfix (formula_of order parity (sets_left order count (suc (suc following))))
    ≡ atom_node parity (first_left order count (suc following))
    ∷ (acc_postfix (formula_of order parity (sets_left order count (suc following))) ++ joining_node parity (first_left order count (suc following)) ∷ [])
parity-ends order parity count following =
    joined-ends (has_parity parity (first_left order count (suc following))) (first_left order count (suc following)) (formula_of order parity (sets_left order count (suc following)))

alone-node : (has : Bool) (set : ℕ) → acc_postfix (cond has (inf false set) (fin false set)) ≡ cond has (Inf false set) (Fin false set) ∷ []
alone-node true set = refl
alone-node false set = refl

-- the atom of the last set stands alone
pub parity-alone : (order : Order) (parity : Parity) (count : ℕ)
    → acc_postfix (formula_of order parity (sets_left order count 1)) ≡ atom_node parity (first_left order count 0) ∷ []
parity-alone order parity count = alone-node (has_parity parity (first_left order count 0)) (first_left order count 0)

-- the formula of the last sets of a kind, in postfix order
abbrev pub chain : Order → Parity → ℕ → ℕ → List AccNode
chain order parity count left = acc_postfix (formula_of order parity (sets_left order count left))

-- the ends of a formula with sets after its first one
ends-at : (order : Order) (parity : Parity) (count following fewer : ℕ) → suc fewer ≡ following
    → chain order parity count (suc following)
    ≡ atom_node parity (first_left order count following) ∷ (chain order parity count following ++ joining_node parity (first_left order count following) ∷ [])
ends-at order parity count following fewer e =
    subst (λ n. chain order parity count (suc n) ≡ atom_node parity (first_left order count n) ∷ (chain order parity count n ++ joining_node parity (first_left order count n) ∷ []))
    e (parity-ends order parity count fewer)

-- without both ends, nodes are the formula of the sets after exactly if they were the formula
pub chain-middle : (order : Order) (parity : Parity) (count following fewer : ℕ) (rest others middle : List AccNode) (atom joining : AccNode)
    → suc fewer ≡ following → rest ≡ atom ∷ others → others ≡ middle ++ joining ∷ []
    → atom ≡ atom_node parity (first_left order count following) → joining ≡ joining_node parity (first_left order count following)
    → (rest ≡ chain order parity count (suc following)) ↔ (middle ≡ chain order parity count (suc fewer))
chain-middle order parity count following fewer rest others middle atom joining e first last atom_is joining_is =
    let ends = ends-at order parity count following fewer e in
    let shorter = ap (chain order parity count) e in (
      λ same.
          let tails : middle ++ joining ∷ [] ≡ chain order parity count following ++ joining ∷ [] = cc in
          append_cancel_right middle (chain order parity count following) (joining ∷ []) tails ∙ sym shorter,
      λ same. cc,
    )

-- nodes without the last end are no formula
pub chain-unended : (order : Order) (parity : Parity) (count following fewer : ℕ) (rest others : List AccNode) (atom joining : AccNode)
    → suc fewer ≡ following → rest ≡ atom ∷ others → ((middle : List AccNode) → others ≡ middle ++ joining ∷ [] → ⊥)
    → joining ≡ joining_node parity (first_left order count following)
    → rest ≡ chain order parity count (suc following) → ⊥
chain-unended order parity count following fewer rest others atom joining e first unended joining_is same =
    let ends = ends-at order parity count following fewer e in
    unended (chain order parity count following) cc

-- the ends of a generalized Büchi formula with more than one set
buchi-ends : (set fewer : ℕ) → suc fewer ≡ set
    → acc_postfix (buchi_formula (suc set)) ≡ (acc_postfix (buchi_formula set) ++ Inf false set ∷ []) ++ And ∷ []
buchi-ends set fewer e =
    subst (λ n. acc_postfix (buchi_formula (suc n)) ≡ (acc_postfix (buchi_formula n) ++ Inf false n ∷ []) ++ And ∷ [])
    e (sym (append_assoc (acc_postfix (buchi_formula (suc fewer))) (Inf false (suc fewer) ∷ []) (And ∷ [])))

-- without both ends, nodes are the formula of the sets before exactly if they were the formula
pub buchi-front : (set fewer : ℕ) (rest others front : List AccNode) → suc fewer ≡ set
    → rest ≡ others ++ And ∷ [] → others ≡ front ++ Inf false set ∷ []
    → (rest ≡ acc_postfix (buchi_formula (suc set))) ↔ (front ≡ acc_postfix (buchi_formula (suc fewer)))
buchi-front set fewer rest others front e last before =
    let ends = buchi-ends set fewer e in
    let shorter = ap (λ n. acc_postfix (buchi_formula n)) e in (
      λ same.
          let both : others ++ And ∷ [] ≡ (acc_postfix (buchi_formula set) ++ Inf false set ∷ []) ++ And ∷ [] = cc in
          let ones = append_cancel_right others (acc_postfix (buchi_formula set) ++ Inf false set ∷ []) (And ∷ []) both in
          append_cancel_right front (acc_postfix (buchi_formula set)) (Inf false set ∷ []) (sym before ∙ ones) ∙ sym shorter,
      λ same. cc,
    )

-- nodes without the last end are no formula
pub buchi-unended : (set fewer : ℕ) (rest : List AccNode) → suc fewer ≡ set
    → ((others : List AccNode) → rest ≡ others ++ And ∷ [] → ⊥) → rest ≡ acc_postfix (buchi_formula (suc set)) → ⊥
buchi-unended set fewer rest e unended same = unended _ (same ∙ buchi-ends set fewer e)

-- nor are those without the end before it
pub buchi-unmarked : (set fewer : ℕ) (rest others : List AccNode) → suc fewer ≡ set → rest ≡ others ++ And ∷ []
    → ((front : List AccNode) → others ≡ front ++ Inf false set ∷ [] → ⊥) → rest ≡ acc_postfix (buchi_formula (suc set)) → ⊥
buchi-unmarked set fewer rest others e last unmarked same =
    unmarked (acc_postfix (buchi_formula set))
    (append_cancel_right others (acc_postfix (buchi_formula set) ++ Inf false set ∷ []) (And ∷ []) (sym last ∙ (same ∙ buchi-ends set fewer e)))
