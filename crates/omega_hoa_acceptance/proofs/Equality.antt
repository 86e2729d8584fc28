-- Whether two formulas are the same tree, by their nodes.
use Rattle.std.proofs.Common.{◌≡◌, ℕ, ◌&&◌, Bool, true, false, nat_eq, ap, refl, sym, ◌∙◌}
use Rattle.std.proofs.lemmas.Bool.Decides.{Decides-eqb}
use Rattle.std.specs.Bool.{Decides}
use Rattle.std.specs.Cmp.{first_so, second_so}
use Rattle.std.specs.Cmp.Lexicographic.{bytes_decides, pointwise, pointwise_decides}
use Rattle.omega_hoa_expression.specs.Depth.{counted}
use Rattle.omega_hoa_acceptance.specs.Acceptance.{AccTree, acc_depth}
use Rattle.omega_hoa_acceptance.specs.Raw.{RawAccTree, raw_acc_depth}
use Rattle.omega_hoa_acceptance.specs.contracts.formula.AccNodePartialEq.TheImpl as acc_node
use Rattle.omega_hoa_acceptance.specs.contracts.formula.AccPartialEq.TheImpl as acc
use Rattle.omega_hoa_acceptance.specs.contracts.raw.RawAccNodePartialEq.TheImpl as raw_acc_node
use Rattle.omega_hoa_acceptance.specs.contracts.raw.RawAccPartialEq.TheImpl as raw_acc
use Rattle.omega_hoa_acceptance.specs.declared.formula.AccNode.{AccNode}
use Rattle.omega_hoa_acceptance.specs.declared.formula.AccNode.TheVariants as acc_nodes
use Rattle.omega_hoa_acceptance.specs.declared.raw.RawAccNode.{RawAccNode}
use Rattle.omega_hoa_acceptance.specs.declared.raw.RawAccNode.TheVariants as raw_acc_nodes
use Rattle.omega_hoa_acceptance.specs.private.layout.Acceptance.{acc_postfix, acc_tree_of, acc_tree_of-postfix}
use Rattle.omega_hoa_acceptance.specs.private.layout.Raw.{atom_names, raw_acc_postfix, raw_acc_tree_of, raw_acc_tree_of-postfix}

-- two tests that hold
both : {one other : Bool} → one ≡ true → other ≡ true → (one && other) ≡ true
both e f = λ i. e i && f i

-- `==` of two nodes of a formula
acc_node-decides : (one other : AccNode) → Decides (acc_node.ghosts.eq one other) (one ≡ other)
acc_node-decides acc_nodes.And acc_nodes.And = (λ e. refl, λ e. refl)
acc_node-decides acc_nodes.And other = (λ e. cc, λ e. cc)
acc_node-decides acc_nodes.Or acc_nodes.Or = (λ e. refl, λ e. refl)
acc_node-decides acc_nodes.Or other = (λ e. cc, λ e. cc)
acc_node-decides (acc_nodes.Constant true) (acc_nodes.Constant true) = (λ e. refl, λ e. refl)
acc_node-decides (acc_nodes.Constant false) (acc_nodes.Constant false) = (λ e. refl, λ e. refl)
acc_node-decides (acc_nodes.Constant value) other = (λ e. cc, λ e. cc)
acc_node-decides (acc_nodes.Inf true set) (acc_nodes.Inf true other) =
    (λ e. ap (acc_nodes.Inf true) ((Decides-eqb set other).0 e), λ e. (Decides-eqb set other).1 cc)
acc_node-decides (acc_nodes.Inf false set) (acc_nodes.Inf false other) =
    (λ e. ap (acc_nodes.Inf false) ((Decides-eqb set other).0 e), λ e. (Decides-eqb set other).1 cc)
acc_node-decides (acc_nodes.Inf negated set) other = (λ e. cc, λ e. cc)
acc_node-decides (acc_nodes.Fin true set) (acc_nodes.Fin true other) =
    (λ e. ap (acc_nodes.Fin true) ((Decides-eqb set other).0 e), λ e. (Decides-eqb set other).1 cc)
acc_node-decides (acc_nodes.Fin false set) (acc_nodes.Fin false other) =
    (λ e. ap (acc_nodes.Fin false) ((Decides-eqb set other).0 e), λ e. (Decides-eqb set other).1 cc)
acc_node-decides (acc_nodes.Fin negated set) other = (λ e. cc, λ e. cc)

-- `==` of two atoms with the same sign
atom-decides : (negated : Bool) (count set other_count other_set : ℕ)
    → Decides (nat_eq count other_count && nat_eq set other_set) (raw_acc_nodes.Atom count negated set ≡ raw_acc_nodes.Atom other_count negated other_set)
atom-decides negated count set other_count other_set =
    let counts = Decides-eqb count other_count in
    let sets = Decides-eqb set other_set in (
      λ e.
          let same_count = counts.0 (first_so (nat_eq count other_count) (nat_eq set other_set) e) in
          let same_set = sets.0 (second_so (nat_eq count other_count) (nat_eq set other_set) e) in
          cc,
      λ e. both (counts.1 cc) (sets.1 cc),
    )

-- `==` of two nodes of a formula as it is written
raw_acc_node-decides : (one other : RawAccNode) → Decides (raw_acc_node.ghosts.eq one other) (one ≡ other)
raw_acc_node-decides raw_acc_nodes.And raw_acc_nodes.And = (λ e. refl, λ e. refl)
raw_acc_node-decides raw_acc_nodes.And other = (λ e. cc, λ e. cc)
raw_acc_node-decides raw_acc_nodes.Or raw_acc_nodes.Or = (λ e. refl, λ e. refl)
raw_acc_node-decides raw_acc_nodes.Or other = (λ e. cc, λ e. cc)
raw_acc_node-decides raw_acc_nodes.Group raw_acc_nodes.Group = (λ e. refl, λ e. refl)
raw_acc_node-decides raw_acc_nodes.Group other = (λ e. cc, λ e. cc)
raw_acc_node-decides (raw_acc_nodes.Constant true) (raw_acc_nodes.Constant true) = (λ e. refl, λ e. refl)
raw_acc_node-decides (raw_acc_nodes.Constant false) (raw_acc_nodes.Constant false) = (λ e. refl, λ e. refl)
raw_acc_node-decides (raw_acc_nodes.Constant value) other = (λ e. cc, λ e. cc)
raw_acc_node-decides (raw_acc_nodes.Atom count true set) (raw_acc_nodes.Atom other_count true other_set) = atom-decides true count set other_count other_set
raw_acc_node-decides (raw_acc_nodes.Atom count false set) (raw_acc_nodes.Atom other_count false other_set) = atom-decides false count set other_count other_set
raw_acc_node-decides (raw_acc_nodes.Atom count negated set) (raw_acc_nodes.Atom other_count other_negated other_set) =
    (λ e. let no : false ≡ true = second_so (nat_eq count other_count) false e in cc, λ e. cc)
raw_acc_node-decides (raw_acc_nodes.Atom count negated set) other = (λ e. cc, λ e. cc)

-- `==` of two formulas
pub acc-decides : (one other : AccTree) → Decides (acc.ghosts.eq one other) (one ≡ other)
acc-decides one other =
    let E = pointwise acc_node.ghosts.eq (acc_postfix one) (acc_postfix other) in
    let F = nat_eq (acc_depth one) (acc_depth other) in
    let nodes = pointwise_decides acc_node-decides (acc_postfix one) (acc_postfix other) in (
      λ e. sym (acc_tree_of-postfix one) ∙ (ap acc_tree_of (nodes.0 (first_so E F e)) ∙ acc_tree_of-postfix other),
      λ e. both (nodes.1 (ap acc_postfix e)) ((Decides-eqb (acc_depth one) (acc_depth other)).1 (ap acc_depth e)),
    )

-- `==` of two formulas as they are written
pub raw_acc-decides : (one other : RawAccTree) → Decides (raw_acc.ghosts.eq one other) (one ≡ other)
raw_acc-decides one other =
    let E = pointwise raw_acc_node.ghosts.eq (raw_acc_postfix one) (raw_acc_postfix other) in
    let F = pointwise nat_eq (atom_names one) (atom_names other) in
    let G = nat_eq (counted (raw_acc_depth one)) (counted (raw_acc_depth other)) in
    let nodes = pointwise_decides raw_acc_node-decides (raw_acc_postfix one) (raw_acc_postfix other) in
    let names = bytes_decides (atom_names one) (atom_names other) in (
      λ e.
          sym (raw_acc_tree_of-postfix one)
          ∙ (ap (λ all. raw_acc_tree_of all (atom_names one)) (nodes.0 (first_so E (F && G) e))
          ∙ (ap (raw_acc_tree_of (raw_acc_postfix other)) (names.0 (first_so F G (second_so E (F && G) e))) ∙ raw_acc_tree_of-postfix other)),
      λ e.
          both (nodes.1 (ap raw_acc_postfix e))
          (both (names.1 (ap atom_names e))
          ((Decides-eqb (counted (raw_acc_depth one)) (counted (raw_acc_depth other))).1 (ap (λ tree. counted (raw_acc_depth tree)) e))),
    )
