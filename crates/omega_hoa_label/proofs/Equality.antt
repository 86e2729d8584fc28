-- Whether two labels are the same tree, by their nodes.
use Rattle.std.proofs.Common.{◌≡◌, ◌&&◌, ℕ, Bool, true, false, nat_eq, ap, refl, sym, ◌∙◌}
use Rattle.std.proofs.lemmas.Bool.{false≢true}
use Rattle.std.proofs.lemmas.Bool.Decides.{Decides-eqb}
use Rattle.std.specs.Bool.{Decides}
use Rattle.std.specs.Cmp.{first_so, second_so}
use Rattle.std.specs.Cmp.Lexicographic.{bytes_decides, pointwise, pointwise_decides}
use Rattle.omega_hoa_label.specs.Label.{LabelTree}
use Rattle.omega_hoa_label.specs.Postfix.{postfix, alias_names, raw_postfix}
use Rattle.omega_hoa_label.specs.Raw.{RawLabelTree}
use Rattle.omega_hoa_label.specs.contracts.label.LabelNodePartialEq.TheImpl as label_node
use Rattle.omega_hoa_label.specs.contracts.label.LabelPartialEq.TheImpl as label
use Rattle.omega_hoa_label.specs.contracts.raw.RawLabelPartialEq.TheImpl as raw_label
use Rattle.omega_hoa_label.specs.declared.label.LabelNode.{LabelNode}
use Rattle.omega_hoa_label.specs.declared.label.LabelNode.TheVariants as label_nodes
use Rattle.omega_hoa_label.specs.private.layout.Label.{tree_of, tree_of-postfix}
use Rattle.omega_hoa_label.specs.private.layout.Raw.{raw_tree_of, raw_tree_of-postfix}

-- two tests that hold
both : {one other : Bool} → one ≡ true → other ≡ true → (one && other) ≡ true
both e f = λ i. e i && f i

-- a number for each kind of node
abbrev kind : LabelNode → ℕ
kind label_nodes.And = 0
kind label_nodes.Or = 1
kind label_nodes.Not = 2
kind label_nodes.Group = 3
kind (label_nodes.Constant value) = 4
kind (label_nodes.Proposition number) = 5
kind (label_nodes.Alias count) = 6

-- the value of a constant
abbrev value_of : LabelNode → Bool
value_of (label_nodes.Constant value) = value
value_of other = false

-- equal nodes are of one kind
of_kind : (number : ℕ) {one other : LabelNode} → one ≡ other → nat_eq number (kind one) ≡ nat_eq number (kind other)
of_kind number e = ap (λ node. nat_eq number (kind node)) e

-- `==` of two nodes of a label
label_node-decides : (one other : LabelNode) → Decides (label_node.ghosts.eq one other) (one ≡ other)
label_node-decides label_nodes.And label_nodes.And = (λ e. refl, λ e. refl)
label_node-decides label_nodes.And other = (λ e. absurd (false≢true e), λ e. sym (of_kind 0 e))
label_node-decides label_nodes.Or label_nodes.Or = (λ e. refl, λ e. refl)
label_node-decides label_nodes.Or other = (λ e. absurd (false≢true e), λ e. sym (of_kind 1 e))
label_node-decides label_nodes.Not label_nodes.Not = (λ e. refl, λ e. refl)
label_node-decides label_nodes.Not other = (λ e. absurd (false≢true e), λ e. sym (of_kind 2 e))
label_node-decides label_nodes.Group label_nodes.Group = (λ e. refl, λ e. refl)
label_node-decides label_nodes.Group other = (λ e. absurd (false≢true e), λ e. sym (of_kind 3 e))
label_node-decides (label_nodes.Constant true) (label_nodes.Constant true) = (λ e. refl, λ e. refl)
label_node-decides (label_nodes.Constant true) (label_nodes.Constant false) =
    (λ e. absurd (false≢true e), λ e. sym (ap value_of e))
label_node-decides (label_nodes.Constant false) (label_nodes.Constant true) =
    (λ e. absurd (false≢true e), λ e. ap value_of e)
label_node-decides (label_nodes.Constant false) (label_nodes.Constant false) = (λ e. refl, λ e. refl)
label_node-decides (label_nodes.Constant value) other = (λ e. absurd (false≢true e), λ e. sym (of_kind 4 e))
label_node-decides (label_nodes.Proposition number) (label_nodes.Proposition other) =
    (λ e. ap label_nodes.Proposition ((Decides-eqb number other).0 e), λ e. (Decides-eqb number other).1 cc)
label_node-decides (label_nodes.Proposition number) other = (λ e. absurd (false≢true e), λ e. sym (of_kind 5 e))
label_node-decides (label_nodes.Alias count) (label_nodes.Alias other) =
    (λ e. ap label_nodes.Alias ((Decides-eqb count other).0 e), λ e. (Decides-eqb count other).1 cc)
label_node-decides (label_nodes.Alias count) other = (λ e. absurd (false≢true e), λ e. sym (of_kind 6 e))

-- `==` of two labels
pub label-decides : (one other : LabelTree) → Decides (label.ghosts.eq one other) (one ≡ other)
label-decides one other =
    let nodes = pointwise_decides label_node-decides (postfix one) (postfix other) in
    (λ e. sym (tree_of-postfix one) ∙ (ap tree_of (nodes.0 e) ∙ tree_of-postfix other), λ e. nodes.1 (ap postfix e))

-- `==` of two labels as they are written
pub raw_label-decides : (one other : RawLabelTree) → Decides (raw_label.ghosts.eq one other) (one ≡ other)
raw_label-decides one other =
    let E = pointwise label_node.ghosts.eq (raw_postfix one) (raw_postfix other) in
    let F = pointwise nat_eq (alias_names one) (alias_names other) in
    let nodes = pointwise_decides label_node-decides (raw_postfix one) (raw_postfix other) in
    let names = bytes_decides (alias_names one) (alias_names other) in (
      λ e.
          sym (raw_tree_of-postfix one)
          ∙ (ap (λ all. raw_tree_of all (alias_names one)) (nodes.0 (first_so E F e))
          ∙ (ap (raw_tree_of (raw_postfix other)) (names.0 (second_so E F e)) ∙ raw_tree_of-postfix other)),
      λ e. both (nodes.1 (ap raw_postfix e)) (names.1 (ap alias_names e)),
    )
