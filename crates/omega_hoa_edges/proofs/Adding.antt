-- Labels added by their nodes, one after the other.
use Rattle.std.proofs.Common.{◌≡◌, Bool, true, false, if◌then◌else◌, List, [], ◌∷◌, ◌++◌, length, map, drop, get_or, refl, sym, ap, ◌∙◌, subst, arith}
use Rattle.std.specs.Cmp.Lexicographic.{pointwise}
use Rattle.std.specs.List.{list_any}
use Rattle.indexmap.specs.IndexSet.{insert_all, insert_key}
use Rattle.omega_hoa_label.specs.Label.{LabelTree}
use Rattle.omega_hoa_label.specs.Postfix.{IsInPostfix, postfix}
use Rattle.omega_hoa_label.specs.contracts.label.LabelNodePartialEq.TheImpl as node
use Rattle.omega_hoa_label.specs.declared.label.LabelNode.{LabelNode}
use Rattle.omega_hoa_edges.specs.Conjuncts.{same_label}
use Rattle.omega_hoa_edges.specs.private.Stacked.{AreAdded}

-- nodes that are among labels' are a label there
pub present : (nodes : List LabelNode) (found : List LabelTree) (label : LabelTree)
    → list_any (λ (other : LabelTree). pointwise node.ghosts.eq nodes (postfix other)) found ≡ true → nodes ≡ postfix label
    → found ≡ insert_key same_label found label
present nodes found label there is =
    let same : list_any (same_label label) found ≡ true =
    subst (λ (all : List LabelNode). list_any (λ (other : LabelTree). pointwise node.ghosts.eq all (postfix other)) found ≡ true) is there in
    sym (ap (λ (b : Bool). if b then found else found ++ label ∷ []) same)

-- others are a new label
pub absent : (nodes : List LabelNode) (found : List LabelTree) (label : LabelTree)
    → list_any (λ (other : LabelTree). pointwise node.ghosts.eq nodes (postfix other)) found ≡ false → nodes ≡ postfix label
    → found ++ label ∷ [] ≡ insert_key same_label found label
absent nodes found label none is =
    let new : list_any (same_label label) found ≡ false =
    subst (λ (all : List LabelNode). list_any (λ (other : LabelTree). pointwise node.ghosts.eq all (postfix other)) found ≡ false) is none in
    sym (ap (λ (b : Bool). if b then found else found ++ label ∷ []) new)

-- none is added at first
pub added_none : (old all : List LabelTree) (parts : List (List LabelNode)) → parts ≡ map postfix all → AreAdded old all parts old
added_none old all parts are = (all, are, refl)

-- the next nodes are a label's
pub added_next : (old all found : List LabelTree) (part : List LabelNode) (left : List (List LabelNode)) → AreAdded old all (part ∷ left) found
    → IsInPostfix part
added_next old all found part left added = go added.0 added.1
  where
    go : (rest : List LabelTree) → part ∷ left ≡ map postfix rest → IsInPostfix part
    go [] are = absurd (omega (arith, ap length are))
    go (label ∷ rest) are = (label, ap (λ (parts : List (List LabelNode)). get_or parts 0 part) are)

-- one is added
pub added_one : (old all found new : List LabelTree) (part : List LabelNode) (left : List (List LabelNode)) → AreAdded old all (part ∷ left) found
    → ((label : LabelTree) → part ≡ postfix label → new ≡ insert_key same_label found label) → AreAdded old all left new
added_one old all found new part left added inserted = go added.0 added.1 added.2
  where
    go : (rest : List LabelTree) → part ∷ left ≡ map postfix rest → insert_all same_label found rest ≡ insert_all same_label old all → AreAdded old all left new
    go [] are same = absurd (omega (arith, ap length are))
    go (label ∷ rest) are same = (
      rest,
      ap (drop 1) are,
      ap (λ (labels : List LabelTree). insert_all same_label labels rest) (inserted label (ap (λ (parts : List (List LabelNode)). get_or parts 0 part) are)) ∙ same,
    )

-- all are added
pub added_all : (old all found : List LabelTree) (left : List (List LabelNode)) → left ≡ [] → AreAdded old all left found → found ≡ insert_all same_label old all
added_all old all found left none added = go added.0 added.1 added.2
  where
    go : (rest : List LabelTree) → left ≡ map postfix rest → insert_all same_label found rest ≡ insert_all same_label old all
        → found ≡ insert_all same_label old all
    go [] are same = same
    go (label ∷ rest) are same = absurd (omega (arith, ap length are, ap length none))
