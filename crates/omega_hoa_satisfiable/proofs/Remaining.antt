-- What is left to encode, node by node.
use Rattle.std.proofs.Common.{◌≡◌, ℕ, Bool, not, List, [], ◌∷◌, ◌++◌, length, append-nil, append_assoc, ap, length-append, refl, subst, sym, ◌∙◌, arith}
use Rattle.std.proofs.lemmas.List.{same_from_push}
use Rattle.std.specs.List.{IsLastAndRest}
use Rattle.omega_hoa_label.specs.Label.{LabelTree, conjunction, constant, disjunction, negation, proposition, truth}
use Rattle.omega_hoa_label.specs.Postfix.{postfix}
use Rattle.omega_hoa_label.specs.declared.label.LabelNode.{LabelNode}
use Rattle.omega_hoa_label.specs.declared.label.LabelNode.TheVariants.{Alias, And, Constant, Group, Not, Or, Proposition}
use Rattle.omega_hoa_satisfiable.specs.Cubes.{cubes, cubes_of_parts}
use Rattle.omega_hoa_satisfiable.specs.declared.left_parts.WaitingPart.{WaitingPart}
use Rattle.omega_hoa_satisfiable.specs.declared.part.LabelPart.{LabelPart}
use Rattle.omega_hoa_satisfiable.specs.declared.steps.Step.{Step}
use Rattle.omega_hoa_satisfiable.specs.private.Encoding.{AreExits, IsEncoded, left_part, negated_part, next_part, parts_below, right_part}
use Rattle.omega_hoa_satisfiable.specs.private.Leading.{ArePlanned, IsKept, is_as}
use Rattle.omega_hoa_satisfiable.specs.private.Remaining.{AreLeft, AreWaiting, IsNext, Remain, nodes_of}
use Rattle.omega_hoa_satisfiable.proofs.Leading.{IsKept-both}
use Rattle.omega_hoa_satisfiable.proofs.Parities.{conjunction-joined, disjunction-joined, joined}
use Rattle.omega_hoa_satisfiable.proofs.Parts.{AreExits-left, AreExits-right, IsEncoded-joined, IsEncoded-not}

-- ---- the next part

-- its own part comes after a negation
next-not : (onward : List Step → ℕ → Type 0) (steps : List Step) (part : LabelPart) (tree : LabelTree)
    → IsNext onward steps part (negation tree) → IsNext onward steps (negated_part part) tree
next-not onward steps part tree next = record {
  exits = next.exits;
  goes_on = λ new place planned kept encoded. next.goes_on new place planned kept (IsEncoded-not steps new part.exits tree part.wanted place encoded);
}

-- the right one of two parts is next, and after it the left one
next-joined : (onward : List Step → ℕ → Type 0) (steps : List Step) (part : LabelPart) (both : Bool) (left right tree : LabelTree)
    → ((held : ℕ → Bool) → is_as part.wanted (truth held tree) ≡ joined both (is_as part.wanted (truth held left)) (is_as part.wanted (truth held right)))
    → cubes part.wanted tree ≡ cubes_of_parts both (cubes part.wanted left) (cubes part.wanted right)
    → ArePlanned steps → IsNext onward steps part tree
    → IsNext (λ mid at. IsNext onward mid (left_part both part at) left) steps (right_part both part) right
next-joined onward steps part both left right tree means parts planned next = record {
  exits = AreExits-right both steps part.exits planned next.exits;
  goes_on = λ mid at planned_mid kept first. record {
    exits = AreExits-left both steps mid part.exits right part.wanted at planned_mid next.exits kept first;
    goes_on = λ new place planned_new kept_new second.
        next.goes_on new place planned_new (IsKept-both steps mid new kept kept_new)
        (IsEncoded-joined both steps mid new part.exits left right tree part.wanted at place means parts planned next.exits kept first second);
  };
}

-- the next part is the left one that waits on top, once the right one is encoded
next-waiting : (done : List Step → ℕ → Type 0) (steps : List Step) (part : LabelPart) (waiting : List WaitingPart) (place : ℕ) (trees : List LabelTree)
    → AreWaiting done waiting trees steps place → Remain done steps (next_part part waiting place) (parts_below waiting) place trees
next-waiting done steps part [] place [] are = are
next-waiting done steps part [] place (tree ∷ trees) are = absurd are
next-waiting done steps part (joined ∷ waiting) place [] are = absurd are
next-waiting done steps part (joined ∷ waiting) place (tree ∷ trees) are = are

-- ---- the last node

-- the last node of a tree
abbrev last_of : LabelTree → LabelNode
last_of (constant value) = Constant value
last_of (proposition number) = Proposition number
last_of (negation part) = Not
last_of (conjunction left right) = And
last_of (disjunction left right) = Or

-- the nodes before it
abbrev front_of : LabelTree → List LabelNode
front_of (constant value) = []
front_of (proposition number) = []
front_of (negation part) = postfix part
front_of (conjunction left right) = postfix left ++ postfix right
front_of (disjunction left right) = postfix left ++ postfix right

postfix-last : (tree : LabelTree) → postfix tree ≡ front_of tree ++ last_of tree ∷ []
postfix-last (constant value) = refl
postfix-last (proposition number) = refl
postfix-last (negation part) = refl
postfix-last (conjunction left right) = sym (append_assoc (postfix left) (postfix right) (And ∷ []))
postfix-last (disjunction left right) = sym (append_assoc (postfix left) (postfix right) (Or ∷ []))

nodes-last : (tree : LabelTree) (trees : List LabelTree) → nodes_of (tree ∷ trees) ≡ (nodes_of trees ++ front_of tree) ++ last_of tree ∷ []
nodes-last tree trees =
    ap (λ nodes. nodes_of trees ++ nodes) (postfix-last tree) ∙ sym (append_assoc (nodes_of trees) (front_of tree) (last_of tree ∷ []))

-- ---- what is left

-- what is left after an atom, which is encoded as the next part
abbrev pub IsAfterAtom : (List Step → ℕ → Type 0) → List LabelNode → List Step → LabelPart → List WaitingPart → LabelTree → Type 0
IsAfterAtom done before steps part waiting atom =
    AreExits steps part.exits
    × ((new : List Step) (place : ℕ) → ArePlanned new → IsKept steps new → IsEncoded steps new atom part.wanted part.exits place
    → AreLeft done before new (next_part part waiting place) (parts_below waiting) place)

-- what is left after a node; a label has no alias and no parentheses
abbrev pub IsAfter : (List Step → ℕ → Type 0) → List LabelNode → List Step → LabelPart → List WaitingPart → ℕ → LabelNode → Type 0
IsAfter done before steps part waiting place (Constant value) = IsAfterAtom done before steps part waiting (constant value)
IsAfter done before steps part waiting place (Proposition number) = IsAfterAtom done before steps part waiting (proposition number)
IsAfter done before steps part waiting place Not = AreLeft done before steps (negated_part part) waiting place
IsAfter done before steps part waiting place And =
    AreLeft done before steps (right_part part.wanted part) (record { both = part.wanted; whole = part } ∷ waiting) place
IsAfter done before steps part waiting place Or =
    AreLeft done before steps (right_part (not part.wanted) part) (record { both = not part.wanted; whole = part } ∷ waiting) place
IsAfter done before steps part waiting place (Alias count) = ⊥
IsAfter done before steps part waiting place Group = ⊥

after-atom : (done : List Step → ℕ → Type 0) (before : List LabelNode) (steps : List Step) (part : LabelPart) (waiting : List WaitingPart) (atom : LabelTree) (trees : List LabelTree)
    → before ≡ nodes_of trees ++ [] → IsNext (AreWaiting done waiting trees) steps part atom → IsAfterAtom done before steps part waiting atom
after-atom done before steps part waiting atom trees flat next = (
  next.exits,
  λ new place planned kept encoded. record {
    trees = trees;
    flat = flat ∙ append-nil (nodes_of trees);
    remain = next-waiting done new part waiting place trees (next.goes_on new place planned kept encoded);
  },
)

after-tree : (done : List Step → ℕ → Type 0) (before : List LabelNode) (steps : List Step) (part : LabelPart) (waiting : List WaitingPart) (place : ℕ)
    (tree : LabelTree) (trees : List LabelTree) → ArePlanned steps → before ≡ nodes_of trees ++ front_of tree
    → IsNext (AreWaiting done waiting trees) steps part tree → IsAfter done before steps part waiting place (last_of tree)
after-tree done before steps part waiting place (constant value) trees planned flat next = after-atom done before steps part waiting (constant value) trees flat next
after-tree done before steps part waiting place (proposition number) trees planned flat next =
    after-atom done before steps part waiting (proposition number) trees flat next
after-tree done before steps part waiting place (negation one) trees planned flat next = record {
  trees = one ∷ trees;
  flat = flat;
  remain = next-not (AreWaiting done waiting trees) steps part one next;
}
after-tree done before steps part waiting place (conjunction left right) trees planned flat next = record {
  trees = right ∷ left ∷ trees;
  flat = flat ∙ sym (append_assoc (nodes_of trees) (postfix left) (postfix right));
  remain = next-joined (AreWaiting done waiting trees) steps part part.wanted left right (conjunction left right)
      (λ held. conjunction-joined part.wanted (truth held left) (truth held right)) refl planned next;
}
after-tree done before steps part waiting place (disjunction left right) trees planned flat next = record {
  trees = right ∷ left ∷ trees;
  flat = flat ∙ sym (append_assoc (nodes_of trees) (postfix left) (postfix right));
  remain = next-joined (AreWaiting done waiting trees) steps part (not part.wanted) left right (disjunction left right)
      (λ held. disjunction-joined part.wanted (truth held left) (truth held right)) refl planned next;
}

after-trees : (done : List Step → ℕ → Type 0) (nodes before : List LabelNode) (node : LabelNode) (steps : List Step) (part : LabelPart) (waiting : List WaitingPart) (place : ℕ)
    (trees : List LabelTree) → ArePlanned steps → nodes ≡ nodes_of trees → IsLastAndRest nodes node before → Remain done steps part waiting place trees
    → IsAfter done before steps part waiting place node
after-trees done nodes before node steps part waiting place [] planned flat is remain = absurd (omega (arith, is.1, ap length flat))
after-trees done nodes before node steps part waiting place (tree ∷ trees) planned flat is remain =
    let same : (before ≡ nodes_of trees ++ front_of tree) × (node ≡ last_of tree) =
    same_from_push before (nodes_of trees ++ front_of tree) node (last_of tree) (sym is.0 ∙ (flat ∙ nodes-last tree trees)) in
    subst (IsAfter done before steps part waiting place) (sym same.1) (after-tree done before steps part waiting place tree trees planned same.0 remain)

pub after-node : (done : List Step → ℕ → Type 0) (nodes before : List LabelNode) (node shape : LabelNode) (steps : List Step) (part : LabelPart) (waiting : List WaitingPart) (place : ℕ)
    → ArePlanned steps → AreLeft done nodes steps part waiting place → IsLastAndRest nodes node before → node ≡ shape
    → IsAfter done before steps part waiting place shape
after-node done nodes before node shape steps part waiting place planned are is same =
    subst (IsAfter done before steps part waiting place) same (after-trees done nodes before node steps part waiting place are.trees planned are.flat is are.remain)

-- at first the whole label is left
pub left-first : (steps : List Step) (part : LabelPart) (place : ℕ) (tree : LabelTree) (nodes : List LabelNode) → AreExits steps part.exits → nodes ≡ postfix tree
    → AreLeft (λ new start. IsEncoded steps new tree part.wanted part.exits start) nodes steps part [] place
left-first steps part place tree nodes are flat = record {
  trees = tree ∷ [];
  flat = flat;
  remain = record { exits = are; goes_on = λ new start planned kept encoded. encoded };
}

none-left : (done : List Step → ℕ → Type 0) (nodes : List LabelNode) (steps : List Step) (part : LabelPart) (waiting : List WaitingPart) (place : ℕ) (trees : List LabelTree)
    → nodes ≡ nodes_of trees → Remain done steps part waiting place trees → length nodes ≡ 0 → done steps place
none-left done nodes steps part waiting place [] flat remain none = remain
none-left done nodes steps part waiting place (tree ∷ trees) flat remain none =
    absurd (omega (arith, none, ap length (flat ∙ nodes-last tree trees), length-append (nodes_of trees ++ front_of tree) (last_of tree ∷ [])))

-- and at last it is encoded
pub left-last : (done : List Step → ℕ → Type 0) (nodes : List LabelNode) (steps : List Step) (part : LabelPart) (waiting : List WaitingPart) (place : ℕ)
    → AreLeft done nodes steps part waiting place → length nodes ≡ 0 → done steps place
left-last done nodes steps part waiting place are none = none-left done nodes steps part waiting place are.trees are.flat are.remain none

-- it is the same by parts that are the same
pub left-same : (done : List Step → ℕ → Type 0) (nodes : List LabelNode) (steps : List Step) (part other : LabelPart) (waiting others : List WaitingPart) (place : ℕ)
    → other ≡ part → others ≡ waiting → AreLeft done nodes steps part waiting place → AreLeft done nodes steps other others place
left-same done nodes steps part other waiting others place same_part same_waiting are =
    subst (λ p. AreLeft done nodes steps p others place) (sym same_part) (subst (λ w. AreLeft done nodes steps part w place) (sym same_waiting) are)
