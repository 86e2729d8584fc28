-- What is left to encode of a label whose nodes are taken from the last to the first: a part, and the left parts that
-- wait. `done` says what is to hold of the steps and of the place of the first one once nothing is left.
use Rattle.std.specs.Prelude.{◌≡◌, ℕ, List, [], ◌∷◌, ◌++◌}
use Rattle.omega_hoa_label.specs.Label.{LabelTree}
use Rattle.omega_hoa_label.specs.Postfix.{postfix}
use Rattle.omega_hoa_label.specs.declared.label.LabelNode.{LabelNode}
use Rattle.omega_hoa_satisfiable.specs.declared.left_parts.WaitingPart.{WaitingPart}
use Rattle.omega_hoa_satisfiable.specs.declared.part.LabelPart.{LabelPart}
use Rattle.omega_hoa_satisfiable.specs.declared.steps.Step.{Step}
use Rattle.omega_hoa_satisfiable.specs.private.Encoding.{AreExits, IsEncoded, left_part}
use Rattle.omega_hoa_satisfiable.specs.private.Leading.{ArePlanned, IsKept}

-- the nodes of trees, of which the last comes first
abbrev pub nodes_of : List LabelTree → List LabelNode
nodes_of [] = []
nodes_of (tree ∷ trees) = nodes_of trees ++ postfix tree

-- the exits of a part are among the steps, and wherever a tree is encoded as this part, `onward` holds
pub record IsNext (onward : List Step → ℕ → Type 0) (steps : List Step) (part : LabelPart)
    (tree : LabelTree) : Type 0 where
  pub exits : AreExits steps part.exits
  pub goes_on :
      (new : List Step) (place : ℕ) → ArePlanned new → IsKept steps new
      → IsEncoded steps new tree part.wanted part.exits place → onward new place

-- the left parts that wait are of these trees, and once they are encoded one after another, `done` holds
abbrev pub AreWaiting : (List Step → ℕ → Type 0) → List WaitingPart → List LabelTree
    → List Step → ℕ → Type 0
AreWaiting done [] [] = done
AreWaiting done [] (tree ∷ trees) = λ steps place. ⊥
AreWaiting done (joined ∷ waiting) [] = λ steps place. ⊥
AreWaiting done (joined ∷ waiting) (tree ∷ trees) = λ steps place.
    IsNext (AreWaiting done waiting trees) steps (left_part joined.both joined.whole place) tree

-- the first of the trees is to be encoded as a part, and the others wait; or nothing is left
abbrev pub Remain : (List Step → ℕ → Type 0) → List Step → LabelPart → List WaitingPart → ℕ
    → List LabelTree → Type 0
Remain done steps part waiting place [] = done steps place
Remain done steps part waiting place (tree ∷ trees) =
    IsNext (AreWaiting done waiting trees) steps part tree

-- the nodes that are left are those of such trees
pub record AreLeft (done : List Step → ℕ → Type 0) (nodes : List LabelNode) (steps : List Step)
    (part : LabelPart) (waiting : List WaitingPart) (place : ℕ) : Type 0 where
  pub trees : List LabelTree
  pub flat : nodes ≡ nodes_of trees
  pub remain : Remain done steps part waiting place trees
