-- A label with constants in place of inputs can be true exactly if the label can be where the inputs are so.
use Rattle.std.proofs.Common.{◌≡◌, ◌==◌, ◌↔◌, ℕ, suc, ◌+◌, ◌<◌, ◌≤◌, inl, inr, Bool, true, false, cond, not, ◌&&◌, ◌||◌, max, List, [], ◌∷◌, ◌++◌, map, get_or, Contains, Result, Ok, Err, sym, ap, ap₂, refl, ◌∙◌, subst, arith}
use Rattle.std.specs.Prelude.{IfErr, IfOk, IsOkUnless, IsTrue}
use Rattle.std.proofs.lemmas.Bool.{eq-eqb, eqb-true, false≢true, or_cases}
use Rattle.std.proofs.lemmas.List.{map-append}
use Rattle.std.proofs.lemmas.List.Folds.{list_any_at}
use Rattle.omega_text.specs.declared.refusal.Refusal.{Refusal}
use Rattle.omega_text.specs.declared.refusal.Refusal.TheVariants.{Memory}
use Rattle.omega_hoa_expression.specs.Depth.{IsDeeper}
use Rattle.omega_hoa_expression.specs.Limits.{most_depth}
use Rattle.omega_hoa_label.specs.Label.{LabelTree, conjunction, constant, disjunction, label_depth, negation, proposition, truth}
use Rattle.omega_hoa_label.specs.Postfix.{postfix}
use Rattle.omega_hoa_label.specs.declared.label.LabelNode.{LabelNode}
use Rattle.omega_hoa_label.specs.declared.label.LabelNode.TheVariants.{And, Constant, Not, Or, Proposition}
use Rattle.omega_hoa_edges.proofs.Refusals.{not_deeper}
use Rattle.omega_hoa_satisfiable.specs.Satisfiable.{IsSatisfiable}
use Rattle.omega_synth_controllers.specs.Controllers.{AgreeOnInputs}
use Rattle.omega_synth_game.specs.Answering.{CanAnswer, restricted}
use Rattle.omega_synth_controllers.specs.Strategies.{is_controlled}
use Rattle.omega_synth_game.specs.Letters.{holds_in}
use Rattle.omega_synth_game.specs.private.Restricted.{restricted_node}

-- what is among numbers is contained in them
pub uncontrolled : (controlled : List ℕ) (p : ℕ) → is_controlled controlled p ≡ false → Contains controlled p → ⊥
uncontrolled controlled p none has =
    false≢true (sym none ∙ list_any_at (λ q. q == p) controlled has.0 p has.1 (eq-eqb (get_or controlled has.0 p) p has.2))

pub among : (controlled : List ℕ) (p : ℕ) → is_controlled controlled p ≡ true → Contains controlled p
among [] p is = absurd (false≢true is)
among (q ∷ qs) p is = elim (or_cases (q == p) (is_controlled qs p) is) [
  | inl here ↦ (0, omega arith, eqb-true q p here)
  | inr later ↦ let rest = among qs p later in (suc rest.0, omega (arith, rest.1), rest.2)
]

module _ (controlled letter : List ℕ) where
  -- the letter on the inputs, and another on the rest
  merged : (ℕ → Bool) → ℕ → Bool
  merged held p = cond (is_controlled controlled p) (held p) (holds_in letter p)

  agrees : (held : ℕ → Bool) → AgreeOnInputs controlled (holds_in letter) (merged held)
  unfolding merged
  agrees held p free = go (is_controlled controlled p) refl
    where
      go : (b : Bool) → is_controlled controlled p ≡ b → holds_in letter p ≡ cond b (held p) (holds_in letter p)
      go true is = absurd (free (among controlled p is))
      go false is = refl

  atom_truth : (held other : ℕ → Bool) (p : ℕ) (b : Bool) → (b ≡ true → held p ≡ other p) → (b ≡ false → holds_in letter p ≡ other p)
      → truth held (cond b (proposition p) (constant (holds_in letter p))) ≡ other p
  atom_truth held other p true same input = same refl
  atom_truth held other p false same input = input refl

  -- the truth of what is left is that of the label at a letter that agrees
  truth_left : (held other : ℕ → Bool) → ((p : ℕ) → is_controlled controlled p ≡ true → held p ≡ other p)
      → ((p : ℕ) → is_controlled controlled p ≡ false → holds_in letter p ≡ other p)
      → (label : LabelTree) → truth held (restricted controlled letter label) ≡ truth other label
  truth_left held other same input (constant value) = refl
  truth_left held other same input (proposition p) = atom_truth held other p (is_controlled controlled p) (same p) (input p)
  truth_left held other same input (negation part) = ap not (truth_left held other same input part)
  truth_left held other same input (conjunction left right) =
      ap₂ ◌&&◌ (truth_left held other same input left) (truth_left held other same input right)
  truth_left held other same input (disjunction left right) =
      ap₂ ◌||◌ (truth_left held other same input left) (truth_left held other same input right)

  pub left_answers : (label : LabelTree) → IsSatisfiable (restricted controlled letter label) ↔ CanAnswer controlled label (holds_in letter)
  unfolding merged
  left_answers label = (
    λ possible. record {
      letter = merged possible.0;
      agrees = agrees possible.0;
      holds =
          sym (truth_left possible.0 (merged possible.0)
          (λ p is. sym (ap (λ b. cond b (possible.0 p) (holds_in letter p)) is))
          (λ p is. sym (ap (λ b. cond b (possible.0 p) (holds_in letter p)) is)) label)
          ∙ possible.1;
    },
    λ answer. (
      answer.letter,
      truth_left answer.letter answer.letter (λ p is. refl) (λ p is. answer.agrees p (uncontrolled controlled p is)) label ∙ answer.holds,
    ),
  )

  -- it is as deep
  atom_depth : (p : ℕ) (b : Bool) → label_depth (cond b (proposition p) (constant (holds_in letter p))) ≡ 1
  atom_depth p true = refl
  atom_depth p false = refl

  depth_left : (label : LabelTree) → label_depth (restricted controlled letter label) ≡ label_depth label
  depth_left (constant value) = refl
  depth_left (proposition p) = atom_depth p (is_controlled controlled p)
  depth_left (negation part) = ap (λ n. n + 1) (depth_left part)
  depth_left (conjunction left right) = ap₂ (λ m n. max m n + 1) (depth_left left) (depth_left right)
  depth_left (disjunction left right) = ap₂ (λ m n. max m n + 1) (depth_left left) (depth_left right)

  -- so memory alone refuses it
  pub memory_only : {X : Type 0} (r : Result X Refusal) (label : LabelTree) → label_depth label ≤ most_depth
      → IfErr r (IsDeeper (most_depth < label_depth (restricted controlled letter label))) → IsOkUnless r Memory
  memory_only (Ok x) label shallow refused = tt
  memory_only (Err refusal) label shallow refused =
      not_deeper (most_depth < label_depth (restricted controlled letter label)) (λ deep. omega (arith, deep, depth_left label, shallow)) refusal refused

  -- its nodes are those of the label with constants in place of inputs
  atom_nodes : (p : ℕ) (b : Bool) → cond b (Proposition p) (Constant (holds_in letter p)) ∷ []
      ≡ postfix (cond b (proposition p) (constant (holds_in letter p)))
  atom_nodes p true = refl
  atom_nodes p false = refl

  joined_left : (left right one other : List LabelNode) (operator : LabelNode) → restricted_node controlled letter operator ≡ operator
      → map (restricted_node controlled letter) left ≡ one → map (restricted_node controlled letter) right ≡ other
      → map (restricted_node controlled letter) (left ++ (right ++ operator ∷ [])) ≡ one ++ (other ++ operator ∷ [])
  joined_left left right one other operator stays front back =
      map-append (restricted_node controlled letter) left (right ++ operator ∷ [])
      ∙ ap₂ ◌++◌ front (map-append (restricted_node controlled letter) right (operator ∷ [])
      ∙ ap₂ (λ (nodes : List LabelNode) (last : LabelNode). nodes ++ last ∷ []) back stays)

  pub nodes_left : (label : LabelTree) → map (restricted_node controlled letter) (postfix label) ≡ postfix (restricted controlled letter label)
  nodes_left (constant value) = refl
  nodes_left (proposition p) = atom_nodes p (is_controlled controlled p)
  nodes_left (negation part) =
      map-append (restricted_node controlled letter) (postfix part) (Not ∷ []) ∙ ap (λ nodes. nodes ++ Not ∷ []) (nodes_left part)
  nodes_left (conjunction left right) = joined_left (postfix left) (postfix right) _ _ And refl (nodes_left left) (nodes_left right)
  nodes_left (disjunction left right) = joined_left (postfix left) (postfix right) _ _ Or refl (nodes_left left) (nodes_left right)

  -- so what is left is judged in place of the label
  pub judged_left : (r : Result Bool Refusal) (tree label : LabelTree) → tree ≡ restricted controlled letter label
      → IfOk r (λ possible. IsTrue possible ↔ IsSatisfiable tree)
      → IfOk r (λ possible. IsTrue possible ↔ CanAnswer controlled label (holds_in letter))
  judged_left (Ok possible) tree label is judged =
      let both = left_answers label in
      let left : IsTrue possible ↔ IsSatisfiable (restricted controlled letter label) =
      subst (λ (t : LabelTree). IsTrue possible ↔ IsSatisfiable t) is judged in
      (λ yes. both.0 (left.0 yes), λ answer. left.1 (both.1 answer))
  judged_left (Err refusal) tree label is judged = tt
