-- The conjuncts of a label found from the last to the first.
use Rattle.std.proofs.Common.{◌≡◌, ℕ, ◌-◌, ◌<◌, List, [], ◌∷◌, ◌++◌, length, map, take, drop, reverse, refl, sym, ap, ◌∙◌, append_assoc, append-nil, arith}
use Rattle.std.specs.List.{flat_map}
use Rattle.std.proofs.lemmas.List.{drop_at, length-append, map-append, reverse-append, reverse-reverse, take_at}
use Rattle.std.proofs.lemmas.List.Concat.{flat_map-append}
use Rattle.omega_hoa_label.specs.Label.{LabelTree}
use Rattle.omega_hoa_label.specs.Postfix.{postfix}
use Rattle.omega_hoa_label.specs.declared.label.LabelNode.{LabelNode}
use Rattle.omega_hoa_edges.specs.Conjuncts.{conjuncts}
use Rattle.omega_hoa_edges.specs.private.Stacked.{AreFound, AreOpened, EndInConjunct, IsLastLength, conjuncts_back, stacked}
use Rattle.omega_hoa_edges.proofs.Stacks.{some_nodes}

-- none is found at first
pub found_none : (nodes : List LabelNode) → AreFound nodes nodes []
found_none nodes label is = (label ∷ [], is, ap (map postfix) (append-nil (conjuncts_back label)))

-- operators that join conjuncts are left out
pub found_opened : (nodes left within : List LabelNode) (found : List (List LabelNode)) → 0 < length left → AreOpened left within
    → AreFound nodes left found → AreFound nodes within found
found_opened nodes left within found some opened all label is = let these = all label is in go these.0 these.1 these.2
  where
    go : (labels : List LabelTree) → left ≡ stacked labels → found ++ map postfix (flat_map conjuncts_back labels) ≡ map postfix (conjuncts_back label)
        → (labels : List LabelTree) × (within ≡ stacked labels) × (found ++ map postfix (flat_map conjuncts_back labels) ≡ map postfix (conjuncts_back label))
    go [] here are = absurd (omega (arith, some, ap length here))
    go (last ∷ labels) here are =
        let parts = opened last labels here in (
          parts.0 ++ labels,
          parts.1,
          ap (λ (more : List LabelTree). found ++ map postfix more)
              (flat_map-append conjuncts_back parts.0 labels ∙ ap (λ (front : List LabelTree). front ++ flat_map conjuncts_back labels) (sym parts.2))
              ∙ are,
        )

-- the last label is found if it is a conjunct
pub found_last : (nodes left others last : List LabelNode) (found : List (List LabelNode)) (count : ℕ) → 0 < length left → EndInConjunct left
    → IsLastLength left count → others ≡ take (length left - count) left → last ≡ drop (length left - count) left
    → AreFound nodes left found → AreFound nodes others (found ++ last ∷ [])
found_last nodes left others last found count some ends counted front back all label is = let these = all label is in go these.0 these.1 these.2
  where
    go : (labels : List LabelTree) → left ≡ stacked labels → found ++ map postfix (flat_map conjuncts_back labels) ≡ map postfix (conjuncts_back label)
        → (labels : List LabelTree) × (others ≡ stacked labels)
        × ((found ++ last ∷ []) ++ map postfix (flat_map conjuncts_back labels) ≡ map postfix (conjuncts_back label))
    go [] here are = absurd (omega (arith, some, ap length here))
    go (one ∷ labels) here are =
        let before : length (stacked labels) ≡ length left - count =
        omega (arith, counted one labels here, ap length here, length-append (stacked labels) (postfix one)) in
        let is_others : others ≡ stacked labels =
        front ∙ (ap (take (length left - count)) here ∙ take_at (stacked labels) (postfix one) (length left - count) before) in
        let is_last : last ≡ postfix one = back ∙ (ap (drop (length left - count)) here ∙ drop_at (stacked labels) (postfix one) (length left - count) before) in
        let alone : one ∷ [] ≡ conjuncts_back one = sym (ap reverse (ends one labels here)) in (
          labels,
          is_others,
          append_assoc found (last ∷ []) (map postfix (flat_map conjuncts_back labels))
              ∙ (ap (λ (nodes : List LabelNode). found ++ (nodes ∷ map postfix (flat_map conjuncts_back labels))) is_last
              ∙ (ap (λ (front : List LabelTree). found ++ map postfix (front ++ flat_map conjuncts_back labels)) alone ∙ are)),
        )

pub map_reverse : {X Y : Type 0} (f : X → Y) (xs : List X) → map f (reverse xs) ≡ reverse (map f xs)
map_reverse f [] = refl
map_reverse f (x ∷ xs) =
    ap (map f) (reverse-append (x ∷ []) xs) ∙ (map-append f (reverse xs) (x ∷ []) ∙ ap (λ ys. ys ++ f x ∷ []) (map_reverse f xs)) ∙ sym (reverse-append (f x ∷ []) (map f xs))

-- a label without nodes is none
found_end : (labels : List LabelTree) → length (stacked labels) ≡ 0 → labels ≡ []
found_end [] none = refl
found_end (label ∷ labels) none = absurd (omega (arith, none, some_nodes label labels))

-- all are found at last
pub found_all : (nodes left : List LabelNode) (found : List (List LabelNode)) → length left ≡ 0 → AreFound nodes left found
    → (label : LabelTree) → nodes ≡ postfix label → reverse found ≡ map postfix (conjuncts label)
found_all nodes left found none all label is =
    let these = all label is in
    let empty : these.0 ≡ [] = found_end these.0 (sym (ap length these.1) ∙ none) in
    let are : found ≡ map postfix (conjuncts_back label) =
    sym (append-nil found) ∙ (sym (ap (λ (labels : List LabelTree). found ++ map postfix (flat_map conjuncts_back labels)) empty) ∙ these.2) in
    ap reverse are ∙ (ap reverse (map_reverse postfix (conjuncts label)) ∙ reverse-reverse (map postfix (conjuncts label)))
