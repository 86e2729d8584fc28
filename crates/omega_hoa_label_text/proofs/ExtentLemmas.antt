-- The extent that nodes make is that of what their label means.
use Rattle.std.proofs.Common.{◌≡◌, ◌⊎◌, inl, inr, Bool, ℕ, suc, ◌+◌, ◌<◌, get_or, drop-cons, List, [], ◌∷◌, ◌++◌, Option, Some, None, option_map, length, drop, ap, append-nil, append_assoc, refl, sym, ◌∙◌, arith}
use Rattle.std.proofs.Math.Seq.{drop-append_seam, take-append_seam}
use Rattle.omega_hoa_label_text.specs.Expanding.{Entry, Meaning, both, extent_of, in_parentheses, negated, replaced, stands_for}
use Rattle.omega_hoa_label.specs.Label.{LabelTree, label_size}
use Rattle.omega_hoa_label.specs.Label as label
use Rattle.omega_hoa_label.specs.Raw.{RawLabelTree, alias, conjunction, constant, disjunction, group, negation, proposition}
use Rattle.omega_hoa_label_text.specs.private.Extents.{atom_extent, both_extents, deeper_extent, extent_named, extents_after, extents_below, negated_extent, top_extent}
use Rattle.omega_hoa_expression.specs.Joins.{regrouped}
use Rattle.omega_hoa_label.specs.Postfix.{alias_names, raw_postfix}
use Rattle.omega_hoa_label_text.specs.declared.extents.Extent.{Extent}
use Rattle.omega_hoa_label.specs.declared.label.LabelNode.{LabelNode}
use Rattle.omega_hoa_label.specs.declared.label.LabelNode.TheVariants.{And, Constant, Group, Not, Or, Proposition}

-- the extent of a label, where names have these extents
abbrev measured : (List ℕ → Option Extent) → RawLabelTree → Option Extent
measured named (constant value) = atom_extent
measured named (proposition number) = atom_extent
measured named (alias name) = option_map deeper_extent (named name)
measured named (negation part) = option_map negated_extent (measured named part)
measured named (conjunction left right) = both_extents (measured named left) (measured named right)
measured named (disjunction left right) = both_extents (measured named left) (measured named right)
measured named (group part) = option_map deeper_extent (measured named part)

-- a label's nodes leave its extent
extents_after-postfix : (named : List ℕ → Option Extent) (tree : RawLabelTree) (stack : List (Option Extent)) (names : List ℕ) (rest : List LabelNode)
    → extents_after named stack (alias_names tree ++ names) (raw_postfix tree ++ rest) ≡ extents_after named (measured named tree ∷ stack) names rest
extents_after-postfix named (constant value) stack names rest = refl
extents_after-postfix named (proposition number) stack names rest = refl
extents_after-postfix named (alias name) stack names rest =
    ap (λ front. extents_after named (option_map deeper_extent (named front) ∷ stack) (drop (length name) (name ++ names)) rest) (take-append_seam name names)
    ∙ ap (λ back. extents_after named (option_map deeper_extent (named name) ∷ stack) back rest) (drop-append_seam name names)
extents_after-postfix named (negation part) stack names rest =
    ap (extents_after named stack (alias_names part ++ names)) (append_assoc (raw_postfix part) (Not ∷ []) rest)
    ∙ extents_after-postfix named part stack names (Not ∷ rest)
extents_after-postfix named (group part) stack names rest =
    ap (extents_after named stack (alias_names part ++ names)) (append_assoc (raw_postfix part) (Group ∷ []) rest)
    ∙ extents_after-postfix named part stack names (Group ∷ rest)
extents_after-postfix named (conjunction left right) stack names rest =
    ap (λ more. extents_after named stack more (raw_postfix (conjunction left right) ++ rest)) (append_assoc (alias_names left) (alias_names right) names)
    ∙ (ap (extents_after named stack (alias_names left ++ (alias_names right ++ names))) (regrouped (raw_postfix left) (raw_postfix right) And rest)
    ∙ (extents_after-postfix named left stack (alias_names right ++ names) (raw_postfix right ++ And ∷ rest)
    ∙ extents_after-postfix named right (measured named left ∷ stack) names (And ∷ rest)))
extents_after-postfix named (disjunction left right) stack names rest =
    ap (λ more. extents_after named stack more (raw_postfix (disjunction left right) ++ rest)) (append_assoc (alias_names left) (alias_names right) names)
    ∙ (ap (extents_after named stack (alias_names left ++ (alias_names right ++ names))) (regrouped (raw_postfix left) (raw_postfix right) Or rest)
    ∙ (extents_after-postfix named left stack (alias_names right ++ names) (raw_postfix right ++ Or ∷ rest)
    ∙ extents_after-postfix named right (measured named left ∷ stack) names (Or ∷ rest)))

abbrev extent : ℕ → ℕ → Option Extent
extent depth size = Some (record { depth = depth; size = size })

extent-same : (d s d' s' : ℕ) → d ≡ d' → s ≡ s' → extent d s ≡ extent d' s'
extent-same d s d' s' depths sizes = ap (λ n. extent n s) depths ∙ ap (λ n. extent d' n) sizes

deeper-extent : (meaning : Option Meaning) → option_map deeper_extent (option_map extent_of meaning) ≡ option_map extent_of (option_map in_parentheses meaning)
deeper-extent None = refl
deeper-extent (Some meaning) = extent-same _ _ _ _ (omega arith) refl

negated-extent : (meaning : Option Meaning) → option_map negated_extent (option_map extent_of meaning) ≡ option_map extent_of (option_map negated meaning)
negated-extent None = refl
negated-extent (Some meaning) = extent-same _ _ _ _ (omega arith) (omega arith)

conjunction-extent : (left right : Option Meaning)
    → both_extents (option_map extent_of left) (option_map extent_of right) ≡ option_map extent_of (both label.conjunction left right)
conjunction-extent None right = refl
conjunction-extent (Some left) None = refl
conjunction-extent (Some left) (Some right) = extent-same _ _ _ _ (omega arith) (omega arith)

disjunction-extent : (left right : Option Meaning)
    → both_extents (option_map extent_of left) (option_map extent_of right) ≡ option_map extent_of (both label.disjunction left right)
disjunction-extent None right = refl
disjunction-extent (Some left) None = refl
disjunction-extent (Some left) (Some right) = extent-same _ _ _ _ (omega arith) (omega arith)

-- where names have the extents of entries, the extent is that of the meaning
measured-replaced : (entries : List Entry) (tree : RawLabelTree) → measured (extent_named entries) tree ≡ option_map extent_of (replaced entries tree)
measured-replaced entries (constant value) = refl
measured-replaced entries (proposition number) = refl
measured-replaced entries (alias name) = deeper-extent (stands_for entries name)
measured-replaced entries (negation part) = ap (option_map negated_extent) (measured-replaced entries part) ∙ negated-extent (replaced entries part)
measured-replaced entries (group part) = ap (option_map deeper_extent) (measured-replaced entries part) ∙ deeper-extent (replaced entries part)
measured-replaced entries (conjunction left right) =
    ap (λ part. both_extents part (measured (extent_named entries) right)) (measured-replaced entries left)
    ∙ (ap (both_extents (option_map extent_of (replaced entries left))) (measured-replaced entries right)
    ∙ conjunction-extent (replaced entries left) (replaced entries right))
measured-replaced entries (disjunction left right) =
    ap (λ part. both_extents part (measured (extent_named entries) right)) (measured-replaced entries left)
    ∙ (ap (both_extents (option_map extent_of (replaced entries left))) (measured-replaced entries right)
    ∙ disjunction-extent (replaced entries left) (replaced entries right))

-- a label's nodes and names alone leave the extent of its meaning alone
pub extents_after-label : (entries : List Entry) (tree : RawLabelTree)
    → extents_after (extent_named entries) [] (alias_names tree) (raw_postfix tree) ≡ option_map extent_of (replaced entries tree) ∷ []
extents_after-label entries tree =
    ap (λ names. extents_after (extent_named entries) [] names (raw_postfix tree)) (sym (append-nil (alias_names tree)))
    ∙ (ap (extents_after (extent_named entries) [] (alias_names tree ++ [])) (sym (append-nil (raw_postfix tree)))
    ∙ (extents_after-postfix (extent_named entries) tree [] [] [] ∙ ap (λ part. part ∷ []) (measured-replaced entries tree)))

-- the next node at a place is measured first
pub extents-next : (named : List ℕ → Option Extent) (stack new after : List (Option Extent)) (names more rest : List ℕ) (nodes : List LabelNode) (place : ℕ) (node d : LabelNode) (whole : List (Option Extent))
    → place < length nodes → get_or nodes place d ≡ node
    → extents_after named stack names (node ∷ drop (place + 1) nodes) ≡ extents_after named after rest (drop (place + 1) nodes)
    → extents_after named stack names (drop place nodes) ≡ whole → new ≡ after → more ≡ rest
    → extents_after named new more (drop (place + 1) nodes) ≡ whole
extents-next named stack new after names more rest nodes place node d whole within here first so_far put same =
    let next : suc place ≡ place + 1 = omega arith in
    ap (λ extents. extents_after named extents more (drop (place + 1) nodes)) put
    ∙ (ap (λ left. extents_after named after left (drop (place + 1) nodes)) same
    ∙ (sym
    (ap (extents_after named stack names) (drop-cons nodes place d within)
    ∙ (ap (λ head. extents_after named stack names (head ∷ drop (suc place) nodes)) here
    ∙ (ap (λ n. extents_after named stack names (node ∷ drop n nodes)) next ∙ first)))
    ∙ so_far))

-- an extent that is pushed is on top
pub pushed-is : (new stack below : List (Option Extent)) (extent top : Option Extent) → new ≡ extent ∷ stack → extent ≡ top → stack ≡ below → new ≡ top ∷ below
pushed-is new stack below extent top pushed tops belows = pushed ∙ (ap (λ first. first ∷ stack) tops ∙ ap (λ rest. top ∷ rest) belows)

-- a node that joins two parts takes both extents
pub extents-joined : (named : List ℕ → Option Extent) (stack : List (Option Extent)) (names : List ℕ) (node : LabelNode) (rest : List LabelNode) → (node ≡ And) ⊎ (node ≡ Or)
    → extents_after named stack names (node ∷ rest)
    ≡ extents_after named (both_extents (top_extent (extents_below stack)) (top_extent stack) ∷ extents_below (extents_below stack)) names rest
extents-joined named stack names node rest (inl is) = ap (λ first. extents_after named stack names (first ∷ rest)) is
extents-joined named stack names node rest (inr is) = ap (λ first. extents_after named stack names (first ∷ rest)) is

-- an atom has its own extent
pub extents-atom : (named : List ℕ → Option Extent) (stack : List (Option Extent)) (names : List ℕ) (node : LabelNode) (rest : List LabelNode)
    → ((value : Bool) × (node ≡ Constant value)) ⊎ ((number : ℕ) × (node ≡ Proposition number))
    → extents_after named stack names (node ∷ rest) ≡ extents_after named (atom_extent ∷ stack) names rest
extents-atom named stack names node rest (inl is) = ap (λ first. extents_after named stack names (first ∷ rest)) is.1
extents-atom named stack names node rest (inr is) = ap (λ first. extents_after named stack names (first ∷ rest)) is.1
