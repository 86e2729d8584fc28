-- Labels in postfix order one after the other, taken apart from the last node.
use Rattle.std.proofs.Common.{◌≡◌, ℕ, ◌+◌, ◌-◌, ◌<◌, ◌≤◌, true, false, List, [], ◌∷◌, ◌++◌, length, refl, sym, ap, ◌∙◌, append_assoc, append-nil, arith, true≢false}
use Rattle.std.specs.List.{flat_map}
use Rattle.std.specs.Prelude.{IfNone, None, Option, Some}
use Rattle.std.proofs.lemmas.List.{length-append, reverse-append, same_from_push}
use Rattle.omega_hoa_label.specs.Label.{LabelTree, conjunction, constant, disjunction, negation, proposition}
use Rattle.omega_hoa_label.specs.Postfix.{postfix}
use Rattle.omega_hoa_label.specs.declared.label.LabelNode.{LabelNode}
use Rattle.omega_hoa_label.specs.declared.label.LabelNode.TheVariants.{Alias, And, Constant, Group, Not, Or, Proposition}
use Rattle.omega_hoa_edges.specs.Conjuncts.{conjuncts}
use Rattle.omega_hoa_edges.specs.private.Stacked.{AreOpened, AreWanted, EndInConjunct, EndInNoNot, IsBeforeNot, IsLastLength, conjuncts_back, is_not, joins, part_count, stacked}

-- a label's last node
abbrev top : LabelTree → LabelNode
top (constant value) = Constant value
top (proposition number) = Proposition number
top (negation part) = Not
top (conjunction left right) = And
top (disjunction left right) = Or

-- a label's parts, the last first
abbrev parts_of : LabelTree → List LabelTree
parts_of (constant value) = []
parts_of (proposition number) = []
parts_of (negation part) = part ∷ []
parts_of (conjunction left right) = right ∷ left ∷ []
parts_of (disjunction left right) = right ∷ left ∷ []

parts_counted : (label : LabelTree) → length (parts_of label) ≡ part_count (top label)
parts_counted (constant value) = refl
parts_counted (proposition number) = refl
parts_counted (negation part) = refl
parts_counted (conjunction left right) = refl
parts_counted (disjunction left right) = refl

-- a node has at most two parts
pub few_parts : (node : LabelNode) → part_count node ≤ 2
few_parts And = omega arith
few_parts Or = omega arith
few_parts Not = omega arith
few_parts Group = omega arith
few_parts (Constant value) = omega arith
few_parts (Proposition number) = omega arith
few_parts (Alias count) = omega arith

-- two parts and their operator behind others
both_parts : (front left right : List LabelNode) (operator : LabelNode)
    → front ++ (left ++ (right ++ operator ∷ [])) ≡ ((front ++ left) ++ right) ++ operator ∷ []
both_parts front left right operator =
    sym (append_assoc front left (right ++ operator ∷ [])) ∙ sym (append_assoc (front ++ left) right (operator ∷ []))

-- the last node of labels is that of the last label, behind its parts
last_node : (label : LabelTree) (labels : List LabelTree) → stacked (label ∷ labels) ≡ stacked (parts_of label ++ labels) ++ top label ∷ []
last_node (constant value) labels = refl
last_node (proposition number) labels = refl
last_node (negation part) labels = sym (append_assoc (stacked labels) (postfix part) (Not ∷ []))
last_node (conjunction left right) labels = both_parts (stacked labels) (postfix left) (postfix right) And
last_node (disjunction left right) labels = both_parts (stacked labels) (postfix left) (postfix right) Or

-- the nodes of labels without the last, and the last
taken_apart : (nodes before : List LabelNode) (node : LabelNode) (label : LabelTree) (labels : List LabelTree)
    → nodes ≡ before ++ node ∷ [] → nodes ≡ stacked (label ∷ labels) → (before ≡ stacked (parts_of label ++ labels)) × (node ≡ top label)
taken_apart nodes before node label labels split is =
    same_from_push before (stacked (parts_of label ++ labels)) node (top label) (sym split ∙ (is ∙ last_node label labels))

-- a label has nodes
pub some_nodes : (label : LabelTree) (labels : List LabelTree) → 0 < length (stacked (label ∷ labels))
some_nodes label labels =
    omega (arith, ap length (last_node label labels), length-append (stacked (parts_of label ++ labels)) (top label ∷ []))

-- the whole label is wanted
pub begun : (nodes : List LabelNode) → AreWanted nodes nodes 1
begun nodes label labels is = (label ∷ [], refl, is)

-- its parts are wanted once the last node is taken
pub wanted_on : (nodes left before : List LabelNode) (node : LabelNode) (count : ℕ) → 0 < count → left ≡ before ++ node ∷ []
    → AreWanted nodes left count → AreWanted nodes before (count - 1 + part_count node)
wanted_on nodes left before node count some split wanted label labels is =
    let all = wanted label labels is in go all.0 all.1 all.2
  where
    go : (parts : List LabelTree) → length parts ≡ count → left ≡ stacked (parts ++ labels)
        → (parts : List LabelTree) × (length parts ≡ count - 1 + part_count node) × (before ≡ stacked (parts ++ labels))
    go [] counted here = absurd (omega (arith, counted, some))
    go (part ∷ parts) counted here =
        let apart = taken_apart left before node part (parts ++ labels) split here in
        let number : part_count node ≡ length (parts_of part) = ap part_count apart.1 ∙ sym (parts_counted part) in (
          parts_of part ++ parts,
          omega (arith, counted, number, length-append (parts_of part) parts),
          apart.0 ∙ ap stacked (sym (append_assoc (parts_of part) parts labels)),
        )

-- none is wanted any more
pub wanted_none : (nodes left : List LabelNode) → AreWanted nodes left 0 → IsLastLength nodes (length nodes - length left)
wanted_none nodes left wanted label labels is =
    let all = wanted label labels is in go all.0 all.1 all.2
  where
    go : (parts : List LabelTree) → length parts ≡ 0 → left ≡ stacked (parts ++ labels) → length nodes - length left ≡ length (postfix label)
    go [] counted here = omega (arith, ap length here, ap length is, length-append (stacked labels) (postfix label))
    go (part ∷ parts) counted here = absurd (omega (arith, counted))

-- nodes that are all taken are no label's
pub wanted_gone : (nodes left : List LabelNode) (count : ℕ) → 0 < count → length left ≡ 0 → AreWanted nodes left count → IsLastLength nodes (length nodes)
wanted_gone nodes left count some gone wanted label labels is =
    let all = wanted label labels is in go all.0 all.1 all.2
  where
    go : (parts : List LabelTree) → length parts ≡ count → left ≡ stacked (parts ++ labels) → length nodes ≡ length (postfix label)
    go [] counted here = absurd (omega (arith, counted, some))
    go (part ∷ parts) counted here = absurd (omega (arith, gone, ap length here, some_nodes part (parts ++ labels)))

-- the nodes that are left are those of labels with this label's conjuncts, and of others
abbrev Opens : (left : List LabelNode) → List LabelTree → LabelTree → Type 0
Opens left labels label = (parts : List LabelTree) × (left ≡ stacked (parts ++ labels)) × (conjuncts_back label ≡ flat_map conjuncts_back parts)

opens_joins : (left : List LabelNode) (labels : List LabelTree) (label : LabelTree) → left ≡ stacked (parts_of label ++ labels) → joins (top label) ≡ true
    → Opens left labels label
opens_joins left labels (constant true) here test = ([], here, refl)
opens_joins left labels (constant false) here test = absurd (true≢false (sym test))
opens_joins left labels (proposition number) here test = absurd (true≢false (sym test))
opens_joins left labels (negation part) here test = absurd (true≢false (sym test))
opens_joins left labels (conjunction one other) here test = (
  other ∷ one ∷ [],
  here,
  reverse-append (conjuncts one) (conjuncts other) ∙ ap (λ (more : List LabelTree). conjuncts_back other ++ more) (sym (append-nil (conjuncts_back one))),
)
opens_joins left labels (disjunction one other) here test = absurd (true≢false (sym test))

-- a last `&` or `t` is left out
pub opened_joins : (nodes before : List LabelNode) (node : LabelNode) → nodes ≡ before ++ node ∷ [] → joins node ≡ true → AreOpened nodes before
opened_joins nodes before node split test label labels is =
    let apart = taken_apart nodes before node label labels split is in
    opens_joins before labels label apart.0 (sym (ap joins apart.1) ∙ test)

opens_denied : (left : List LabelNode) (labels : List LabelTree) (part : LabelTree) → left ≡ stacked (parts_of part ++ labels) → is_not (top part) ≡ true
    → Opens left labels (negation part)
opens_denied left labels (constant value) here test = absurd (true≢false (sym test))
opens_denied left labels (proposition number) here test = absurd (true≢false (sym test))
opens_denied left labels (negation part) here test = (part ∷ [], here, sym (append-nil (conjuncts_back part)))
opens_denied left labels (conjunction one other) here test = absurd (true≢false (sym test))
opens_denied left labels (disjunction one other) here test = absurd (true≢false (sym test))

-- a last pair of `!` is left out
pub opened_nots : (nodes before within : List LabelNode) (node : LabelNode) → nodes ≡ before ++ node ∷ [] → is_not node ≡ true → IsBeforeNot before within
    → AreOpened nodes within
opened_nots nodes before within node split test inner label labels is =
    let apart = taken_apart nodes before node label labels split is in go label apart.0 (sym (ap is_not apart.1) ∙ test)
  where
    go : (label : LabelTree) → before ≡ stacked (parts_of label ++ labels) → is_not (top label) ≡ true → Opens within labels label
    go (constant value) here test = absurd (true≢false (sym test))
    go (proposition number) here test = absurd (true≢false (sym test))
    go (negation part) here test =
        let apart = taken_apart before within Not part labels inner here in
        opens_denied within labels part apart.0 (sym (ap is_not apart.1))
    go (conjunction left right) here test = absurd (true≢false (sym test))
    go (disjunction left right) here test = absurd (true≢false (sym test))

-- one `!` begins a conjunct
pub conjunct_not : (nodes before : List LabelNode) (node : LabelNode) → nodes ≡ before ++ node ∷ [] → is_not node ≡ true → EndInNoNot before
    → EndInConjunct nodes
conjunct_not nodes before node split test no_not label labels is =
    let apart = taken_apart nodes before node label labels split is in go label apart.0 (sym (ap is_not apart.1) ∙ test)
  where
    denied : (part : LabelTree) → before ≡ stacked (part ∷ labels) → conjuncts (negation part) ≡ negation part ∷ []
    denied (constant value) here = refl
    denied (proposition number) here = refl
    denied (negation part) here = absurd (no_not (stacked (part ∷ labels)) (here ∙ last_node (negation part) labels))
    denied (conjunction left right) here = refl
    denied (disjunction left right) here = refl

    go : (label : LabelTree) → before ≡ stacked (parts_of label ++ labels) → is_not (top label) ≡ true → conjuncts label ≡ label ∷ []
    go (constant value) here test = absurd (true≢false (sym test))
    go (proposition number) here test = absurd (true≢false (sym test))
    go (negation part) here test = denied part here
    go (conjunction left right) here test = absurd (true≢false (sym test))
    go (disjunction left right) here test = absurd (true≢false (sym test))

-- any other node does
pub conjunct_other : (nodes before : List LabelNode) (node : LabelNode) → nodes ≡ before ++ node ∷ [] → joins node ≡ false → is_not node ≡ false
    → EndInConjunct nodes
conjunct_other nodes before node split no_join no_not label labels is =
    let here = (taken_apart nodes before node label labels split is).1 in
    go label (sym (ap joins here) ∙ no_join) (sym (ap is_not here) ∙ no_not)
  where
    go : (label : LabelTree) → joins (top label) ≡ false → is_not (top label) ≡ false → conjuncts label ≡ label ∷ []
    go (constant true) no_join no_not = absurd (true≢false no_join)
    go (constant false) no_join no_not = refl
    go (proposition number) no_join no_not = refl
    go (negation part) no_join no_not = absurd (true≢false no_not)
    go (conjunction left right) no_join no_not = absurd (true≢false no_join)
    go (disjunction left right) no_join no_not = refl

-- no nodes are no label's
pub conjunct_none : (nodes : List LabelNode) → length nodes ≡ 0 → EndInConjunct nodes
conjunct_none nodes none label labels is = absurd (omega (arith, none, ap length is, some_nodes label labels))

-- what follows where there is nothing
pub none_then : {X P Q : Type 0} (found : Option X) → IfNone found P → (P → Q) → IfNone found Q
none_then None holds then = then holds
none_then (Some x) holds then = tt
