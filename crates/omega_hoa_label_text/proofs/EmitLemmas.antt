-- The nodes that are emitted for a label are those of what it means.
use Rattle.std.proofs.Common.{◌≡◌, ℕ, suc, ◌+◌, ◌<◌, get_or, drop-cons, arith, List, [], ◌∷◌, ◌++◌, Option, Some, None, option_map, IsSome, length, take, drop, ap, append-nil, append_assoc, refl, subst, sym, ◌∙◌}
use Rattle.std.proofs.Math.Seq.{drop-append_seam, take-append_seam}
use Rattle.std.proofs.lemmas.Bool.{false≢true}
use Rattle.omega_hoa_label_text.specs.Expanding.{Entry, Meaning, both, in_parentheses, negated, replaced, stands_for}
use Rattle.omega_hoa_label.specs.Label.{LabelTree}
use Rattle.omega_hoa_label.specs.Label as label
use Rattle.omega_hoa_label.specs.Raw.{RawLabelTree, alias, conjunction, constant, disjunction, group, negation, proposition}
use Rattle.omega_hoa_label_text.specs.private.Emitting.{AllStand, emitted, nodes_of}
use Rattle.omega_hoa_expression.specs.Joins.{regrouped}
use Rattle.omega_hoa_label.specs.Postfix.{alias_names, raw_postfix}
use Rattle.omega_hoa_label.specs.declared.label.LabelNode.{LabelNode}
use Rattle.omega_hoa_label.specs.declared.label.LabelNode.TheVariants.{Alias, And, Constant, Group, Not, Or, Proposition}

-- the meaning under a step that has one
some-part : (step : Meaning → Meaning) (part : Option Meaning) → IsSome (option_map step part) → IsSome part
some-part step None is = is
some-part step (Some meaning) is = is

some-left : (operator : LabelTree → LabelTree → LabelTree) (left right : Option Meaning) → IsSome (both operator left right) → IsSome left
some-left operator None right is = is
some-left operator (Some left) right is = refl

some-right : (operator : LabelTree → LabelTree → LabelTree) (left right : Option Meaning) → IsSome (both operator left right) → IsSome right
some-right operator None right is = absurd (false≢true is)
some-right operator (Some left) None is = is
some-right operator (Some left) (Some right) is = refl

nodes-parentheses : (part : Option Meaning) → nodes_of (option_map in_parentheses part) ≡ nodes_of part
nodes-parentheses None = refl
nodes-parentheses (Some meaning) = refl

nodes-negated : (part : Option Meaning) → IsSome part → nodes_of (option_map negated part) ≡ nodes_of part ++ Not ∷ []
nodes-negated None is = absurd (false≢true is)
nodes-negated (Some meaning) is = refl

nodes-conjunction : (left right : Option Meaning) → IsSome left → IsSome right
    → nodes_of (both label.conjunction left right) ≡ nodes_of left ++ (nodes_of right ++ And ∷ [])
nodes-conjunction None right one other = absurd (false≢true one)
nodes-conjunction (Some left) None one other = absurd (false≢true other)
nodes-conjunction (Some left) (Some right) one other = refl

nodes-disjunction : (left right : Option Meaning) → IsSome left → IsSome right
    → nodes_of (both label.disjunction left right) ≡ nodes_of left ++ (nodes_of right ++ Or ∷ [])
nodes-disjunction None right one other = absurd (false≢true one)
nodes-disjunction (Some left) None one other = absurd (false≢true other)
nodes-disjunction (Some left) (Some right) one other = refl

-- a label's nodes are emitted as those of what it means
emitted-postfix : (entries : List Entry) (tree : RawLabelTree) (names : List ℕ) (rest : List LabelNode) → IsSome (replaced entries tree)
    → emitted entries (alias_names tree ++ names) (raw_postfix tree ++ rest) ≡ nodes_of (replaced entries tree) ++ emitted entries names rest
emitted-postfix entries (constant value) names rest is = refl
emitted-postfix entries (proposition number) names rest is = refl
emitted-postfix entries (alias name) names rest is =
    ap (λ front. nodes_of (stands_for entries front) ++ emitted entries (drop (length name) (name ++ names)) rest) (take-append_seam name names)
    ∙ (ap (λ back. nodes_of (stands_for entries name) ++ emitted entries back rest) (drop-append_seam name names)
    ∙ ap (λ nodes. nodes ++ emitted entries names rest) (sym (nodes-parentheses (stands_for entries name))))
emitted-postfix entries (negation part) names rest is =
    ap (emitted entries (alias_names part ++ names)) (append_assoc (raw_postfix part) (Not ∷ []) rest)
    ∙ (emitted-postfix entries part names (Not ∷ rest) (some-part negated (replaced entries part) is)
    ∙ (sym (append_assoc (nodes_of (replaced entries part)) (Not ∷ []) (emitted entries names rest))
    ∙ ap (λ nodes. nodes ++ emitted entries names rest) (sym (nodes-negated (replaced entries part) (some-part negated (replaced entries part) is)))))
emitted-postfix entries (group part) names rest is =
    ap (emitted entries (alias_names part ++ names)) (append_assoc (raw_postfix part) (Group ∷ []) rest)
    ∙ (emitted-postfix entries part names (Group ∷ rest) (some-part in_parentheses (replaced entries part) is)
    ∙ ap (λ nodes. nodes ++ emitted entries names rest) (sym (nodes-parentheses (replaced entries part))))
emitted-postfix entries (conjunction left right) names rest is =
    let one = some-left label.conjunction (replaced entries left) (replaced entries right) is in
    let other = some-right label.conjunction (replaced entries left) (replaced entries right) is in
    ap (λ more. emitted entries more (raw_postfix (conjunction left right) ++ rest)) (append_assoc (alias_names left) (alias_names right) names)
    ∙ (ap (emitted entries (alias_names left ++ (alias_names right ++ names))) (regrouped (raw_postfix left) (raw_postfix right) And rest)
    ∙ (emitted-postfix entries left (alias_names right ++ names) (raw_postfix right ++ And ∷ rest) one
    ∙ (ap (λ nodes. nodes_of (replaced entries left) ++ nodes) (emitted-postfix entries right names (And ∷ rest) other)
    ∙ (sym (regrouped (nodes_of (replaced entries left)) (nodes_of (replaced entries right)) And (emitted entries names rest))
    ∙ ap (λ nodes. nodes ++ emitted entries names rest) (sym (nodes-conjunction (replaced entries left) (replaced entries right) one other))))))
emitted-postfix entries (disjunction left right) names rest is =
    let one = some-left label.disjunction (replaced entries left) (replaced entries right) is in
    let other = some-right label.disjunction (replaced entries left) (replaced entries right) is in
    ap (λ more. emitted entries more (raw_postfix (disjunction left right) ++ rest)) (append_assoc (alias_names left) (alias_names right) names)
    ∙ (ap (emitted entries (alias_names left ++ (alias_names right ++ names))) (regrouped (raw_postfix left) (raw_postfix right) Or rest)
    ∙ (emitted-postfix entries left (alias_names right ++ names) (raw_postfix right ++ Or ∷ rest) one
    ∙ (ap (λ nodes. nodes_of (replaced entries left) ++ nodes) (emitted-postfix entries right names (Or ∷ rest) other)
    ∙ (sym (regrouped (nodes_of (replaced entries left)) (nodes_of (replaced entries right)) Or (emitted entries names rest))
    ∙ ap (λ nodes. nodes ++ emitted entries names rest) (sym (nodes-disjunction (replaced entries left) (replaced entries right) one other))))))

-- a label's nodes and names alone are emitted as what it means
pub emitted-label : (entries : List Entry) (tree : RawLabelTree) → IsSome (replaced entries tree)
    → emitted entries (alias_names tree) (raw_postfix tree) ≡ nodes_of (replaced entries tree)
emitted-label entries tree is =
    ap (λ names. emitted entries names (raw_postfix tree)) (sym (append-nil (alias_names tree)))
    ∙ (ap (emitted entries (alias_names tree ++ [])) (sym (append-nil (raw_postfix tree)))
    ∙ (emitted-postfix entries tree [] [] is ∙ append-nil (nodes_of (replaced entries tree))))

-- where a label means something, each of its aliases stands for something
stand-postfix : (entries : List Entry) (tree : RawLabelTree) (names : List ℕ) (rest : List LabelNode) → IsSome (replaced entries tree)
    → AllStand entries names rest → AllStand entries (alias_names tree ++ names) (raw_postfix tree ++ rest)
stand-postfix entries (constant value) names rest is all = all
stand-postfix entries (proposition number) names rest is all = all
stand-postfix entries (alias name) names rest is all = (
  subst (λ front. IsSome (stands_for entries front)) (sym (take-append_seam name names)) (some-part in_parentheses (stands_for entries name) is),
  subst (λ back. AllStand entries back rest) (sym (drop-append_seam name names)) all,
)
stand-postfix entries (negation part) names rest is all =
    subst (AllStand entries (alias_names part ++ names)) (sym (append_assoc (raw_postfix part) (Not ∷ []) rest))
    (stand-postfix entries part names (Not ∷ rest) (some-part negated (replaced entries part) is) all)
stand-postfix entries (group part) names rest is all =
    subst (AllStand entries (alias_names part ++ names)) (sym (append_assoc (raw_postfix part) (Group ∷ []) rest))
    (stand-postfix entries part names (Group ∷ rest) (some-part in_parentheses (replaced entries part) is) all)
stand-postfix entries (conjunction left right) names rest is all =
    subst (λ more. AllStand entries more (raw_postfix (conjunction left right) ++ rest)) (sym (append_assoc (alias_names left) (alias_names right) names))
    (subst (AllStand entries (alias_names left ++ (alias_names right ++ names))) (sym (regrouped (raw_postfix left) (raw_postfix right) And rest))
    (stand-postfix entries left (alias_names right ++ names) (raw_postfix right ++ And ∷ rest) (some-left label.conjunction (replaced entries left) (replaced entries right) is)
    (stand-postfix entries right names (And ∷ rest) (some-right label.conjunction (replaced entries left) (replaced entries right) is) all)))
stand-postfix entries (disjunction left right) names rest is all =
    subst (λ more. AllStand entries more (raw_postfix (disjunction left right) ++ rest)) (sym (append_assoc (alias_names left) (alias_names right) names))
    (subst (AllStand entries (alias_names left ++ (alias_names right ++ names))) (sym (regrouped (raw_postfix left) (raw_postfix right) Or rest))
    (stand-postfix entries left (alias_names right ++ names) (raw_postfix right ++ Or ∷ rest) (some-left label.disjunction (replaced entries left) (replaced entries right) is)
    (stand-postfix entries right names (Or ∷ rest) (some-right label.disjunction (replaced entries left) (replaced entries right) is) all)))

-- and so alone
pub stand-label : (entries : List Entry) (tree : RawLabelTree) → IsSome (replaced entries tree) → AllStand entries (alias_names tree) (raw_postfix tree)
stand-label entries tree is =
    subst (λ names. AllStand entries names (raw_postfix tree)) (append-nil (alias_names tree))
    (subst (AllStand entries (alias_names tree ++ [])) (append-nil (raw_postfix tree)) (stand-postfix entries tree [] [] is tt))

-- the next node at a place is emitted first
pub emitted-at : (entries : List Entry) (names : List ℕ) (nodes : List LabelNode) (place : ℕ) (node d : LabelNode) → place < length nodes → get_or nodes place d ≡ node
    → emitted entries names (drop place nodes) ≡ emitted entries names (node ∷ drop (place + 1) nodes)
emitted-at entries names nodes place node d within here =
    let next : suc place ≡ place + 1 = omega arith in
    ap (emitted entries names) (drop-cons nodes place d within)
    ∙ (ap (λ first. emitted entries names (first ∷ drop (suc place) nodes)) here ∙ ap (λ n. emitted entries names (node ∷ drop n nodes)) next)

-- and stands for something first
pub stand-at : (entries : List Entry) (names : List ℕ) (nodes : List LabelNode) (place : ℕ) (node d : LabelNode) → place < length nodes → get_or nodes place d ≡ node
    → AllStand entries names (drop place nodes) → AllStand entries names (node ∷ drop (place + 1) nodes)
stand-at entries names nodes place node d within here all =
    let next : suc place ≡ place + 1 = omega arith in
    subst (λ n. AllStand entries names (node ∷ drop n nodes)) next
    (subst (λ first. AllStand entries names (first ∷ drop (suc place) nodes)) here
    (subst (AllStand entries names) (drop-cons nodes place d within) all))

-- a node that is no alias and no parentheses is emitted as it is
pub emitted-plain : (entries : List Entry) (names : List ℕ) (rest : List LabelNode) (node : LabelNode) → ((count : ℕ) → node ≡ Alias count → ⊥) → (node ≡ Group → ⊥)
    → emitted entries names (node ∷ rest) ≡ node ∷ emitted entries names rest
emitted-plain entries names rest (Constant value) no_alias no_group = refl
emitted-plain entries names rest (Proposition number) no_alias no_group = refl
emitted-plain entries names rest (Alias count) no_alias no_group = absurd (no_alias count refl)
emitted-plain entries names rest Not no_alias no_group = refl
emitted-plain entries names rest And no_alias no_group = refl
emitted-plain entries names rest Or no_alias no_group = refl
emitted-plain entries names rest Group no_alias no_group = absurd (no_group refl)

-- and the aliases after it stand for something
pub stand-plain : (entries : List Entry) (names : List ℕ) (rest : List LabelNode) (node : LabelNode) → ((count : ℕ) → node ≡ Alias count → ⊥) → (node ≡ Group → ⊥)
    → AllStand entries names (node ∷ rest) → AllStand entries names rest
stand-plain entries names rest (Constant value) no_alias no_group all = all
stand-plain entries names rest (Proposition number) no_alias no_group all = all
stand-plain entries names rest (Alias count) no_alias no_group all = absurd (no_alias count refl)
stand-plain entries names rest Not no_alias no_group all = all
stand-plain entries names rest And no_alias no_group all = all
stand-plain entries names rest Or no_alias no_group all = all
stand-plain entries names rest Group no_alias no_group all = absurd (no_group refl)

-- a node that is put out is one of those to come
pub emitted-push : (entries : List Entry) (names more : List ℕ) (nodes : List LabelNode) (place : ℕ) (node d : LabelNode) (plainly : LabelNode) (before out whole : List LabelNode)
    → place < length nodes → get_or nodes place d ≡ node
    → emitted entries names (node ∷ drop (place + 1) nodes) ≡ plainly ∷ emitted entries names (drop (place + 1) nodes)
    → before ++ emitted entries names (drop place nodes) ≡ whole → out ≡ before ++ plainly ∷ [] → more ≡ names
    → out ++ emitted entries more (drop (place + 1) nodes) ≡ whole
emitted-push entries names more nodes place node d plainly before out whole within here first so_far pushed same =
    ap (λ front. front ++ emitted entries more (drop (place + 1) nodes)) pushed
    ∙ (ap (λ ns. (before ++ plainly ∷ []) ++ emitted entries ns (drop (place + 1) nodes)) same
    ∙ (append_assoc before (plainly ∷ []) (emitted entries names (drop (place + 1) nodes))
    ∙ (ap (λ back. before ++ back) (sym (emitted-at entries names nodes place node d within here ∙ first)) ∙ so_far)))

-- and so are the nodes of an alias
pub emitted-alias : (entries : List Entry) (names more : List ℕ) (nodes : List LabelNode) (place count : ℕ) (d : LabelNode) (meaning : Option Meaning) (before out whole : List LabelNode)
    → place < length nodes → get_or nodes place d ≡ Alias count → stands_for entries (take count names) ≡ meaning
    → before ++ emitted entries names (drop place nodes) ≡ whole → out ≡ before ++ nodes_of meaning → more ≡ drop count names
    → out ++ emitted entries more (drop (place + 1) nodes) ≡ whole
emitted-alias entries names more nodes place count d meaning before out whole within here stands so_far pushed rest =
    ap (λ front. front ++ emitted entries more (drop (place + 1) nodes)) pushed
    ∙ (ap (λ ns. (before ++ nodes_of meaning) ++ emitted entries ns (drop (place + 1) nodes)) rest
    ∙ (append_assoc before (nodes_of meaning) (emitted entries (drop count names) (drop (place + 1) nodes))
    ∙ (ap (λ back. before ++ back)
    (ap (λ m. nodes_of m ++ emitted entries (drop count names) (drop (place + 1) nodes)) (sym stands)
    ∙ sym (emitted-at entries names nodes place (Alias count) d within here))
    ∙ so_far)))

-- parentheses put nothing out
pub emitted-group : (entries : List Entry) (names more : List ℕ) (nodes : List LabelNode) (place : ℕ) (d : LabelNode) (before out whole : List LabelNode)
    → place < length nodes → get_or nodes place d ≡ Group
    → before ++ emitted entries names (drop place nodes) ≡ whole → out ≡ before → more ≡ names
    → out ++ emitted entries more (drop (place + 1) nodes) ≡ whole
emitted-group entries names more nodes place d before out whole within here so_far same_out same =
    ap (λ front. front ++ emitted entries more (drop (place + 1) nodes)) same_out
    ∙ (ap (λ ns. before ++ emitted entries ns (drop (place + 1) nodes)) same
    ∙ (ap (λ back. before ++ back) (sym (emitted-at entries names nodes place Group d within here)) ∙ so_far))

-- the aliases after stand for something too
pub stand-moved : (entries : List Entry) (names more : List ℕ) (nodes : List LabelNode) → AllStand entries names nodes → more ≡ names → AllStand entries more nodes
stand-moved entries names more nodes all same = subst (λ ns. AllStand entries ns nodes) (sym same) all
