-- The nodes of a formula as its canonical text has it, and their names and depth, are those of its tree.
use Rattle.std.proofs.Common.{◌≡◌, ℕ, ◌+◌, ◌≤◌, length, Bool, true, false, List, [], ◌∷◌, ◌++◌, max, min, nat_le, nat_lt, reverse, ap, append-nil, append_assoc, arith, refl, sym, ◌∙◌}
use Rattle.std.proofs.lemmas.List.{reverse-append, reverse-reverse}
use Rattle.omega_hoa_expression.specs.Depth.{counted}
use Rattle.omega_hoa_expression.specs.Depths.{depths_below, top_depth}
use Rattle.omega_hoa_expression.specs.Joins.{regrouped}
use Rattle.omega_hoa_expression.specs.Limits.{past_depth}
use Rattle.omega_hoa_acceptance.specs.Acceptance.{AccTree, acc_depth}
use Rattle.omega_hoa_acceptance.specs.Acceptance as acc
use Rattle.omega_hoa_acceptance.specs.Raw.{RawAccTree, raw_acc_depth}
use Rattle.omega_hoa_acceptance.specs.Raw as raw_acc
use Rattle.omega_hoa_acceptance.specs.Writing.{acc_grouped, acc_text, acc_written}
use Rattle.omega_hoa_acceptance.specs.private.layout.Acceptance.{acc_postfix}
use Rattle.omega_hoa_acceptance.specs.private.layout.Raw.{atom_names, raw_acc_postfix}
use Rattle.omega_hoa_acceptance.specs.private.layout.Written.{closing, node_names, raw_depths_after, written_back}
use Rattle.omega_hoa_acceptance.specs.declared.formula.AccNode.{AccNode}
use Rattle.omega_hoa_acceptance.specs.declared.formula.AccNode.TheVariants as plain
use Rattle.omega_hoa_acceptance.specs.declared.raw.RawAccNode.{RawAccNode}
use Rattle.omega_hoa_acceptance.specs.declared.raw.RawAccNode.TheVariants.{And, Atom, Constant, Group, Or}
use Rattle.omega_hoa_acceptance.proofs.RawLemmas.{AreOfAcc}

-- a tree's nodes from the last to the first
abbrev back : AccTree → List AccNode
back (acc.constant value) = plain.Constant value ∷ []
back (acc.inf negated set) = plain.Inf negated set ∷ []
back (acc.fin negated set) = plain.Fin negated set ∷ []
back (acc.conjunction left right) = plain.And ∷ (back right ++ back left)
back (acc.disjunction left right) = plain.Or ∷ (back right ++ back left)

-- the nodes of a tree as it is written, from the last to the first
abbrev raw_back : RawAccTree → List RawAccNode
raw_back (raw_acc.constant value) = Constant value ∷ []
raw_back (raw_acc.atom name negated set) = Atom (length name) negated set ∷ []
raw_back (raw_acc.conjunction left right) = And ∷ (raw_back right ++ raw_back left)
raw_back (raw_acc.disjunction left right) = Or ∷ (raw_back right ++ raw_back left)
raw_back (raw_acc.group part) = Group ∷ raw_back part

-- two parts and an operator, from the last node to the first
reverse-joined : {N : Type 0} (left right : List N) (last : N) → reverse (left ++ (right ++ last ∷ [])) ≡ last ∷ (reverse right ++ reverse left)
reverse-joined left right last =
    reverse-append left (right ++ last ∷ []) ∙ ap (λ nodes. nodes ++ reverse left) (reverse-append right (last ∷ []))

same-joined : {N : Type 0} (one left other right : List N) (last : N) → one ≡ left → other ≡ right → last ∷ (other ++ one) ≡ last ∷ (right ++ left)
same-joined one left other right last is_left is_right = ap (λ nodes. last ∷ (other ++ nodes)) is_left ∙ ap (λ nodes. last ∷ (nodes ++ left)) is_right

reverse-postfix : (tree : AccTree) → reverse (acc_postfix tree) ≡ back tree
reverse-postfix (acc.constant value) = refl
reverse-postfix (acc.inf negated set) = refl
reverse-postfix (acc.fin negated set) = refl
reverse-postfix (acc.conjunction left right) =
    reverse-joined (acc_postfix left) (acc_postfix right) plain.And ∙ same-joined _ _ _ _ plain.And (reverse-postfix left) (reverse-postfix right)
reverse-postfix (acc.disjunction left right) =
    reverse-joined (acc_postfix left) (acc_postfix right) plain.Or ∙ same-joined _ _ _ _ plain.Or (reverse-postfix left) (reverse-postfix right)

reverse-raw : (tree : RawAccTree) → reverse (raw_acc_postfix tree) ≡ raw_back tree
reverse-raw (raw_acc.constant value) = refl
reverse-raw (raw_acc.atom name negated set) = refl
reverse-raw (raw_acc.conjunction left right) =
    reverse-joined (raw_acc_postfix left) (raw_acc_postfix right) And ∙ same-joined _ _ _ _ And (reverse-raw left) (reverse-raw right)
reverse-raw (raw_acc.disjunction left right) =
    reverse-joined (raw_acc_postfix left) (raw_acc_postfix right) Or ∙ same-joined _ _ _ _ Or (reverse-raw left) (reverse-raw right)
reverse-raw (raw_acc.group part) = reverse-append (raw_acc_postfix part) (Group ∷ []) ∙ ap (λ nodes. Group ∷ nodes) (reverse-raw part)

-- a node and its parentheses, if they are needed, and the nodes before
closing-grouped : (within : Bool) (tree : RawAccTree) (last : RawAccNode) (more rest : List RawAccNode) → raw_back tree ≡ last ∷ more
    → (closing within ++ last ∷ []) ++ (more ++ rest) ≡ raw_back (acc_grouped within tree) ++ rest
closing-grouped true tree last more rest is = ap (λ nodes. Group ∷ (nodes ++ rest)) (sym is)
closing-grouped false tree last more rest is = ap (λ nodes. nodes ++ rest) (sym is)

-- whether the right part of `&` needs parentheses
right-of-and : (tree : AccTree) → nat_lt (acc_text tree).rank 3 ≡ nat_le (acc_text tree).rank 2
right-of-and (acc.constant value) = refl
right-of-and (acc.inf negated set) = refl
right-of-and (acc.fin negated set) = refl
right-of-and (acc.conjunction left right) = refl
right-of-and (acc.disjunction left right) = refl

-- whether the right part of `|` needs parentheses
right-of-or : (tree : AccTree) → nat_lt (acc_text tree).rank 2 ≡ nat_le (acc_text tree).rank 1
right-of-or (acc.constant value) = refl
right-of-or (acc.inf negated set) = refl
right-of-or (acc.fin negated set) = refl
right-of-or (acc.conjunction left right) = refl
right-of-or (acc.disjunction left right) = refl

-- the whole formula needs no parentheses
whole-formula : (tree : AccTree) (raw : RawAccTree) → acc_grouped (nat_lt (acc_text tree).rank 0) raw ≡ raw
whole-formula (acc.constant value) raw = refl
whole-formula (acc.inf negated set) raw = refl
whole-formula (acc.fin negated set) raw = refl
whole-formula (acc.conjunction left right) raw = refl
whole-formula (acc.disjunction left right) raw = refl

-- a formula as it is written, in parentheses unless it binds as tightly as a rank
abbrev within : ℕ → AccTree → RawAccTree
within rank tree = acc_grouped (nat_lt (acc_text tree).rank rank) (acc_written tree)

-- the nodes of two parts, regrouped
parts-back : (left right : List RawAccNode) (one rest : List RawAccNode) → one ++ (right ++ (left ++ rest)) ≡ one ++ ((right ++ left) ++ rest)
parts-back left right one rest = ap (λ nodes. one ++ nodes) (sym (append_assoc right left rest))

-- a formula's nodes, last first, as they are written are those of the written formula
written-back : (tree : AccTree) (ranks : List ℕ) (rest : List AccNode)
    → written_back ranks (back tree ++ rest) ≡ raw_back (within (top_depth ranks) tree) ++ written_back (depths_below ranks) rest
written-back (acc.constant value) ranks rest = closing-grouped (nat_lt 3 (top_depth ranks)) _ (Constant value) [] _ refl
written-back (acc.inf negated set) ranks rest = closing-grouped (nat_lt 3 (top_depth ranks)) _ (Atom 3 negated set) [] _ refl
written-back (acc.fin negated set) ranks rest = closing-grouped (nat_lt 3 (top_depth ranks)) _ (Atom 3 negated set) [] _ refl
written-back (acc.conjunction left right) ranks rest =
    let below = depths_below ranks in
    let front = closing (nat_lt 2 (top_depth ranks)) ++ And ∷ [] in
    let one = within 2 left in
    let other = acc_grouped (nat_le (acc_text right).rank 2) (acc_written right) in
    ap (λ nodes. front ++ written_back (3 ∷ 2 ∷ below) nodes) (append_assoc (back right) (back left) rest)
    ∙ (ap (λ nodes. front ++ nodes) (written-back right (3 ∷ 2 ∷ below) (back left ++ rest))
    ∙ (ap (λ nodes. front ++ (raw_back (within 3 right) ++ nodes)) (written-back left (2 ∷ below) rest)
    ∙ (ap (λ test. front ++ (raw_back (acc_grouped test (acc_written right)) ++ (raw_back one ++ written_back below rest))) (right-of-and right)
    ∙ (parts-back (raw_back one) (raw_back other) front (written_back below rest)
    ∙ closing-grouped (nat_lt 2 (top_depth ranks)) (raw_acc.conjunction one other) And (raw_back other ++ raw_back one) _ refl))))
written-back (acc.disjunction left right) ranks rest =
    let below = depths_below ranks in
    let front = closing (nat_lt 1 (top_depth ranks)) ++ Or ∷ [] in
    let one = within 1 left in
    let other = acc_grouped (nat_le (acc_text right).rank 1) (acc_written right) in
    ap (λ nodes. front ++ written_back (2 ∷ 1 ∷ below) nodes) (append_assoc (back right) (back left) rest)
    ∙ (ap (λ nodes. front ++ nodes) (written-back right (2 ∷ 1 ∷ below) (back left ++ rest))
    ∙ (ap (λ nodes. front ++ (raw_back (within 2 right) ++ nodes)) (written-back left (1 ∷ below) rest)
    ∙ (ap (λ test. front ++ (raw_back (acc_grouped test (acc_written right)) ++ (raw_back one ++ written_back below rest))) (right-of-or right)
    ∙ (parts-back (raw_back one) (raw_back other) front (written_back below rest)
    ∙ closing-grouped (nat_lt 1 (top_depth ranks)) (raw_acc.disjunction one other) Or (raw_back other ++ raw_back one) _ refl))))

-- the nodes of a whole formula
pub written-formula : (tree : AccTree) (nodes : List AccNode) → nodes ≡ acc_postfix tree
    → reverse (written_back [] (reverse nodes)) ≡ raw_acc_postfix (acc_written tree)
written-formula tree nodes is =
    ap (λ nodes. reverse (written_back [] nodes)) (ap reverse is ∙ (reverse-postfix tree ∙ sym (append-nil (back tree))))
    ∙ (ap reverse (written-back tree [] [] ∙ append-nil (raw_back (within 0 tree)))
    ∙ (ap (λ raw. reverse (raw_back raw)) (whole-formula tree (acc_written tree))
    ∙ (ap reverse (sym (reverse-raw (acc_written tree))) ∙ reverse-reverse (raw_acc_postfix (acc_written tree)))))

-- parentheses have no name
names-grouped : (test : Bool) (raw : RawAccTree) → atom_names (acc_grouped test raw) ≡ atom_names raw
names-grouped true raw = refl
names-grouped false raw = refl

-- the names of two parts, in parentheses or not
names-joined : (test other : Bool) (left right : RawAccTree) (rest : List ℕ)
    → atom_names left ++ (atom_names right ++ rest) ≡ (atom_names (acc_grouped test left) ++ atom_names (acc_grouped other right)) ++ rest
names-joined test other left right rest =
    sym (append_assoc (atom_names left) (atom_names right) rest)
    ∙ (ap (λ names. (names ++ atom_names right) ++ rest) (sym (names-grouped test left))
    ∙ ap (λ names. (atom_names (acc_grouped test left) ++ names) ++ rest) (sym (names-grouped other right)))

names-postfix : (tree : AccTree) (rest : List AccNode) → node_names (acc_postfix tree ++ rest) ≡ atom_names (acc_written tree) ++ node_names rest
names-postfix (acc.constant value) rest = refl
names-postfix (acc.inf negated set) rest = refl
names-postfix (acc.fin negated set) rest = refl
names-postfix (acc.conjunction left right) rest =
    ap node_names (regrouped (acc_postfix left) (acc_postfix right) plain.And rest)
    ∙ (names-postfix left (acc_postfix right ++ plain.And ∷ rest)
    ∙ (ap (λ names. atom_names (acc_written left) ++ names) (names-postfix right (plain.And ∷ rest))
    ∙ names-joined (nat_lt (acc_text left).rank 2) (nat_le (acc_text right).rank 2) (acc_written left) (acc_written right) (node_names rest)))
names-postfix (acc.disjunction left right) rest =
    ap node_names (regrouped (acc_postfix left) (acc_postfix right) plain.Or rest)
    ∙ (names-postfix left (acc_postfix right ++ plain.Or ∷ rest)
    ∙ (ap (λ names. atom_names (acc_written left) ++ names) (names-postfix right (plain.Or ∷ rest))
    ∙ names-joined (nat_lt (acc_text left).rank 1) (nat_le (acc_text right).rank 1) (acc_written left) (acc_written right) (node_names rest)))

-- the names of a whole formula
pub names-formula : (tree : AccTree) (nodes : List AccNode) → nodes ≡ acc_postfix tree → node_names nodes ≡ atom_names (acc_written tree)
names-formula tree nodes is =
    ap node_names (is ∙ sym (append-nil (acc_postfix tree))) ∙ (names-postfix tree [] ∙ append-nil (atom_names (acc_written tree)))

raw_depths-postfix : (tree : RawAccTree) (depths : List ℕ) (rest : List RawAccNode)
    → raw_depths_after depths (raw_acc_postfix tree ++ rest) ≡ raw_depths_after (counted (raw_acc_depth tree) ∷ depths) rest
raw_depths-postfix (raw_acc.constant value) depths rest = refl
raw_depths-postfix (raw_acc.atom name negated set) depths rest = refl
raw_depths-postfix (raw_acc.group part) depths rest =
    let one : min (counted (raw_acc_depth part) + 1) past_depth ≡ counted (raw_acc_depth part + 1) = omega arith in
    ap (raw_depths_after depths) (append_assoc (raw_acc_postfix part) (Group ∷ []) rest)
    ∙ (raw_depths-postfix part depths (Group ∷ rest) ∙ ap (λ deep. raw_depths_after (deep ∷ depths) rest) one)
raw_depths-postfix (raw_acc.conjunction left right) depths rest =
    let joined : min (max (counted (raw_acc_depth left)) (counted (raw_acc_depth right)) + 1) past_depth ≡ counted (max (raw_acc_depth left) (raw_acc_depth right) + 1) = omega arith in
    ap (raw_depths_after depths) (regrouped (raw_acc_postfix left) (raw_acc_postfix right) And rest)
    ∙ (raw_depths-postfix left depths (raw_acc_postfix right ++ And ∷ rest)
    ∙ (raw_depths-postfix right (counted (raw_acc_depth left) ∷ depths) (And ∷ rest) ∙ ap (λ deep. raw_depths_after (deep ∷ depths) rest) joined))
raw_depths-postfix (raw_acc.disjunction left right) depths rest =
    let joined : min (max (counted (raw_acc_depth left)) (counted (raw_acc_depth right)) + 1) past_depth ≡ counted (max (raw_acc_depth left) (raw_acc_depth right) + 1) = omega arith in
    ap (raw_depths_after depths) (regrouped (raw_acc_postfix left) (raw_acc_postfix right) Or rest)
    ∙ (raw_depths-postfix left depths (raw_acc_postfix right ++ Or ∷ rest)
    ∙ (raw_depths-postfix right (counted (raw_acc_depth left) ∷ depths) (Or ∷ rest) ∙ ap (λ deep. raw_depths_after (deep ∷ depths) rest) joined))

-- the depth of a whole formula
pub raw_depth-formula : (raw : RawAccTree) (nodes : List RawAccNode) → nodes ≡ raw_acc_postfix raw
    → top_depth (raw_depths_after [] nodes) ≡ counted (raw_acc_depth raw)
raw_depth-formula raw nodes is =
    ap (λ nodes. top_depth (raw_depths_after [] nodes)) (is ∙ sym (append-nil (raw_acc_postfix raw)))
    ∙ ap top_depth (raw_depths-postfix raw [] [])

-- parentheses make a formula no less deep
grouped-deep : (test : Bool) (raw : RawAccTree) → raw_acc_depth raw ≤ raw_acc_depth (acc_grouped test raw)
grouped-deep true raw = omega arith
grouped-deep false raw = omega arith

-- a formula as it is written is no less deep than the formula
pub written-deep : (tree : AccTree) → acc_depth tree ≤ raw_acc_depth (acc_written tree)
written-deep (acc.constant value) = omega arith
written-deep (acc.inf negated set) = omega arith
written-deep (acc.fin negated set) = omega arith
written-deep (acc.conjunction left right) =
    omega (arith, written-deep left, written-deep right, grouped-deep (nat_lt (acc_text left).rank 2) (acc_written left), grouped-deep (nat_le (acc_text right).rank 2) (acc_written right))
written-deep (acc.disjunction left right) =
    omega (arith, written-deep left, written-deep right, grouped-deep (nat_lt (acc_text left).rank 1) (acc_written left), grouped-deep (nat_le (acc_text right).rank 1) (acc_written right))

-- the nodes and names of the written formula
pub written-are : (tree : AccTree) (plain : List AccNode) (nodes : List RawAccNode) (names : List ℕ) → plain ≡ acc_postfix tree
    → nodes ≡ reverse (written_back [] (reverse plain)) → names ≡ node_names plain → AreOfAcc (acc_written tree) nodes names
written-are tree plain nodes names is written named =
    record { flat = written ∙ written-formula tree plain is; named = named ∙ names-formula tree plain is }

-- the depth of the written formula, as it is counted
pub written-depth-is : (tree : AccTree) (plain : List AccNode) (nodes : List RawAccNode) (depth : ℕ) → plain ≡ acc_postfix tree
    → nodes ≡ reverse (written_back [] (reverse plain)) → depth ≡ top_depth (raw_depths_after [] nodes) → depth ≡ counted (raw_acc_depth (acc_written tree))
written-depth-is tree plain nodes depth is written deep =
    deep ∙ raw_depth-formula (acc_written tree) nodes (written ∙ written-formula tree plain is)
