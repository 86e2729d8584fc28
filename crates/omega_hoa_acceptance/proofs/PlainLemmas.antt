-- A formula's nodes without parentheses are those of what it means, and as deep.
use Rattle.std.proofs.Common.{◌≡◌, ℕ, ◌+◌, ◌≤◌, Bool, true, false, cond, List, [], ◌∷◌, ◌++◌, Option, Some, None, option_map, codes, max, min, drop, length, nat_lt, ◌<◌, subst, ap, append-nil, append_assoc, refl, sym, ◌∙◌, arith}
use Rattle.std.specs.Str.{bytes_eq}
use Rattle.std.proofs.lemmas.Bool.{le-ltb, lt-ltb}
use Rattle.std.proofs.Math.Seq.{drop-append_seam, take-append_seam}
use Rattle.omega_hoa_acceptance.specs.Meaning.{IsMeant, IsUnmeant, acc_meant, both_meant, fault_of_acc, fault_of_meant}
use Rattle.omega_hoa_expression.specs.Limits.{most_depth, past_depth}
use Rattle.omega_hoa_acceptance.specs.Acceptance.{AccTree, acc_depth}
use Rattle.omega_hoa_acceptance.specs.Acceptance as acc
use Rattle.omega_hoa_expression.specs.Depth.{counted}
use Rattle.omega_hoa_acceptance.specs.Raw.{RawAccTree, atom, conjunction, constant, disjunction, group, raw_acc_depth}
use Rattle.omega_hoa_acceptance.specs.private.layout.Acceptance.{IsAcc, acc_postfix, acc_tree_of}
use Rattle.omega_hoa_expression.specs.Joins.{regrouped}
use Rattle.omega_hoa_expression.specs.Depths.{top_depth}
use Rattle.omega_hoa_acceptance.specs.private.layout.Plain.{alone, atom_plain, after_nodes, depths_after, plain_nodes}
use Rattle.omega_hoa_acceptance.specs.private.layout.Raw.{atom_names, raw_acc_postfix}
use Rattle.omega_hoa_acceptance.specs.declared.formula.AccNode.{AccNode}
use Rattle.omega_hoa_acceptance.specs.declared.formula.AccNode.TheVariants as plain
use Rattle.omega_hoa_acceptance.specs.declared.raw.RawAccNode.{RawAccNode}
use Rattle.omega_hoa_acceptance.specs.declared.raw.RawAccNode.TheVariants.{And, Group, Or}
use Rattle.omega_hoa_acceptance.proofs.AccLemmas.{IsAcc-of, acc_tree-is}
use Rattle.omega_text.specs.Cases.{never, or_automaton, or_memory}
use Rattle.omega_text.specs.declared.refusal.Refusal.{Refusal}
use Rattle.omega_text.specs.declared.refusal.Refusal.TheVariants as refusals
use Rattle.omega_text.specs.declared.refusal.automaton.AutomatonFault.TheVariants.{AcceptanceAtom, TooDeep}

-- the nodes of a meaning, where there is one
abbrev pub meant_nodes : Option AccTree → Option (List AccNode)
meant_nodes meant = option_map acc_postfix meant

cond-map : {A B : Type 0} (f : A → B) (test : Bool) (one other : Option A) → cond test (option_map f one) (option_map f other) ≡ option_map f (cond test one other)
cond-map f true one other = refl
cond-map f false one other = refl

-- an atom's node is that of what it means
atom-meant : (one other : Bool) (negated : Bool) (set : ℕ)
    → alone (cond one (Some (plain.Inf negated set)) (cond other (Some (plain.Fin negated set)) None))
    ≡ meant_nodes (cond one (Some (acc.inf negated set)) (cond other (Some (acc.fin negated set)) None))
atom-meant true other negated set = refl
atom-meant false true negated set = refl
atom-meant false false negated set = refl

-- nothing after nodes
following-none : (nodes : Option (List AccNode)) → after_nodes nodes (Some []) ≡ nodes
following-none None = refl
following-none (Some nodes) = ap Some (append-nil nodes)

following-joined : (operator : AccTree → AccTree → AccTree) (last : AccNode) (joins : (one other : AccTree) → acc_postfix (operator one other) ≡ acc_postfix one ++ (acc_postfix other ++ last ∷ []))
    (left right : Option AccTree) (more : Option (List AccNode))
    → after_nodes (meant_nodes left) (after_nodes (meant_nodes right) (after_nodes (Some (last ∷ [])) more)) ≡ after_nodes (meant_nodes (both_meant operator left right)) more
following-joined operator last joins None right more = refl
following-joined operator last joins (Some left) None more = refl
following-joined operator last joins (Some left) (Some right) None = refl
following-joined operator last joins (Some left) (Some right) (Some rest) =
    ap Some (sym (regrouped (acc_postfix left) (acc_postfix right) last rest) ∙ ap (λ nodes. nodes ++ rest) (sym (joins left right)))

-- a formula's nodes without parentheses are those of what it means
plain-postfix : (tree : RawAccTree) (names : List ℕ) (rest : List RawAccNode)
    → plain_nodes (atom_names tree ++ names) (raw_acc_postfix tree ++ rest) ≡ after_nodes (meant_nodes (acc_meant tree)) (plain_nodes names rest)
plain-postfix (constant value) names rest = refl
plain-postfix (atom name negated set) names rest =
    ap (λ front. after_nodes (alone (atom_plain front negated set)) (plain_nodes (drop (length name) (name ++ names)) rest)) (take-append_seam name names)
    ∙ (ap (λ back. after_nodes (alone (atom_plain name negated set)) (plain_nodes back rest)) (drop-append_seam name names)
    ∙ ap (λ nodes. after_nodes nodes (plain_nodes names rest)) (atom-meant (bytes_eq name (codes "Inf")) (bytes_eq name (codes "Fin")) negated set))
plain-postfix (group part) names rest =
    ap (plain_nodes (atom_names part ++ names)) (append_assoc (raw_acc_postfix part) (Group ∷ []) rest)
    ∙ plain-postfix part names (Group ∷ rest)
plain-postfix (conjunction left right) names rest =
    ap (λ more. plain_nodes more (raw_acc_postfix (conjunction left right) ++ rest)) (append_assoc (atom_names left) (atom_names right) names)
    ∙ (ap (plain_nodes (atom_names left ++ (atom_names right ++ names))) (regrouped (raw_acc_postfix left) (raw_acc_postfix right) And rest)
    ∙ (plain-postfix left (atom_names right ++ names) (raw_acc_postfix right ++ And ∷ rest)
    ∙ (ap (after_nodes (meant_nodes (acc_meant left))) (plain-postfix right names (And ∷ rest))
    ∙ following-joined acc.conjunction plain.And (λ one other. refl) (acc_meant left) (acc_meant right) (plain_nodes names rest))))
plain-postfix (disjunction left right) names rest =
    ap (λ more. plain_nodes more (raw_acc_postfix (disjunction left right) ++ rest)) (append_assoc (atom_names left) (atom_names right) names)
    ∙ (ap (plain_nodes (atom_names left ++ (atom_names right ++ names))) (regrouped (raw_acc_postfix left) (raw_acc_postfix right) Or rest)
    ∙ (plain-postfix left (atom_names right ++ names) (raw_acc_postfix right ++ Or ∷ rest)
    ∙ (ap (after_nodes (meant_nodes (acc_meant left))) (plain-postfix right names (Or ∷ rest))
    ∙ following-joined acc.disjunction plain.Or (λ one other. refl) (acc_meant left) (acc_meant right) (plain_nodes names rest))))

-- all of a formula's nodes
pub plain-formula : (tree : RawAccTree) → plain_nodes (atom_names tree) (raw_acc_postfix tree) ≡ meant_nodes (acc_meant tree)
plain-formula tree =
    ap (λ names. plain_nodes names (raw_acc_postfix tree)) (sym (append-nil (atom_names tree)))
    ∙ (ap (plain_nodes (atom_names tree ++ [])) (sym (append-nil (raw_acc_postfix tree)))
    ∙ (plain-postfix tree [] [] ∙ following-none (meant_nodes (acc_meant tree))))

-- a formula's nodes leave its depth as it is counted
depths-postfix : (tree : AccTree) (depths : List ℕ) (rest : List AccNode)
    → depths_after depths (acc_postfix tree ++ rest) ≡ depths_after (counted (acc_depth tree) ∷ depths) rest
depths-postfix (acc.constant value) depths rest = refl
depths-postfix (acc.inf negated set) depths rest = refl
depths-postfix (acc.fin negated set) depths rest = refl
depths-postfix (acc.conjunction left right) depths rest =
    let joined : min (max (counted (acc_depth left)) (counted (acc_depth right)) + 1) past_depth ≡ counted (max (acc_depth left) (acc_depth right) + 1) = omega arith in
    ap (depths_after depths) (regrouped (acc_postfix left) (acc_postfix right) plain.And rest)
    ∙ (depths-postfix left depths (acc_postfix right ++ plain.And ∷ rest)
    ∙ (depths-postfix right (counted (acc_depth left) ∷ depths) (plain.And ∷ rest) ∙ ap (λ deep. depths_after (deep ∷ depths) rest) joined))
depths-postfix (acc.disjunction left right) depths rest =
    let joined : min (max (counted (acc_depth left)) (counted (acc_depth right)) + 1) past_depth ≡ counted (max (acc_depth left) (acc_depth right) + 1) = omega arith in
    ap (depths_after depths) (regrouped (acc_postfix left) (acc_postfix right) plain.Or rest)
    ∙ (depths-postfix left depths (acc_postfix right ++ plain.Or ∷ rest)
    ∙ (depths-postfix right (counted (acc_depth left) ∷ depths) (plain.Or ∷ rest) ∙ ap (λ deep. depths_after (deep ∷ depths) rest) joined))

-- a formula's nodes alone leave its depth alone
pub depths-formula : (tree : AccTree) → depths_after [] (acc_postfix tree) ≡ counted (acc_depth tree) ∷ []
depths-formula tree = ap (depths_after []) (sym (append-nil (acc_postfix tree))) ∙ depths-postfix tree [] []

-- what a formula means is no deeper than the formula
abbrev IsNoDeeper : Option AccTree → ℕ → Type 0
IsNoDeeper None depth = Unit {0}
IsNoDeeper (Some tree) depth = acc_depth tree ≤ depth

no-deeper-cond : (test : Bool) (one other : Option AccTree) (depth : ℕ) → IsNoDeeper one depth → IsNoDeeper other depth → IsNoDeeper (cond test one other) depth
no-deeper-cond true one other depth here there = here
no-deeper-cond false one other depth here there = there

no-deeper-more : (meant : Option AccTree) (depth more : ℕ) → depth ≤ more → IsNoDeeper meant depth → IsNoDeeper meant more
no-deeper-more None depth more le is = tt
no-deeper-more (Some tree) depth more le is = omega arith

no-deeper-conjunction : (left right : Option AccTree) (one other : ℕ) → IsNoDeeper left one → IsNoDeeper right other → IsNoDeeper (both_meant acc.conjunction left right) (max one other + 1)
no-deeper-conjunction None right one other is_left is_right = tt
no-deeper-conjunction (Some left) None one other is_left is_right = tt
no-deeper-conjunction (Some left) (Some right) one other is_left is_right = omega arith

no-deeper-disjunction : (left right : Option AccTree) (one other : ℕ) → IsNoDeeper left one → IsNoDeeper right other → IsNoDeeper (both_meant acc.disjunction left right) (max one other + 1)
no-deeper-disjunction None right one other is_left is_right = tt
no-deeper-disjunction (Some left) None one other is_left is_right = tt
no-deeper-disjunction (Some left) (Some right) one other is_left is_right = omega arith

pub no-deeper : (tree : RawAccTree) → IsNoDeeper (acc_meant tree) (raw_acc_depth tree)
no-deeper (constant value) = omega arith
no-deeper (atom name negated set) =
    no-deeper-cond (bytes_eq name (codes "Inf")) _ _ 1 (omega arith) (no-deeper-cond (bytes_eq name (codes "Fin")) _ _ 1 (omega arith) tt)
no-deeper (conjunction left right) = no-deeper-conjunction (acc_meant left) (acc_meant right) _ _ (no-deeper left) (no-deeper right)
no-deeper (disjunction left right) = no-deeper-disjunction (acc_meant left) (acc_meant right) _ _ (no-deeper left) (no-deeper right)
no-deeper (group part) = no-deeper-more (acc_meant part) _ _ (omega arith) (no-deeper part)

-- the nodes are those of a meaning
pub record IsPlain (meant : Option AccTree) (nodes : List AccNode) : Type 0 where
  pub tree : AccTree
  pub is : meant ≡ Some tree
  pub flat : nodes ≡ acc_postfix tree

some-none : {A : Type 0} {item : A} → Some item ≡ None → ⊥
some-none e = cc

plain-some : (meant : Option AccTree) (nodes : List AccNode) → meant_nodes meant ≡ Some nodes → IsPlain meant nodes
plain-some None nodes is = absurd (some-none (sym is))
plain-some (Some tree) nodes is = record { tree = tree; is = refl; flat = let same : acc_postfix tree ≡ nodes = cc in sym same }

plain-none : (meant : Option AccTree) → meant_nodes meant ≡ None → meant ≡ None
plain-none None is = refl
plain-none (Some tree) is = absurd (some-none is)

-- a formula's nodes are those of its meaning
IsPlain-of : (raw : RawAccTree) (nodes : List AccNode) → plain_nodes (atom_names raw) (raw_acc_postfix raw) ≡ Some nodes → IsPlain (acc_meant raw) nodes
IsPlain-of raw nodes is = plain-some (acc_meant raw) nodes (sym (plain-formula raw) ∙ is)

-- a formula whose atoms mean something, that is too deep
pub too-deep : (raw : RawAccTree) (nodes : List AccNode) → plain_nodes (atom_names raw) (raw_acc_postfix raw) ≡ Some nodes
    → most_depth < raw_acc_depth raw → fault_of_acc raw ≡ Some TooDeep
too-deep raw nodes is deep =
    let plain = IsPlain-of raw nodes is in
    let lt : nat_lt most_depth (raw_acc_depth raw) ≡ true = lt-ltb most_depth (raw_acc_depth raw) deep in
    ap (λ meant. fault_of_meant meant (raw_acc_depth raw)) plain.is ∙ ap (λ b. cond b (Some TooDeep) None) lt

-- an atom that means nothing
pub atom-unmeant : (raw : RawAccTree) (refusal : Refusal)
    → or_automaton (λ fault. (fault ≡ AcceptanceAtom) × (plain_nodes (atom_names raw) (raw_acc_postfix raw) ≡ None)) (or_memory never) refusal → IsUnmeant raw refusal
atom-unmeant raw (refusals.Automaton fault) is =
    ap (λ meant. fault_of_meant meant (raw_acc_depth raw)) (plain-none (acc_meant raw) (sym (plain-formula raw) ∙ is.1)) ∙ ap Some (sym is.0)
atom-unmeant raw (refusals.Text fault) is = is
atom-unmeant raw (refusals.Game fault) is = is
atom-unmeant raw (refusals.Circuit fault) is = is
atom-unmeant raw (refusals.Task fault) is = is
atom-unmeant raw refusals.Memory is = is
atom-unmeant raw refusals.Io is = is

-- the nodes of a meaning that is not too deep are a formula
pub IsAcc-plain : (raw : RawAccTree) (nodes : List AccNode) (deep : ℕ) → plain_nodes (atom_names raw) (raw_acc_postfix raw) ≡ Some nodes
    → deep ≡ top_depth (depths_after [] nodes) → raw_acc_depth raw ≤ most_depth → IsAcc nodes deep
IsAcc-plain raw nodes deep is counts shallow =
    let plain = IsPlain-of raw nodes is in
    let within : acc_depth plain.tree ≤ raw_acc_depth raw = subst (λ meant. IsNoDeeper meant (raw_acc_depth raw)) plain.is (no-deeper raw) in
    let counted_is : deep ≡ counted (acc_depth plain.tree) = counts ∙ ap (λ all. top_depth (depths_after [] all)) plain.flat ∙ ap top_depth (depths-formula plain.tree) in
    IsAcc-of plain.tree nodes deep plain.flat (omega (arith, within, counted_is, shallow)) (omega (arith, within, counted_is, shallow))

-- and are what is meant
pub IsMeant-plain : (raw : RawAccTree) (nodes : List AccNode) → plain_nodes (atom_names raw) (raw_acc_postfix raw) ≡ Some nodes
    → raw_acc_depth raw ≤ most_depth → IsMeant raw (acc_tree_of nodes)
IsMeant-plain raw nodes is shallow =
    let plain = IsPlain-of raw nodes is in
    let le : nat_lt most_depth (raw_acc_depth raw) ≡ false = le-ltb most_depth (raw_acc_depth raw) shallow in
    record {
      sound = ap (λ meant. fault_of_meant meant (raw_acc_depth raw)) plain.is ∙ ap (λ b. cond b (Some TooDeep) None) le;
      means = plain.is ∙ ap Some (sym (acc_tree-is plain.tree nodes plain.flat));
    }
