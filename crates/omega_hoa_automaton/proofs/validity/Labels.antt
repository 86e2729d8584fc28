-- Labels with their aliases replaced: their propositions stay below a count, and their depth and tree nodes within the
-- limits.
use Rattle.std.proofs.Common.{◌≡◌, ℕ, ◌<◌, ◌≤◌, Bool, true, false, cond, nat_lt, List, [], ◌∷◌, ◌++◌, Option, Some, None, All, option_map, refl, ap, sym, ◌∙◌, arith}
use Rattle.std.specs.List.{list_all}
use Rattle.std.specs.Str.{bytes_eq}
use Rattle.std.proofs.lemmas.Bool.{and_from, and_parts, ltb-false, ltb-true, not-false}
use Rattle.std.proofs.lemmas.List.Elements.{All-cons, All-head, All-nil, All-push, All-tail}
use Rattle.std.proofs.lemmas.List.Folds.{list_all-append}
use Rattle.omega_hoa_label_text.specs.Expanding.{Defined, Entry, Meaning, both, entries_of, expansion, fault_of_meaning, in_parentheses, negated, replaced, stands_for}
use Rattle.omega_hoa_label.specs.Label.{LabelTree, label_depth, label_size, propositions}
use Rattle.omega_hoa_label.specs.Label as label
use Rattle.omega_hoa_expression.specs.Limits.{most_depth, most_size}
use Rattle.omega_hoa_label.specs.Raw.{RawLabelTree, alias, conjunction, constant, disjunction, group, negation, proposition, raw_propositions}
use Rattle.omega_text.specs.declared.refusal.automaton.AutomatonFault.{AutomatonFault}
use Rattle.omega_text.specs.declared.refusal.automaton.AutomatonFault.TheVariants.{Expansion, TooDeep}
use Rattle.omega_hoa_automaton.specs.Automaton.{AreBelow}
use Rattle.omega_hoa_automaton.specs.Faults.{is_beyond, size_of_meaning}
use Rattle.omega_hoa_label_text.proofs.EntryLemmas.{IsShallow, shallow-entries, shallow-replaced}

-- whether all of some numbers are below a count
abbrev pub are_below : ℕ → List ℕ → Bool
are_below count numbers = list_all (λ number. nat_lt number count) numbers

-- numbers that are so by the test are below
pub below_by_test : (count : ℕ) (numbers : List ℕ) → are_below count numbers ≡ true → AreBelow count numbers
below_by_test count [] h = All-nil (λ number. number < count)
below_by_test count (number ∷ numbers) h =
    let parts = and_parts (nat_lt number count) (are_below count numbers) h in
    All-cons (λ number. number < count) number numbers (ltb-true number count parts.0) (below_by_test count numbers parts.1)

-- what a meaning mentions is below a count
abbrev pub MentionsBelow : ℕ → Option Meaning → Type 0
MentionsBelow count None = Unit {0}
MentionsBelow count (Some meaning) = are_below count (propositions meaning.tree) ≡ true

-- numbers in two lists
append_below : (count : ℕ) (xs ys : List ℕ) → are_below count xs ≡ true → are_below count ys ≡ true → are_below count (xs ++ ys) ≡ true
append_below count xs ys one other =
    list_all-append (λ number. nat_lt number count) xs ys ∙ and_from (are_below count xs) (are_below count ys) one other

-- numbers of two lists
below_parts : (count : ℕ) (xs ys : List ℕ) → are_below count (xs ++ ys) ≡ true → (are_below count xs ≡ true) × (are_below count ys ≡ true)
below_parts count xs ys h =
    and_parts (are_below count xs) (are_below count ys) (sym (list_all-append (λ number. nat_lt number count) xs ys) ∙ h)

-- parentheses mention nothing more
parentheses_below : (count : ℕ) (part : Option Meaning) → MentionsBelow count part → MentionsBelow count (option_map in_parentheses part)
parentheses_below count None h = tt
parentheses_below count (Some part) h = h

-- nor does `!`
negated_below : (count : ℕ) (part : Option Meaning) → MentionsBelow count part → MentionsBelow count (option_map negated part)
negated_below count None h = tt
negated_below count (Some part) h = h

-- two parts and `&`
conjunction_below : (count : ℕ) (left right : Option Meaning) → MentionsBelow count left → MentionsBelow count right → MentionsBelow count (both label.conjunction left right)
conjunction_below count None right one other = tt
conjunction_below count (Some left) None one other = tt
conjunction_below count (Some left) (Some right) one other = append_below count (propositions left.tree) (propositions right.tree) one other

-- two parts and `|`
disjunction_below : (count : ℕ) (left right : Option Meaning) → MentionsBelow count left → MentionsBelow count right → MentionsBelow count (both label.disjunction left right)
disjunction_below count None right one other = tt
disjunction_below count (Some left) None one other = tt
disjunction_below count (Some left) (Some right) one other = append_below count (propositions left.tree) (propositions right.tree) one other

-- entries that mention what is below a count
abbrev AllMentionBelow : ℕ → List Entry → Type 0
AllMentionBelow count entries = All (λ entry. MentionsBelow count entry.meaning) entries

-- one of two meanings
cond_below : (count : ℕ) (b : Bool) (here there : Option Meaning) → MentionsBelow count here → MentionsBelow count there → MentionsBelow count (cond b here there)
cond_below count true here there one other = one
cond_below count false here there one other = other

-- the value of a name
named_below : (count : ℕ) (entries : List Entry) (name : List ℕ) → AllMentionBelow count entries → MentionsBelow count (stands_for entries name)
named_below count [] name all = tt
named_below count (entry ∷ entries) name all =
    cond_below count (bytes_eq name entry.name) entry.meaning (stands_for entries name)
    (All-head (λ entry. MentionsBelow count entry.meaning) entry entries all)
    (named_below count entries name (All-tail (λ entry. MentionsBelow count entry.meaning) entry entries all))

-- what a label means under such entries
replaced_below : (count : ℕ) (entries : List Entry) → AllMentionBelow count entries
    → (raw : RawLabelTree) → are_below count (raw_propositions raw) ≡ true → MentionsBelow count (replaced entries raw)
replaced_below count entries all (constant value) h = refl
replaced_below count entries all (proposition number) h = h
replaced_below count entries all (alias name) h = parentheses_below count (stands_for entries name) (named_below count entries name all)
replaced_below count entries all (negation part) h = negated_below count (replaced entries part) (replaced_below count entries all part h)
replaced_below count entries all (conjunction left right) h =
    let parts = below_parts count (raw_propositions left) (raw_propositions right) h in
    conjunction_below count (replaced entries left) (replaced entries right)
    (replaced_below count entries all left parts.0) (replaced_below count entries all right parts.1)
replaced_below count entries all (disjunction left right) h =
    let parts = below_parts count (raw_propositions left) (raw_propositions right) h in
    disjunction_below count (replaced entries left) (replaced entries right)
    (replaced_below count entries all left parts.0) (replaced_below count entries all right parts.1)
replaced_below count entries all (group part) h = parentheses_below count (replaced entries part) (replaced_below count entries all part h)

-- a label that is not beyond a count
within : (count : ℕ) (raw : RawLabelTree) → is_beyond count raw ≡ false → are_below count (raw_propositions raw) ≡ true
within count raw h = not-false (are_below count (raw_propositions raw)) h

-- the entries of definitions after earlier ones
entries_below : (count : ℕ) (before : List Entry) (definitions : List Defined) → AllMentionBelow count before
    → All (λ defined. is_beyond count defined.body ≡ false) definitions → AllMentionBelow count (entries_of before definitions)
entries_below count before [] all bodies = All-nil (λ entry. MentionsBelow count entry.meaning)
entries_below count before (next ∷ rest) all bodies =
    let entry : Entry = record { name = next.name; meaning = replaced before next.body } in
    let here = replaced_below count before all next.body (within count next.body (All-head (λ defined. is_beyond count defined.body ≡ false) next rest bodies)) in
    All-cons (λ entry. MentionsBelow count entry.meaning) entry (entries_of (before ++ entry ∷ []) rest) here
    (entries_below count (before ++ entry ∷ []) rest (All-push (λ entry. MentionsBelow count entry.meaning) before entry all here)
    (All-tail (λ defined. is_beyond count defined.body ≡ false) next rest bodies))

-- what a label means under definitions, if neither it nor they are beyond a count
pub expansion_below : (count : ℕ) (definitions : List Defined) (raw : RawLabelTree) → All (λ defined. is_beyond count defined.body ≡ false) definitions
    → is_beyond count raw ≡ false → MentionsBelow count (expansion definitions raw)
expansion_below count definitions raw bodies h =
    replaced_below count (entries_of [] definitions)
    (entries_below count [] definitions (All-nil (λ entry. MentionsBelow count entry.meaning)) bodies) raw (within count raw h)

-- the tree of a meaning that mentions what is below a count
pub tree_below : (count : ℕ) (meaning : Option Meaning) (tree : LabelTree) → MentionsBelow count meaning
    → option_map (λ meaning. meaning.tree) meaning ≡ Some tree → AreBelow count (propositions tree)
tree_below count None tree h is = absurd (let no : ⊥ = cc in no)
tree_below count (Some meaning) tree h is =
    let same : meaning.tree ≡ tree = cc in
    below_by_test count (propositions tree) (ap (λ t. are_below count (propositions t)) (sym same) ∙ h)

-- a fault or nothing is not a fault
no_fault : (b : Bool) (fault : AutomatonFault) (rest : Option AutomatonFault) → cond b (Some fault) rest ≡ None → (b ≡ false) × (rest ≡ None)
no_fault true fault rest h = absurd (let no : ⊥ = cc in no)
no_fault false fault rest h = (refl, h)

-- the tree of a meaning without a fault that is no deeper than the meaning is not too deep
shallow_sound : (meaning : Option Meaning) (tree : LabelTree) → fault_of_meaning meaning ≡ None → IsShallow meaning
    → option_map (λ meaning. meaning.tree) meaning ≡ Some tree → label_depth tree ≤ most_depth
shallow_sound None tree sound shallow is = absurd (let no : ⊥ = cc in no)
shallow_sound (Some meaning) tree sound shallow is =
    let same : meaning.tree ≡ tree = cc in
    let rest = cond (nat_lt most_size (label_size meaning.tree)) (Some Expansion) None in
    let within : meaning.depth ≤ most_depth = ltb-false most_depth meaning.depth (no_fault (nat_lt most_depth meaning.depth) TooDeep rest sound).0 in
    let depths : label_depth meaning.tree ≡ label_depth tree = ap label_depth same in
    omega arith

-- what a label means without a fault is not too deep
pub tree_shallow : (definitions : List Defined) (raw : RawLabelTree) (tree : LabelTree) → fault_of_meaning (expansion definitions raw) ≡ None
    → option_map (λ meaning. meaning.tree) (expansion definitions raw) ≡ Some tree → label_depth tree ≤ most_depth
tree_shallow definitions raw tree sound is =
    shallow_sound (expansion definitions raw) tree sound (shallow-replaced (entries_of [] definitions) (shallow-entries [] definitions tt) raw) is

-- the tree of a meaning without a fault is small
pub tree_small : (meaning : Option Meaning) (tree : LabelTree) → fault_of_meaning meaning ≡ None
    → option_map (λ meaning. meaning.tree) meaning ≡ Some tree → label_size tree ≤ most_size
tree_small None tree sound is = absurd (let no : ⊥ = cc in no)
tree_small (Some meaning) tree sound is =
    let same : meaning.tree ≡ tree = cc in
    let shallow = no_fault (nat_lt most_depth meaning.depth) TooDeep (cond (nat_lt most_size (label_size meaning.tree)) (Some Expansion) None) sound in
    let small = no_fault (nat_lt most_size (label_size meaning.tree)) Expansion None shallow.1 in
    let within : label_size meaning.tree ≤ most_size = ltb-false most_size (label_size meaning.tree) small.0 in
    let sizes : label_size meaning.tree ≡ label_size tree = ap label_size same in
    omega arith

-- the size of a meaning is that of its tree
pub tree_size : (meaning : Option Meaning) (tree : LabelTree) → option_map (λ meaning. meaning.tree) meaning ≡ Some tree → size_of_meaning meaning ≡ label_size tree
tree_size None tree is = absurd (let no : ⊥ = cc in no)
tree_size (Some meaning) tree is = let same : meaning.tree ≡ tree = cc in ap label_size same
