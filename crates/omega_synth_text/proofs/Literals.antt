-- The texts of letters and of valuations, literal by literal.
use Rattle.std.proofs.Common.{◌≡◌, ℕ, zero, suc, ◌+◌, ◌-◌, ◌<◌, ◌≤◌, ◌/◌, ◌%◌, ◌^◌, Bool, true, false, ltb, List, [], ◌∷◌, ◌++◌, Some, None, length, get_or, take, drop, nat_eq, refl, ap, sym, ◌∙◌, append_assoc, arith, add-one, length-append}
use Rattle.std.specs.Prelude.{slice_get}
use Rattle.std.proofs.lemmas.List.{append-nil, take_all}
use Rattle.omega_canon.proofs.Lines.{following}
use Rattle.omega_hoa_edges.specs.Labels.{valuation_label}
use Rattle.omega_hoa_expression.specs.Writing.{bracketed}
use Rattle.omega_hoa_label.specs.Label.{LabelTree, conjunction, constant, disjunction, negation, proposition}
use Rattle.omega_hoa_label.specs.Postfix.{postfix}
use Rattle.omega_hoa_label.specs.Writing.{label_text}
use Rattle.omega_hoa_label.specs.declared.label.LabelNode.{LabelNode}
use Rattle.omega_hoa_label.specs.declared.label.LabelNode.TheVariants.{And, Constant, Not, Or, Proposition}
use Rattle.omega_synth_text.specs.Winner.{letter_label, literal, with_literals}
use Rattle.omega_synth_text.specs.private.Texts.{bytes_of, closing, is_joined, joins, literal_bytes, literals_after, opening}

-- one literal more, if the label before it needs no parentheses
joined_bytes : (label : LabelTree) (holds : Bool) (p : ℕ) → ltb (label_text label).rank 2 ≡ false
    → bytes_of (conjunction label (literal holds p)) ≡ bytes_of label ++ 38 ∷ literal_bytes holds p
joined_bytes label true p tight = rw tight refl
joined_bytes label false p tight = rw tight refl

-- a literal needs no parentheses
pub literal_tight : (holds : Bool) (p : ℕ) → ltb (label_text (literal holds p)).rank 2 ≡ false
literal_tight true p = refl
literal_tight false p = refl

-- literals after a label
pub literals_bytes : (held : ℕ → Bool) (others : List ℕ) (label : LabelTree) → ltb (label_text label).rank 2 ≡ false
    → bytes_of (with_literals held label others) ≡ bytes_of label ++ literals_after held others
literals_bytes held [] label tight = sym (append-nil (bytes_of label))
literals_bytes held (p ∷ others) label tight =
    literals_bytes held others (conjunction label (literal (held p) p)) refl
    ∙ ap (λ (x : List ℕ). x ++ literals_after held others) (joined_bytes label (held p) p tight)
    ∙ append_assoc (bytes_of label) (38 ∷ literal_bytes (held p) p) (literals_after held others)

-- a valuation needs no parentheses
valuation_tight : (index count : ℕ) → ltb (label_text (valuation_label index count)).rank 2 ≡ false
valuation_tight index zero = refl
valuation_tight index (suc zero) = literal_tight (nat_eq ((index / 2 ^ 0) % 2) 1) 0
valuation_tight index (suc (suc p)) = refl

-- a valuation of one proposition more
pub valuation_more : (index p : ℕ) → 0 < p
    → bytes_of (valuation_label index (p + 1)) ≡ bytes_of (valuation_label index p) ++ 38 ∷ literal_bytes (nat_eq ((index / 2 ^ p) % 2) 1) p
valuation_more index zero some = absurd (omega arith)
valuation_more index (suc p) some =
    rw add-one (joined_bytes (valuation_label index (suc p)) (nat_eq ((index / 2 ^ suc p) % 2) 1) (suc p) (valuation_tight index (suc p)))

-- the text of one proposition more
pub valuation_step : (index p : ℕ) (out before joined after : List ℕ) → 0 < p
    → before ≡ out ++ bytes_of (valuation_label index p)
    → joined ≡ before ++ 38 ∷ []
    → after ≡ joined ++ literal_bytes (nat_eq ((index / 2 ^ p) % 2) 1) p
    → after ≡ out ++ bytes_of (valuation_label index (p + 1))
valuation_step index p out before joined after some so_far and_is is =
    let bytes : List ℕ = literal_bytes (nat_eq ((index / 2 ^ p) % 2) 1) p in
    following out (bytes_of (valuation_label index p)) (38 ∷ bytes) so_far (following before (38 ∷ []) bytes and_is is)
    ∙ ap (λ (x : List ℕ). out ++ x) (sym (valuation_more index p some))

-- the last item
last_item : (xs : List LabelNode) (x : LabelNode) → slice_get (xs ++ x ∷ []) (length (xs ++ x ∷ []) - 1) ≡ Some x
last_item xs x =
    let at : length (xs ++ x ∷ []) - 1 ≡ length xs = omega (arith, length-append xs (x ∷ [])) in
    ap (λ (k : ℕ). slice_get (xs ++ x ∷ []) k) at ∙ at_end xs x
  where
    at_end : (xs : List LabelNode) (x : LabelNode) → slice_get (xs ++ x ∷ []) (length xs) ≡ Some x
    at_end [] x = refl
    at_end (y ∷ ys) x = at_end ys x

-- the operator on top of a label is its last node
top : LabelTree → LabelNode
top (constant value) = Constant value
top (proposition number) = Proposition number
top (negation part) = Not
top (conjunction left right) = And
top (disjunction left right) = Or

last_of : (label : LabelTree) → slice_get (postfix label) (length (postfix label) - 1) ≡ Some (top label)
unfolding top
last_of (constant value) = refl
last_of (proposition number) = refl
last_of (negation part) = last_item (postfix part) Not
last_of (conjunction left right) =
    ap (λ (nodes : List LabelNode). slice_get nodes (length nodes - 1)) (sym (append_assoc (postfix left) (postfix right) (And ∷ [])))
    ∙ last_item (postfix left ++ postfix right) And
last_of (disjunction left right) =
    ap (λ (nodes : List LabelNode). slice_get nodes (length nodes - 1)) (sym (append_assoc (postfix left) (postfix right) (Or ∷ [])))
    ∙ last_item (postfix left ++ postfix right) Or

top_joins : (label : LabelTree) → joins (top label) ≡ is_joined label
unfolding top
top_joins (constant value) = refl
top_joins (proposition number) = refl
top_joins (negation part) = refl
top_joins (conjunction left right) = refl
top_joins (disjunction left right) = refl

-- so it says whether an operator of two parts is on top
pub last_joins : (label : LabelTree) (node : LabelNode) → slice_get (postfix label) (length (postfix label) - 1) ≡ Some node → joins node ≡ is_joined label
last_joins label node last =
    let e : Some node ≡ Some (top label) = sym last ∙ last_of label in
    let same : node ≡ top label = cc in
    ap joins same ∙ top_joins label

-- and there is one
pub last_there : (label : LabelTree) → slice_get (postfix label) (length (postfix label) - 1) ≡ None → ⊥
last_there label none =
    let e : Some (top label) ≡ None = sym (last_of label) ∙ none in cc

-- a label with literals after it needs no parentheses
literals_tight : (held : ℕ → Bool) (others : List ℕ) (label : LabelTree) → ltb (label_text label).rank 2 ≡ false
    → ltb (label_text (with_literals held label others)).rank 2 ≡ false
literals_tight held [] label tight = tight
literals_tight held (p ∷ others) label tight = literals_tight held others (conjunction label (literal (held p) p)) refl

-- nor does a letter
letter_tight : (held : ℕ → Bool) (inputs : List ℕ) → ltb (label_text (letter_label held inputs)).rank 2 ≡ false
letter_tight held [] = refl
letter_tight held (p ∷ others) = literals_tight held others (literal (held p) p) (literal_tight (held p) p)

-- a label in parentheses if it needs them
parted : (joined : Bool) (bytes : List ℕ) → bracketed joined bytes ≡ opening joined ++ (bytes ++ closing joined)
parted true bytes = refl
parted false bytes = sym (append-nil bytes)

-- a letter, `&` and a label
pub demanding_bytes : (held : ℕ → Bool) (inputs : List ℕ) (label : LabelTree)
    → bytes_of (conjunction (letter_label held inputs) label)
    ≡ bytes_of (letter_label held inputs) ++ 38 ∷ (opening (is_joined label) ++ (bytes_of label ++ closing (is_joined label)))
demanding_bytes held inputs label =
    rw (letter_tight held inputs) (ap (λ (x : List ℕ). bytes_of (letter_label held inputs) ++ 38 ∷ x) (parted (is_joined label) (bytes_of label)))

-- a letter is written by its first literal and then the others
pub letter_written : (held : ℕ → Bool) (inputs : List ℕ) (out first after : List ℕ) (index : ℕ) → 0 < length inputs
    → first ≡ out ++ literal_bytes (held (get_or inputs 0 0)) (get_or inputs 0 0)
    → after ≡ first ++ literals_after held (take index (take (length inputs - 1) (drop 1 inputs)))
    → length (take (length inputs - 1) (drop 1 inputs)) ≤ index
    → after ≡ out ++ bytes_of (letter_label held inputs)
letter_written held [] out first after index some begun done all = absurd (omega arith)
letter_written held (p ∷ others) out first after index some begun done all =
    let count : length (p ∷ others) - 1 ≡ length others = omega arith in
    let rest : take index (take (length (p ∷ others) - 1) others) ≡ others =
    take_all index (take (length (p ∷ others) - 1) others) all ∙ (ap (λ (n : ℕ). take n others) count ∙ take_all (length others) others (omega arith)) in
    following out (literal_bytes (held p) p) (literals_after held others) begun
    (done ∙ ap (λ (xs : List ℕ). first ++ literals_after held xs) rest)
    ∙ ap (λ (x : List ℕ). out ++ x) (sym (literals_bytes held others (literal (held p) p) (literal_tight (held p) p)))
