-- What labels and valuations write is a formula, with their truth.
use Rattle.std.proofs.Common.{◌≡◌, ℕ, zero, suc, ◌+◌, ◌<◌, Bool, true, false, not, ◌&&◌, ◌||◌, if◌then◌else◌, nat_lt, ◌↔◌, List, [], ◌∷◌, ◌++◌, length, get_or, codes, refl, sym, ap, ◌∙◌, subst, append_assoc, append-nil, arith}
use Rattle.std.specs.List.{AllByRecursion, list_all}
use Rattle.omega_text.specs.hoa.Forms.{IsQuotable}
use Rattle.omega_hoa_label.specs.Label.{LabelTree, truth}
use Rattle.omega_hoa_edges.specs.Conjuncts.{all_of, conjuncts, each_once}
use Rattle.omega_hoa_edges.proofs.Meaning.{all_of_means, conjuncts_once_mean}
use Rattle.omega_lang_runs.specs.Words.{has_bit, IsValuation}
use Rattle.omega_lang_lasso_word.specs.Letters.{conjunction_words, enclosed as in_parentheses, label_words, literal_text, literals_after, valuation_text}
use Rattle.omega_lang_lasso_word.specs.Formulas.{HasTruth, Part, bare, both, conjunction, denied, either, enclosed, formula, one_conjunction, one_operand, one_sign, operand, quoted, zero_sign}
use Rattle.omega_lang_lasso_word.specs.Names.{name_text, stands_bare}
use Rattle.omega_lang_lasso_word.proofs.Reader.{left_true, right_true}

-- how tight the operator around a part is
abbrev tightness_of : Part → ℕ
tightness_of operand = 2
tightness_of conjunction = 1
tightness_of formula = 0

quotable_at : (names : List (List ℕ)) (p : ℕ) → AllByRecursion IsQuotable names → IsQuotable (get_or names p [])
quotable_at [] p all = IsQuotable.empty
quotable_at (name ∷ names) zero all = all.0
quotable_at (name ∷ names) (suc p) all = quotable_at names p all.1

both_assoc : (a b c : Bool) → ((a && b) && c) ≡ (a && (b && c))
both_assoc true b c = refl
both_assoc false b c = refl

module _ (held : List ℕ → Bool) where
  -- an operand is each part
  operand_is : (part : Part) (text : List ℕ) (value : Bool) → HasTruth held operand text value → HasTruth held part text value
  operand_is operand text value has = has
  operand_is conjunction text value has = one_operand text value has
  operand_is formula text value has = one_conjunction text value (one_operand text value has)

  -- a name
  name_said : (name : List ℕ) → IsQuotable name → HasTruth held operand (name_text name) (held name)
  name_said name quotable = choose (stands_bare name) refl
    where
      choose : (b : Bool) → stands_bare name ≡ b → HasTruth held operand (if b then name else codes "\"" ++ (name ++ codes "\"")) (held name)
      choose true e = bare name e
      choose false e = quoted name quotable

  constant_said : (value : Bool) → HasTruth held operand (if value then codes "1" else codes "0") value
  constant_said true = one_sign
  constant_said false = zero_sign

  -- a conjunction, in parentheses if it needs them
  joined_said : (part : Part) (text : List ℕ) (value : Bool) → HasTruth held conjunction text value
      → HasTruth held part (in_parentheses (nat_lt 1 (tightness_of part)) text) value
  joined_said operand text value has = enclosed text value (one_conjunction text value has)
  joined_said conjunction text value has = has
  joined_said formula text value has = one_conjunction text value has

  -- a disjunction, in parentheses if it needs them
  parted_said : (part : Part) (text : List ℕ) (value : Bool) → HasTruth held formula text value
      → HasTruth held part (in_parentheses (nat_lt 0 (tightness_of part)) text) value
  parted_said operand text value has = enclosed text value has
  parted_said conjunction text value has = one_operand (codes "(" ++ (text ++ codes ")")) value (enclosed text value has)
  parted_said formula text value has = has

  -- a label
  pub label_said : (names : List (List ℕ)) → AllByRecursion IsQuotable names → (part : Part) (label : LabelTree)
      → HasTruth held part (label_words (tightness_of part) names label) (truth (λ p. held (get_or names p [])) label)
  label_said names all part (LabelTree.constant value) = operand_is part (if value then codes "1" else codes "0") value (constant_said value)
  label_said names all part (LabelTree.proposition number) =
      operand_is part (name_text (get_or names number [])) (held (get_or names number [])) (name_said (get_or names number []) (quotable_at names number all))
  label_said names all part (LabelTree.negation inner) =
      operand_is part (codes "!" ++ label_words 2 names inner) (not (truth (λ p. held (get_or names p [])) inner))
      (denied (label_words 2 names inner) (truth (λ p. held (get_or names p [])) inner) (label_said names all operand inner))
  label_said names all part (LabelTree.conjunction left right) =
      joined_said part (label_words 1 names left ++ (codes " & " ++ label_words 1 names right)) (truth (λ p. held (get_or names p [])) left && truth (λ p. held (get_or names p [])) right)
      (both (label_words 1 names left) (label_words 1 names right) (truth (λ p. held (get_or names p [])) left) (truth (λ p. held (get_or names p [])) right)
      (label_said names all conjunction left) (label_said names all conjunction right))
  label_said names all part (LabelTree.disjunction left right) =
      parted_said part (label_words 0 names left ++ (codes " | " ++ label_words 0 names right)) (truth (λ p. held (get_or names p [])) left || truth (λ p. held (get_or names p [])) right)
      (either (label_words 0 names left) (label_words 0 names right) (truth (λ p. held (get_or names p [])) left) (truth (λ p. held (get_or names p [])) right)
      (label_said names all formula left) (label_said names all formula right))

  -- labels joined by `&`: all of them
  pub conjunction_said : (names : List (List ℕ)) → AllByRecursion IsQuotable names → (labels : List LabelTree)
      → HasTruth held formula (conjunction_words names labels) (list_all (truth (λ p. held (get_or names p []))) labels)
  conjunction_said names all labels =
      subst (λ (value : Bool). HasTruth held formula (conjunction_words names labels) value) (all_of_means (λ p. held (get_or names p [])) labels)
      (label_said names all formula (all_of labels))

  -- the conjuncts of a label, each once: the label
  pub conjuncts_said : (names : List (List ℕ)) → AllByRecursion IsQuotable names → (label : LabelTree)
      → HasTruth held formula (conjunction_words names (each_once (conjuncts label))) (truth (λ p. held (get_or names p [])) label)
  conjuncts_said names all label =
      subst (λ (value : Bool). HasTruth held formula (conjunction_words names (each_once (conjuncts label))) value)
      (conjuncts_once_mean (λ p. held (get_or names p [])) label) (label_said names all formula (all_of (each_once (conjuncts label))))

  -- whether a name holds as the bit says
  abbrev literal_truth : ℕ → ℕ → List ℕ → Bool
  literal_truth index p name = if has_bit index p then held name else not (held name)

  -- whether the names hold as the bits from `p` on say
  abbrev pub agrees : ℕ → ℕ → List (List ℕ) → Bool
  agrees index p [] = true
  agrees index p (name ∷ names) = literal_truth index p name && agrees index (p + 1) names

  literal_said : (index p : ℕ) (name : List ℕ) → IsQuotable name → HasTruth held operand (literal_text index p name) (literal_truth index p name)
  literal_said index p name quotable = choose (has_bit index p)
    where
      choose : (bit : Bool) → HasTruth held operand (if bit then name_text name else codes "!" ++ name_text name) (if bit then held name else not (held name))
      choose true = name_said name quotable
      choose false = denied (name_text name) (held name) (name_said name quotable)

  literals_said : (index p : ℕ) (names : List (List ℕ)) (front : List ℕ) (value : Bool) → AllByRecursion IsQuotable names → HasTruth held conjunction front value
      → HasTruth held conjunction (front ++ literals_after index p names) (value && agrees index p names)
  literals_said index p [] front value all has =
      subst (λ (v : Bool). HasTruth held conjunction (front ++ []) v) (and_true value) (subst (λ (t : List ℕ). HasTruth held conjunction t value) (sym (append-nil front)) has)
    where
      and_true : (v : Bool) → v ≡ (v && true)
      and_true true = refl
      and_true false = refl
  literals_said index p (name ∷ names) front value all has =
      let one : HasTruth held conjunction (front ++ (codes " & " ++ literal_text index p name)) (value && literal_truth index p name) =
      both front (literal_text index p name) value (literal_truth index p name) has
      (one_operand (literal_text index p name) (literal_truth index p name) (literal_said index p name all.0)) in
      let every = literals_said index (p + 1) names (front ++ (codes " & " ++ literal_text index p name)) (value && literal_truth index p name) all.1 one in
      subst (λ (v : Bool). HasTruth held conjunction (front ++ ((codes " & " ++ literal_text index p name) ++ literals_after index (p + 1) names)) v)
      (both_assoc value (literal_truth index p name) (agrees index (p + 1) names))
      (subst (λ (t : List ℕ). HasTruth held conjunction t ((value && literal_truth index p name) && agrees index (p + 1) names))
      (append_assoc front (codes " & " ++ literal_text index p name) (literals_after index (p + 1) names)) every)

  -- a valuation
  pub valuation_said : (index : ℕ) (names : List (List ℕ)) → AllByRecursion IsQuotable names → HasTruth held formula (valuation_text index names) (agrees index 0 names)
  valuation_said index [] all = one_conjunction (codes "1") true (one_operand (codes "1") true one_sign)
  valuation_said index (name ∷ names) all =
      one_conjunction (literal_text index 0 name ++ literals_after index 1 names) (literal_truth index 0 name && agrees index 1 names)
      (literals_said index 1 names (literal_text index 0 name) (literal_truth index 0 name) all.1
      (one_operand (literal_text index 0 name) (literal_truth index 0 name) (literal_said index 0 name all.0)))

  bit_holds : (bit value : Bool) → (if bit then value else not value) ≡ true → value ≡ bit
  bit_holds true value e = e
  bit_holds false true e = sym e
  bit_holds false false e = refl

  holds_bit : (bit value : Bool) → value ≡ bit → (if bit then value else not value) ≡ true
  holds_bit true value e = e
  holds_bit false value e = ap not e

  agrees_below : (index p : ℕ) (names : List (List ℕ)) → agrees index p names ≡ true → (q : ℕ) → q < length names → held (get_or names q []) ≡ has_bit index (p + q)
  agrees_below index p [] agree q below = absurd (not_below q below)
    where
      not_below : (n : ℕ) → n < 0 → ⊥
      not_below n b = omega (arith, b)
  agrees_below index p (name ∷ names) agree zero below =
      let e : p ≡ p + 0 = omega arith in
      bit_holds (has_bit index p) (held name) (left_true (literal_truth index p name) (agrees index (p + 1) names) agree) ∙ ap (λ (n : ℕ). has_bit index n) e
  agrees_below index p (name ∷ names) agree (suc q) below =
      let e : (p + 1) + q ≡ p + suc q = omega arith in
      let b : q < length names = omega (arith, below) in
      agrees_below index (p + 1) names (right_true (literal_truth index p name) (agrees index (p + 1) names) agree) q b ∙ ap (λ (n : ℕ). has_bit index n) e

  below_agrees : (index p : ℕ) (names : List (List ℕ)) → ((q : ℕ) → q < length names → held (get_or names q []) ≡ has_bit index (p + q)) → agrees index p names ≡ true
  below_agrees index p [] each = refl
  below_agrees index p (name ∷ names) each =
      let e : p + 0 ≡ p = omega arith in
      let first : 0 < length (name ∷ names) = omega arith in
      let here : literal_truth index p name ≡ true = holds_bit (has_bit index p) (held name) (each 0 first ∙ ap (λ (n : ℕ). has_bit index n) e) in
      let others : agrees index (p + 1) names ≡ true = below_agrees index (p + 1) names (λ q below.
      let f : p + suc q ≡ (p + 1) + q = omega arith in
      let b : suc q < length (name ∷ names) = omega (arith, below) in
      each (suc q) b ∙ ap (λ (n : ℕ). has_bit index n) f) in
      ap (λ (v : Bool). v && agrees index (p + 1) names) here ∙ others

  -- the names hold as the bits say exactly if that is the valuation of the index
  pub agrees_iff : (index : ℕ) (names : List (List ℕ)) → (agrees index 0 names ≡ true) ↔ IsValuation (length names) index (λ p. held (get_or names p []))
  agrees_iff index names = (
    λ agree q below. let e : 0 + q ≡ q = omega arith in agrees_below index 0 names agree q below ∙ ap (λ (n : ℕ). has_bit index n) e,
    λ is. below_agrees index 0 names (λ q below. let e : q ≡ 0 + q = omega arith in is q below ∙ ap (λ (n : ℕ). has_bit index n) e),
  )
