-- Names put in place of numbers in one pass: of a label's text it makes the label's text with names.
use Rattle.std.proofs.Common.{◌≡◌, ℕ, ◌+◌, ◌*◌, ◌-◌, ◌/◌, ◌%◌, ◌<◌, ◌≤◌, Bool, true, false, cond, Option, Some, None, List, [], ◌∷◌, ◌++◌, length, All, sym, ap, refl, ◌∙◌, append_assoc, arith}
use Rattle.std.specs.Prelude.{decimal, min, nat_le, nat_lt}
use Rattle.std.proofs.lemmas.Bool.Decides.{nat_tests}
use Rattle.std.proofs.lemmas.Fmt.{decimal_by_steps}
use Rattle.std.proofs.lemmas.List.{append-nil}
use Rattle.std.proofs.lemmas.List.Elements.{All-contains, All-contains_itself, All-head, All-weaker, Contains-append_left, Contains-append_right}
use Rattle.std.specs.Prelude.{Contains}
use Rattle.omega_hoa_label.specs.Label.{LabelTree, conjunction, constant, disjunction, negation, proposition, propositions}
use Rattle.omega_hoa_expression.specs.Writing.{bracketed, truth_text}
use Rattle.omega_hoa_label.specs.Writing.{label_text}
use Rattle.omega_hoa_automaton.specs.Automaton.{AreBelow}
use Rattle.omega_hoa_automaton.specs.Limits.{most_propositions}
use Rattle.omega_text.specs.Bytes.{is_digit}
use Rattle.omega_hoa_dot.specs.Expressions.{named_text}
use Rattle.omega_hoa_dot.specs.Names.{drawn_name, name_at}
use Rattle.omega_hoa_dot.specs.private.layout.Naming.{pending_name, sign_text, with_digit, with_names}

-- a digit of a number is one
digit_of : (d : ℕ) → d < 10 → is_digit (48 + d) ≡ true
digit_of d small = grind (arith, nat_tests)

-- what holds of all of two lists holds of all of each
front_all : {X : Type 0} (P : X → Type 0) (xs ys : List X) → All P (xs ++ ys) → All P xs
front_all P xs ys all =
    All-weaker (Contains xs) P (λ x listed. All-contains P (xs ++ ys) x all (Contains-append_left xs ys x listed)) xs (All-contains_itself xs)

back_all : {X : Type 0} (P : X → Type 0) (xs ys : List X) → All P (xs ++ ys) → All P ys
back_all P xs ys all =
    All-weaker (Contains ys) P (λ x listed. All-contains P (xs ++ ys) x all (Contains-append_right xs ys x listed)) ys (All-contains_itself ys)

module _ (names : List (List ℕ)) (few : length names ≤ most_propositions) where
  -- a number ends before these bytes
  abbrev Ends : List ℕ → Type 0
  Ends rest = (number : ℕ) → with_names names (Some number) rest ≡ drawn_name (name_at names number) ++ with_names names None rest

  -- bytes that are written as others, whatever is after the end of a number
  abbrev Makes : List ℕ → List ℕ → Type 0
  Makes bytes named = (rest : List ℕ) → Ends rest → with_names names None (bytes ++ rest) ≡ named ++ with_names names None rest

  -- a digit passes into the number
  digit_passed : (number : Option ℕ) (d : ℕ) (rest : List ℕ) → d < 10
      → with_names names number ((48 + d) ∷ rest) ≡ with_names names (Some (with_digit number (48 + d))) rest
  digit_passed number d rest small =
      ap (λ b. cond b (with_names names (Some (with_digit number (48 + d))) rest) (pending_name names number ++ (sign_text (48 + d) ++ with_names names None rest)))
      (digit_of d small)

  -- the digits of a number pass into it
  abbrev Passes : ℕ → List ℕ → Type 0
  Passes n digits = (rest : List ℕ) → with_names names None (digits ++ rest) ≡ with_names names (Some (min n most_propositions)) rest

  one_digit : (n : ℕ) → n < 10 → Passes n ((48 + n) ∷ [])
  one_digit n small rest =
      let e : min (0 * 10 + ((48 + n) - 48)) most_propositions ≡ min n most_propositions = omega arith in
      digit_passed None n rest small ∙ ap (λ m. with_names names (Some m) rest) e

  more_digits : (n : ℕ) (digits : List ℕ) → 10 ≤ n → Passes (n / 10) digits → Passes n (digits ++ ((48 + n % 10) ∷ []))
  more_digits n digits large passes rest =
      let small : n % 10 < 10 = omega arith in
      let e : min (min (n / 10) most_propositions * 10 + ((48 + n % 10) - 48)) most_propositions ≡ min n most_propositions = omega arith in
      ap (with_names names None) (append_assoc digits ((48 + n % 10) ∷ []) rest)
      ∙ passes ((48 + n % 10) ∷ rest)
      ∙ digit_passed (Some (min (n / 10) most_propositions)) (n % 10) rest small
      ∙ ap (λ m. with_names names (Some m) rest) e

  -- a number makes the name of its proposition
  number_makes : (n : ℕ) → n < length names → Makes (decimal n) (drawn_name (name_at names n))
  number_makes n below rest ends =
      let e : min n most_propositions ≡ n = omega arith in
      decimal_by_steps Passes one_digit more_digits n (omega arith) rest
      ∙ ap (λ m. with_names names (Some m) rest) e ∙ ends n

  truth_makes : (value : Bool) → Makes (truth_text value) (truth_text value)
  truth_makes true rest ends = refl
  truth_makes false rest ends = refl

  -- so do bytes in parentheses
  brackets_make : (within : Bool) (bytes named : List ℕ) → Makes bytes named → Makes (bracketed within bytes) (bracketed within named)
  brackets_make true bytes named makes rest ends =
      ap (λ list. 40 ∷ with_names names None list) (append_assoc bytes (41 ∷ []) rest)
      ∙ ap (λ list. 40 ∷ list) (makes (41 ∷ rest) (λ number. refl) ∙ sym (append_assoc named (41 ∷ []) (with_names names None rest)))
  brackets_make false bytes named makes rest ends = makes rest ends

  -- two parts and the sign between them
  join_makes : (sign : ℕ) (one other one_named other_named : List ℕ) → Makes one one_named → Makes other other_named
      → ((rest : List ℕ) → Ends (sign ∷ rest)) → ((rest : List ℕ) → with_names names None (sign ∷ rest) ≡ sign_text sign ++ with_names names None rest)
      → Makes (one ++ sign ∷ other) (one_named ++ (sign_text sign ++ other_named))
  join_makes sign one other one_named other_named makes_one makes_other ends_sign passes rest ends =
      ap (with_names names None) (append_assoc one (sign ∷ other) rest)
      ∙ makes_one (sign ∷ (other ++ rest)) (ends_sign (other ++ rest))
      ∙ ap (λ list. one_named ++ list) (passes (other ++ rest) ∙ ap (λ list. sign_text sign ++ list) (makes_other rest ends)
      ∙ sym (append_assoc (sign_text sign) other_named (with_names names None rest)))
      ∙ sym (append_assoc one_named (sign_text sign ++ other_named) (with_names names None rest))

  -- the text of a label makes its text with names
  label_makes : (tree : LabelTree) → AreBelow (length names) (propositions tree) → Makes (label_text tree).bytes (named_text names tree)
  label_makes (constant value) below rest ends = truth_makes value rest ends
  label_makes (proposition number) below rest ends = number_makes number (All-head (λ n. n < length names) number [] below) rest ends
  label_makes (negation part) below rest ends =
      ap (λ list. 33 ∷ list)
      (brackets_make (nat_lt (label_text part).rank 3) (label_text part).bytes (named_text names part) (label_makes part below) rest ends)
  label_makes (conjunction left right) below rest ends =
      let P : ℕ → Type 0 = λ n. n < length names in
      join_makes 38 (bracketed (nat_lt (label_text left).rank 2) (label_text left).bytes) (bracketed (nat_le (label_text right).rank 2) (label_text right).bytes)
      (bracketed (nat_lt (label_text left).rank 2) (named_text names left)) (bracketed (nat_le (label_text right).rank 2) (named_text names right))
      (brackets_make (nat_lt (label_text left).rank 2) (label_text left).bytes (named_text names left)
      (label_makes left (front_all P (propositions left) (propositions right) below)))
      (brackets_make (nat_le (label_text right).rank 2) (label_text right).bytes (named_text names right)
      (label_makes right (back_all P (propositions left) (propositions right) below)))
      (λ following number. refl) (λ following. refl) rest ends
  label_makes (disjunction left right) below rest ends =
      let P : ℕ → Type 0 = λ n. n < length names in
      join_makes 124 (bracketed (nat_lt (label_text left).rank 1) (label_text left).bytes) (bracketed (nat_le (label_text right).rank 1) (label_text right).bytes)
      (bracketed (nat_lt (label_text left).rank 1) (named_text names left)) (bracketed (nat_le (label_text right).rank 1) (named_text names right))
      (brackets_make (nat_lt (label_text left).rank 1) (label_text left).bytes (named_text names left)
      (label_makes left (front_all P (propositions left) (propositions right) below)))
      (brackets_make (nat_le (label_text right).rank 1) (label_text right).bytes (named_text names right)
      (label_makes right (back_all P (propositions left) (propositions right) below)))
      (λ following number. refl) (λ following. refl) rest ends

  -- the whole text of a label makes the whole
  pub label_named : (tree : LabelTree) → AreBelow (length names) (propositions tree) → with_names names None (label_text tree).bytes ≡ named_text names tree
  label_named tree below =
      let ends : Ends [] = λ number. sym (append-nil (drawn_name (name_at names number))) in
      ap (with_names names None) (sym (append-nil (label_text tree).bytes))
      ∙ label_makes tree below [] ends
      ∙ append-nil (named_text names tree)
