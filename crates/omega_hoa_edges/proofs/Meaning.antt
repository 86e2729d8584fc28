-- The conjuncts of labels together mean what the labels do.
use Rattle.std.proofs.Common.{◌≡◌, ℕ, Bool, true, false, not, ◌&&◌, ◌||◌, if◌then◌else◌, List, [], ◌∷◌, ◌++◌, fold, refl, sym, ap, ◌∙◌, true≢false}
use Rattle.std.specs.List.{list_all, list_any}
use Rattle.std.proofs.lemmas.List.Folds.{list_all-append}
use Rattle.indexmap.specs.IndexSet.{insert_all, insert_key}
use Rattle.omega_hoa_label.specs.Label.{LabelTree, conjunction, constant, disjunction, negation, proposition, propositions, truth}
use Rattle.omega_hoa_label.proofs.Equality.{label-decides}
use Rattle.omega_hoa_edges.specs.Conjuncts.{all_of, conjuncts, each_once, joined, same_label}

and_true : (b : Bool) → b ≡ (b && true)
and_true true = refl
and_true false = refl

and_assoc : (a b c : Bool) → ((a && b) && c) ≡ (a && (b && c))
and_assoc true b c = refl
and_assoc false b c = refl

not_not : (b : Bool) → b ≡ not (not b)
not_not true = refl
not_not false = refl

-- what is tested again is tested already
and_again : (here : Bool) (others : Bool) → (here && others) ≡ ((here && others) && here)
and_again true others = and_true others
and_again false others = refl

-- a test of labels that a conjunction passes if both parts do
module _ (test : LabelTree → Bool) where
  -- a label that is there already is tested already
  tested : (found : List LabelTree) (label : LabelTree) → list_any (same_label label) found ≡ true
      → list_all test found ≡ (list_all test found && test label)
  tested [] label there = absurd (true≢false (sym there))
  tested (first ∷ found) label there = choose (same_label label first) refl (tested found label)
    where
      choose : (b : Bool) → same_label label first ≡ b
          → (list_any (same_label label) found ≡ true → list_all test found ≡ (list_all test found && test label))
          → list_all test (first ∷ found) ≡ (list_all test (first ∷ found) && test label)
      choose true e among =
          and_again (test first) (list_all test found)
          ∙ ap (λ (other : LabelTree). (test first && list_all test found) && test other) (sym ((label-decides label first).0 e))
      choose false e among =
          let later : list_any (same_label label) found ≡ true = sym (ap (λ (b : Bool). b || list_any (same_label label) found) e) ∙ there in
          ap (λ (b : Bool). test first && b) (among later) ∙ sym (and_assoc (test first) (list_all test found) (test label))

  insert_tests : (found : List LabelTree) (label : LabelTree) → list_all test (insert_key same_label found label) ≡ (list_all test found && test label)
  insert_tests found label = choose (list_any (same_label label) found) refl
    where
      choose : (b : Bool) → list_any (same_label label) found ≡ b
          → list_all test (if b then found else found ++ label ∷ []) ≡ (list_all test found && test label)
      choose true there = tested found label there
      choose false there =
          list_all-append test found (label ∷ []) ∙ ap (λ (b : Bool). list_all test found && b) (sym (and_true (test label)))

  insert_all_tests : (found labels : List LabelTree) → list_all test (insert_all same_label found labels) ≡ (list_all test found && list_all test labels)
  insert_all_tests found [] = and_true (list_all test found)
  insert_all_tests found (label ∷ labels) =
      insert_all_tests (insert_key same_label found label) labels
      ∙ (ap (λ (b : Bool). b && list_all test labels) (insert_tests found label)
      ∙ and_assoc (list_all test found) (test label) (list_all test labels))

  -- each once, they pass the test as all do
  pub once_tests : (labels : List LabelTree) → list_all test (each_once labels) ≡ list_all test labels
  once_tests labels = insert_all_tests [] labels

  module _ (of_true : test (constant true) ≡ true) (of_both : (left right : LabelTree) → test (conjunction left right) ≡ (test left && test right)) where
    fold_tests : (first : LabelTree) (others : List LabelTree) → test (fold conjunction first others) ≡ (test first && list_all test others)
    fold_tests first [] = and_true (test first)
    fold_tests first (other ∷ others) =
        fold_tests (conjunction first other) others
        ∙ (ap (λ (b : Bool). b && list_all test others) (of_both first other)
        ∙ and_assoc (test first) (test other) (list_all test others))

    -- the conjunction of labels passes the test if all do
    pub all_of_tests : (labels : List LabelTree) → test (all_of labels) ≡ list_all test labels
    all_of_tests [] = of_true
    all_of_tests (first ∷ others) = fold_tests first others

    module _ (of_denied : (part : LabelTree) → test part ≡ test (negation (negation part))) where
      -- a label passes the test if its conjuncts do
      pub conjuncts_test : (label : LabelTree) → list_all test (conjuncts label) ≡ test label
      conjuncts_test (constant true) = sym of_true
      conjuncts_test (constant false) = sym (and_true (test (constant false)))
      conjuncts_test (proposition number) = sym (and_true (test (proposition number)))
      conjuncts_test (negation (constant value)) = sym (and_true (test (negation (constant value))))
      conjuncts_test (negation (proposition number)) = sym (and_true (test (negation (proposition number))))
      conjuncts_test (negation (negation part)) = conjuncts_test part ∙ of_denied part
      conjuncts_test (negation (conjunction left right)) = sym (and_true (test (negation (conjunction left right))))
      conjuncts_test (negation (disjunction left right)) = sym (and_true (test (negation (disjunction left right))))
      conjuncts_test (conjunction left right) =
          list_all-append test (conjuncts left) (conjuncts right)
          ∙ (ap (λ (b : Bool). b && list_all test (conjuncts right)) (conjuncts_test left)
          ∙ (ap (λ (b : Bool). test left && b) (conjuncts_test right) ∙ sym (of_both left right)))
      conjuncts_test (disjunction left right) = sym (and_true (test (disjunction left right)))

      -- two labels joined pass the test if both do
      pub joined_tests : (one other : LabelTree) → test (joined one other) ≡ (test one && test other)
      joined_tests one other =
          all_of_tests (each_once (conjuncts one ++ conjuncts other))
          ∙ (once_tests (conjuncts one ++ conjuncts other)
          ∙ (conjuncts_test (conjunction one other) ∙ of_both one other))

-- the conjunction of labels, each once, is true if all are
pub all_once_means : (held : ℕ → Bool) (labels : List LabelTree) → truth held (all_of (each_once labels)) ≡ list_all (truth held) labels
all_once_means held labels = all_of_tests (truth held) refl (λ left right. refl) (each_once labels) ∙ once_tests (truth held) labels

-- the conjunction of labels is true if all are
pub all_of_means : (held : ℕ → Bool) (labels : List LabelTree) → truth held (all_of labels) ≡ list_all (truth held) labels
all_of_means held labels = all_of_tests (truth held) refl (λ left right. refl) labels

-- the conjuncts of a label mean what it does
pub conjuncts_mean : (held : ℕ → Bool) (label : LabelTree) → truth held (all_of (conjuncts label)) ≡ truth held label
conjuncts_mean held label =
    all_of_means held (conjuncts label) ∙ conjuncts_test (truth held) refl (λ left right. refl) (λ part. not_not (truth held part)) label

-- each once as well
pub conjuncts_once_mean : (held : ℕ → Bool) (label : LabelTree) → truth held (all_of (each_once (conjuncts label))) ≡ truth held label
conjuncts_once_mean held label =
    all_once_means held (conjuncts label) ∙ conjuncts_test (truth held) refl (λ left right. refl) (λ part. not_not (truth held part)) label

-- two labels joined are true if both are
pub joined_means : (held : ℕ → Bool) (one other : LabelTree) → truth held (joined one other) ≡ (truth held one && truth held other)
joined_means held one other = joined_tests (truth held) refl (λ left right. refl) (λ part. not_not (truth held part)) one other

-- the propositions of two labels joined pass a test if those of both do
pub joined_mentions : (test : ℕ → Bool) (one other : LabelTree)
    → list_all test (propositions (joined one other)) ≡ (list_all test (propositions one) && list_all test (propositions other))
joined_mentions test one other =
    joined_tests (λ label. list_all test (propositions label)) refl (λ left right. list_all-append test (propositions left) (propositions right))
    (λ part. refl) one other
