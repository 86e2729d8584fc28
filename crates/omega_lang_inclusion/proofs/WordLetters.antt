-- A letter is true where what it means is: parentheses change nothing, and there are no aliases.
use Rattle.std.proofs.Common.{◌≡◌, Bool, not, ◌&&◌, ◌||◌, ℕ, [], Option, Some, None, option_map, refl, sym, ap, ap₂, ◌∙◌, unwrap_or}
use Rattle.omega_hoa_label_text.specs.Expanding.{Meaning, both, in_parentheses, negated, replaced}
use Rattle.omega_hoa_label.specs.Label.{LabelTree, truth}
use Rattle.omega_hoa_label.specs.Label as label
use Rattle.omega_hoa_label.specs.Raw.{RawLabelTree, alias, conjunction, constant, disjunction, group, negation, proposition}
use Rattle.omega_lang_lasso_word.specs.Admitted.{is_true_letter}

pub some_is : {A : Type 0} (x y : A) → Some x ≡ Some y → x ≡ y
some_is {A} x y e = ap (λ (o : Option A). unwrap_or o x) e

none_is : {A : Type 0} (x : A) → ◌≡◌ {A = Option A} None (Some x) → ⊥
none_is {A} x e = cc

-- the tree of a meaning
abbrev tree_in : Option Meaning → Option LabelTree
tree_in meaning = option_map (λ (m : Meaning). m.tree) meaning

module _ (held : ℕ → Bool) where
  -- a meaning is true exactly if this value is
  abbrev IsWorth : Option Meaning → Bool → Type 0
  IsWorth meaning value = (tree : LabelTree) → tree_in meaning ≡ Some tree → truth held tree ≡ value

  atom_worth : (atom tree : LabelTree) → Some atom ≡ Some tree → truth held tree ≡ truth held atom
  atom_worth atom tree is = ap (truth held) (sym (some_is atom tree is))

  negated_worth : (meaning : Option Meaning) (value : Bool) → IsWorth meaning value → IsWorth (option_map negated meaning) (not value)
  negated_worth None value worth tree is = absurd (none_is tree is)
  negated_worth (Some meaning) value worth tree is = atom_worth (label.negation meaning.tree) tree is ∙ ap not (worth meaning.tree refl)

  grouped_worth : (meaning : Option Meaning) (value : Bool) → IsWorth meaning value → IsWorth (option_map in_parentheses meaning) value
  grouped_worth None value worth tree is = absurd (none_is tree is)
  grouped_worth (Some meaning) value worth tree is = worth tree is

  and_worth : (left right : Option Meaning) (one other : Bool) → IsWorth left one → IsWorth right other → IsWorth (both label.conjunction left right) (one && other)
  and_worth None right one other first second tree is = absurd (none_is tree is)
  and_worth (Some left) None one other first second tree is = absurd (none_is tree is)
  and_worth (Some left) (Some right) one other first second tree is =
      atom_worth (label.conjunction left.tree right.tree) tree is ∙ ap₂ (λ (a b : Bool). a && b) (first left.tree refl) (second right.tree refl)

  or_worth : (left right : Option Meaning) (one other : Bool) → IsWorth left one → IsWorth right other → IsWorth (both label.disjunction left right) (one || other)
  or_worth None right one other first second tree is = absurd (none_is tree is)
  or_worth (Some left) None one other first second tree is = absurd (none_is tree is)
  or_worth (Some left) (Some right) one other first second tree is =
      atom_worth (label.disjunction left.tree right.tree) tree is ∙ ap₂ (λ (a b : Bool). a || b) (first left.tree refl) (second right.tree refl)

  -- what a letter means is true exactly if the letter is
  pub letter_worth : (letter : RawLabelTree) → IsWorth (replaced [] letter) (is_true_letter held letter)
  letter_worth (constant value) tree is = atom_worth (label.constant value) tree is
  letter_worth (proposition number) tree is = atom_worth (label.proposition number) tree is
  letter_worth (alias name) tree is = absurd (none_is tree is)
  letter_worth (negation part) tree is = negated_worth (replaced [] part) (is_true_letter held part) (letter_worth part) tree is
  letter_worth (conjunction left right) tree is =
      and_worth (replaced [] left) (replaced [] right) (is_true_letter held left) (is_true_letter held right) (letter_worth left) (letter_worth right) tree is
  letter_worth (disjunction left right) tree is =
      or_worth (replaced [] left) (replaced [] right) (is_true_letter held left) (is_true_letter held right) (letter_worth left) (letter_worth right) tree is
  letter_worth (group part) tree is = grouped_worth (replaced [] part) (is_true_letter held part) (letter_worth part) tree is
