-- Terms within others, and good terms.
use Rattle.std.proofs.Common.{inl, inr, ℕ, Bool, true, false, not, List}
use Rattle.std.specs.Prelude.{IsTrue}
use Rattle.std.proofs.lemmas.Bool.{false≢true}
use Rattle.omega_ltl_shapes.specs.Demands.{Valuation}
use Rattle.omega_ltl_shapes.specs.Graphs.{IsGood}
use Rattle.omega_ltl_shapes.specs.Terms.{AreContradictory, IsOfBoth, IsWithin}
use Rattle.omega_ltl_shapes.specs.declared.shape.Shape.{Shape}
use Rattle.omega_ltl_shapes.specs.declared.term.Term.{Term}
use Rattle.omega_ltl_terms.specs.Adding.{HasGood, HasWithin}

pub within_itself : (term : Term) → IsWithin term term
within_itself term = record { literals = λ name negated h. h; next = λ d h. h; late = λ place h. h }

pub within_more : (one two three : Term) → IsWithin one two → IsWithin two three → IsWithin one three
within_more one two three a b = record {
  literals = λ name negated h. b.literals name negated (a.literals name negated h);
  next = λ d h. b.next d (a.next d h);
  late = λ place h. b.late place (a.late place h);
}

pub first_within : (one other both : Term) → IsOfBoth one other both → IsWithin one both
first_within one other both is = record {
  literals = λ name negated h. (is.literals name negated).1 (inl h);
  next = λ d h. (is.next d).1 (inl h);
  late = λ place h. (is.late place).1 (inl h);
}

pub second_within : (one other both : Term) → IsOfBoth one other both → IsWithin other both
second_within one other both is = record {
  literals = λ name negated h. (is.literals name negated).1 (inr h);
  next = λ d h. (is.next d).1 (inr h);
  late = λ place h. (is.late place).1 (inr h);
}

pub has_within_more : (terms : List Term) (one two : Term) → HasWithin terms one → IsWithin one two → HasWithin terms two
has_within_more terms one two has w = (has.0, has.1, within_more has.0 one two has.2 w)

module _ {shapes : List Shape} (strongs : List ℕ) (v : Valuation shapes) (i : ℕ) where
  pub good_within : (less term : Term) → IsWithin less term → IsGood strongs v i term → IsGood strongs v i less
  good_within less term w good = record {
    literals = λ name negated h. good.literals name negated (w.literals name negated h);
    next = λ d h. good.next d (w.next d h);
    strong = λ set h. good.strong set (w.late set h);
    late = λ set h. good.late set (w.late set h);
    no_goal = λ set h. good.no_goal set (w.late set h);
  }

  pub good_both : (one other both : Term) → IsOfBoth one other both → IsGood strongs v i one → IsGood strongs v i other → IsGood strongs v i both
  good_both one other both is a b = record {
    literals = λ name negated h. elim ((is.literals name negated).0 h) [ inl x ↦ a.literals name negated x | inr y ↦ b.literals name negated y ];
    next = λ d h. elim ((is.next d).0 h) [ inl x ↦ a.next d x | inr y ↦ b.next d y ];
    strong = λ set h. elim ((is.late set).0 h) [ inl x ↦ a.strong set x | inr y ↦ b.strong set y ];
    late = λ set h. elim ((is.late set).0 h) [ inl x ↦ a.late set x | inr y ↦ b.late set y ];
    no_goal = λ set h. elim ((is.late set).0 h) [ inl x ↦ a.no_goal set x | inr y ↦ b.no_goal set y ];
  }

  opposite : (b : Bool) → IsTrue b → IsTrue (not b) → ⊥
  opposite true sure never = false≢true never
  opposite false sure never = false≢true sure

  pub good_agree : (one other : Term) → AreContradictory one.cube other.cube → IsGood strongs v i one → IsGood strongs v i other → ⊥
  good_agree one other c a b = elim c.1 [
    | inl h ↦ opposite (v.held i c.0) (a.literals c.0 false h.0) (b.literals c.0 true h.1)
    | inr h ↦ opposite (v.held i c.0) (b.literals c.0 false h.1) (a.literals c.0 true h.0)
  ]

  pub has_good_within : (terms : List Term) (term : Term) → HasWithin terms term → IsGood strongs v i term → HasGood strongs v i terms
  has_good_within terms term has good = (has.0, has.1, good_within has.0 term has.2 good)
