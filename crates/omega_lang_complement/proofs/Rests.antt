-- Alternatives of labels, and what they leave.
use Rattle.std.proofs.Common.{◌≡◌, ℕ, suc, ◌+◌, ◌<◌, ◌⊎◌, inl, inr, Bool, true, false, not, ◌||◌, List, [], ◌∷◌, length, take, drop, refl, sym, ap, ap₂, ◌∙◌, arith}
use Rattle.std.specs.List.{list_any}
use Rattle.std.proofs.Math.Seq.{drop-append_seam, take-append_seam}
use Rattle.std.proofs.lemmas.List.{length-append}
use Rattle.std.proofs.lemmas.List.Folds.{list_any-append}
use Rattle.omega_hoa_label.specs.Label.{LabelTree, disjunction, negation, truth}
use Rattle.omega_hoa_satisfiable.specs.Satisfiable.{IsSatisfiable}
use Rattle.omega_lang_complement.specs.Letters.{IsAnyOf, IsRestLabel, LacksLetter, alone, halves}

or_false : (b : Bool) → b ≡ (b || false)
or_false true = refl
or_false false = refl

-- the alternative is true where a label is
pub any_true : (held : ℕ → Bool) (labels : List LabelTree) (any : LabelTree) → IsAnyOf labels any → truth held any ≡ list_any (truth held) labels
any_true held labels any (alone label) = or_false (truth held label)
any_true held labels any (halves left right x y even first second) =
    ap₂ (λ a b. a || b) (any_true held left x first) (any_true held right y second) ∙ sym (list_any-append (truth held) left right)

-- the rest is true if no label is
pub rest_true : (held : ℕ → Bool) (labels : List LabelTree) (rest : LabelTree) → IsRestLabel labels rest → truth held rest ≡ not (list_any (truth held) labels)
rest_true held [] rest is = ap (truth held) is
rest_true held (label ∷ labels) rest is = ap (truth held) is.2 ∙ ap not (any_true held (label ∷ labels) is.0 is.1)

not_true : (b : Bool) → not b ≡ true → b ≡ false
not_true true e = sym e
not_true false e = refl

-- the rest can be true exactly where a letter is lacking
pub rest_lacks : (labels : List LabelTree) (rest : LabelTree) → IsRestLabel labels rest → IsSatisfiable rest → LacksLetter labels
rest_lacks labels rest is (held, holds) = (held, not_true (list_any (truth held) labels) (sym (rest_true held labels rest is) ∙ holds))

pub lacks_rest : (labels : List LabelTree) (rest : LabelTree) → IsRestLabel labels rest → LacksLetter labels → IsSatisfiable rest
lacks_rest labels rest is (held, none) = (held, rest_true held labels rest is ∙ ap not none)

-- the alternative of labels is one, since its halves are
any_some : (labels : List LabelTree) (any : LabelTree) → IsAnyOf labels any → 0 < length labels
any_some labels any (alone l) = omega arith
any_some labels any (halves left right x y even first second) = omega (arith, length-append left right, any_some left x first)

even_half : (m n p q : ℕ) → (n ≡ m) ⊎ (n ≡ suc m) → (q ≡ p) ⊎ (q ≡ suc p) → m + n ≡ p + q → m ≡ p
even_half m n p q (inl e) (inl f) same = omega (arith, e, f, same)
even_half m n p q (inl e) (inr f) same = omega (arith, e, f, same)
even_half m n p q (inr e) (inl f) same = omega (arith, e, f, same)
even_half m n p q (inr e) (inr f) same = omega (arith, e, f, same)

one_item : (x y : LabelTree) → x ∷ [] ≡ y ∷ [] → x ≡ y
one_item x y e = cc

any_one : (labels others : List LabelTree) (x y : LabelTree) → labels ≡ others → IsAnyOf labels x → IsAnyOf others y → x ≡ y
any_one labels others x y same (alone l) (alone m) = one_item l m same
any_one labels others x y same (alone l) (halves left right u v even first second) =
    absurd (omega (arith, ap length same, length-append left right, any_some left u first, any_some right v second))
any_one labels others x y same (halves left right u v even first second) (alone m) =
    absurd (omega (arith, ap length same, length-append left right, any_some left u first, any_some right v second))
any_one labels others x y same (halves left right u v even first second) (halves front back s t half third fourth) =
    ap₂ disjunction (any_one left front u s fronts first third) (any_one right back v t backs second fourth)
  where
    middle : length left ≡ length front
    middle =
        even_half (length left) (length right) (length front) (length back) even half (sym (length-append left right) ∙ ap length same ∙ length-append front back)

    fronts : left ≡ front
    fronts = sym (take-append_seam left right) ∙ ap₂ (λ (n : ℕ) (ls : List LabelTree). take n ls) middle same ∙ take-append_seam front back

    backs : right ≡ back
    backs = sym (drop-append_seam left right) ∙ ap₂ (λ (n : ℕ) (ls : List LabelTree). drop n ls) middle same ∙ drop-append_seam front back

-- so is the rest
pub rest_one : (labels : List LabelTree) (x y : LabelTree) → IsRestLabel labels x → IsRestLabel labels y → x ≡ y
rest_one [] x y one other = one ∙ sym other
rest_one (l ∷ labels) x y one other = one.2 ∙ ap negation (any_one (l ∷ labels) (l ∷ labels) one.0 other.0 refl one.1 other.1) ∙ sym other.2
