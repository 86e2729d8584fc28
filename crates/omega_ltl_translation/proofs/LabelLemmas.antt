-- Labels of cubes, literal by literal and cube by cube.
use Rattle.std.proofs.Common.{◌≡◌, ◌⊎◌, inl, inr, ◌<◌, ◌≤◌, ◌+◌, ◌*◌, ◌↔◌, ℕ, Bool, true, false, not, List, [], ◌∷◌, ◌++◌, length, take, get_or, refl, sym, ap₂, subst, ◌∙◌, arith}
use Rattle.std.specs.Prelude.{Contains, IfSome, IsTrue, None, Option, Some, nat_le, nat_lt}
use Rattle.std.proofs.lemmas.Bool.{and_from, and_parts, both_ways, cases_lt, false≢true, le-ltb, lt-leb, or_cases, or_left, or_right}
use Rattle.std.proofs.lemmas.List.{length_push}
use Rattle.std.proofs.lemmas.List.Elements.{Contains-append_left, Contains-push, Contains-push_cases}
use Rattle.omega_hoa_label.specs.Label.{LabelTree, truth}
use Rattle.omega_hoa_label.specs.Label as label
use Rattle.omega_hoa_label.specs.Raw.{RawLabelTree}
use Rattle.omega_hoa_label.specs.Raw as raw
use Rattle.omega_hoa_label.specs.Writing.{grouped, label_text, label_written}
use Rattle.omega_ltl_shapes.specs.Covers.{HasLiteral, has_literal, is_set}
use Rattle.omega_ltl_shapes.specs.Demands.{IsLiteralTrue}
use Rattle.omega_ltl_shapes.specs.declared.cube.Cube.{Cube}
use Rattle.omega_ltl_shapes.proofs.ItemLemmas.{front_more}
use Rattle.omega_ltl_translation.specs.private.Labels.{AreTrueBelow, AreTrueOn, IsLabelAt, IsLabelBelow, IsLabelOfCubes, IsLabelOrNone, IsOperand, IsTrueCube, SomeIsTrue, conjunction_of, disjunction_of}

-- the proposition, and its negation
pub proposition_label : (number : ℕ) → IsLabelAt 3 1 1 (λ letter. IsLiteralTrue letter number false) (raw.proposition number)
proposition_label number = record { tree = label.proposition number; is = refl; binds = omega arith; small = omega arith; shallow = omega arith; exact = λ letter. (λ h. h, λ h. h) }

pub negation_label : (number : ℕ) → IsLabelAt 3 2 2 (λ letter. IsLiteralTrue letter number true) (raw.negation (raw.proposition number))
negation_label number = record { tree = label.negation (label.proposition number); is = refl; binds = omega arith; small = omega arith; shallow = omega arith; exact = λ letter. (λ h. h, λ h. h) }

pub true_label : (Holds : (ℕ → Bool) → Type 0) → ((letter : ℕ → Bool) → Holds letter) → IsLabelAt 2 1 1 Holds (raw.constant true)
true_label Holds all = record { tree = label.constant true; is = refl; binds = omega arith; small = omega arith; shallow = omega arith; exact = λ letter. (λ h. all letter, λ h. refl) }

pub false_label : (Holds : (ℕ → Bool) → Type 0) → ((letter : ℕ → Bool) → Holds letter → ⊥) → IsLabelAt 3 1 1 Holds (raw.constant false)
false_label Holds none = record { tree = label.constant false; is = refl; binds = omega arith; small = omega arith; shallow = omega arith; exact = λ letter. (λ h. absurd (false≢true h), λ h. absurd (none letter h)) }

pub looser : (rank less size large depth deep : ℕ) (Holds : (ℕ → Bool) → Type 0) (written : RawLabelTree) → less ≤ rank → size ≤ large → depth ≤ deep → IsLabelAt rank size depth Holds written
    → IsLabelAt less large deep Holds written
looser rank less size large depth deep Holds written low small shallow l = record {
  tree = l.tree;
  is = l.is;
  binds = omega (arith, low, l.binds);
  small = omega (arith, small, l.small);
  shallow = omega (arith, shallow, l.shallow);
  exact = l.exact;
}

pub same_meaning : (rank size depth : ℕ) (P Q : (ℕ → Bool) → Type 0) (written : RawLabelTree) → ((letter : ℕ → Bool) → P letter ↔ Q letter) → IsLabelAt rank size depth P written
    → IsLabelAt rank size depth Q written
same_meaning rank size depth P Q written same l = record {
  tree = l.tree;
  is = l.is;
  binds = l.binds;
  small = l.small;
  shallow = l.shallow;
  exact = λ letter. (λ h. (same letter).0 ((l.exact letter).0 h), λ q. (l.exact letter).1 ((same letter).1 q));
}

plain : (b : Bool) (written : RawLabelTree) → b ≡ false → grouped b written ≡ written
plain true written e = absurd (false≢true (sym e))
plain false written e = refl

pub both_label : (size more most depth : ℕ) (P Q : (ℕ → Bool) → Type 0) (left right : RawLabelTree) → size + more + 1 ≤ most → IsLabelAt 2 size depth P left → IsLabelAt 3 more depth Q right
    → IsLabelAt 2 most (depth + 1) (λ letter. P letter × Q letter) (raw.conjunction left right)
both_label size more most depth P Q left right room l r = record {
  small = omega (arith, room, l.small, r.small);
  shallow = omega (arith, l.shallow, r.shallow);
  tree = label.conjunction l.tree r.tree;
  is = ap₂ raw.conjunction
      (l.is ∙ sym (plain (nat_lt (label_text l.tree).rank 2) (label_written l.tree) (le-ltb (label_text l.tree).rank 2 l.binds)))
      (r.is ∙ sym (plain (nat_le (label_text r.tree).rank 2) (label_written r.tree) (lt-leb (label_text r.tree).rank 2 (omega (arith, r.binds)))));
  binds = omega arith;
  exact = λ letter. (
    λ h. (let parts = and_parts (truth letter l.tree) (truth letter r.tree) h in ((l.exact letter).0 parts.0, (r.exact letter).0 parts.1)),
    λ pq. and_from (truth letter l.tree) (truth letter r.tree) ((l.exact letter).1 pq.0) ((r.exact letter).1 pq.1),
  );
}

pub either_label : (size more most depth : ℕ) (P Q : (ℕ → Bool) → Type 0) (left right : RawLabelTree) → size + more + 1 ≤ most → IsLabelAt 1 size depth P left → IsLabelAt 2 more depth Q right
    → IsLabelAt 1 most (depth + 1) (λ letter. P letter ⊎ Q letter) (raw.disjunction left right)
either_label size more most depth P Q left right room l r = record {
  small = omega (arith, room, l.small, r.small);
  shallow = omega (arith, l.shallow, r.shallow);
  tree = label.disjunction l.tree r.tree;
  is = ap₂ raw.disjunction
      (l.is ∙ sym (plain (nat_lt (label_text l.tree).rank 1) (label_written l.tree) (le-ltb (label_text l.tree).rank 1 l.binds)))
      (r.is ∙ sym (plain (nat_le (label_text r.tree).rank 1) (label_written r.tree) (lt-leb (label_text r.tree).rank 1 (omega (arith, r.binds)))));
  binds = omega arith;
  exact = λ letter. (
    λ h. elim (or_cases (truth letter l.tree) (truth letter r.tree) h) [ inl a ↦ inl ((l.exact letter).0 a) | inr b ↦ inr ((r.exact letter).0 b) ],
    λ pq. elim pq [
      | inl p ↦ or_left (truth letter l.tree) (truth letter r.tree) ((l.exact letter).1 p)
      | inr q ↦ or_right (truth letter l.tree) (truth letter r.tree) ((r.exact letter).1 q)
    ],
  );
}

-- one cube more
pub some_more : (cubes : List Cube) (cube : Cube) (letter : ℕ → Bool) → (SomeIsTrue cubes letter ⊎ IsTrueCube letter cube) ↔ SomeIsTrue (cubes ++ cube ∷ []) letter
some_more cubes cube letter = (
  λ h. elim h [
    | inl some ↦ (some.0, Contains-append_left cubes (cube ∷ []) some.0 some.1, some.2)
    | inr here ↦ (cube, Contains-push cubes cube, here)
  ],
  λ some. elim (Contains-push_cases cubes cube some.0 some.1) [
    | inl before ↦ inl (some.0, before, some.2)
    | inr same ↦ inr (subst (IsTrueCube letter) (sym same) some.2)
  ],
)

-- no cube
pub no_cubes : IsLabelOfCubes [] None
no_cubes = record { some = tt; none = refl }

-- and one more
pub cubes_more : (cubes : List Cube) (cube : Cube) (label : Option RawLabelTree) (one : RawLabelTree) → IsLabelOfCubes cubes label
    → IsLabelAt 2 192 66 (λ letter. IsTrueCube letter cube) one → IsLabelOfCubes (cubes ++ cube ∷ []) (Some (disjunction_of label one))
cubes_more cubes cube None one is l = record {
  some = same_meaning 1 (length (cubes ++ cube ∷ []) * 193) (length (cubes ++ cube ∷ []) + 66) (λ letter. IsTrueCube letter cube) (SomeIsTrue (cubes ++ cube ∷ [])) one (λ letter. (
    λ h. (cube, Contains-push cubes cube, h),
    λ some. elim (Contains-push_cases cubes cube some.0 some.1) [
      | inl before ↦ absurd (nothing some.0 (subst (λ (cs : List Cube). Contains cs some.0) is.none before))
      | inr same ↦ subst (IsTrueCube letter) (sym same) some.2
    ],
  )) (looser 2 1 192 (length (cubes ++ cube ∷ []) * 193) 66 (length (cubes ++ cube ∷ []) + 66) (λ letter. IsTrueCube letter cube) one (omega arith) (omega (arith, length_push cubes cube)) (omega arith) l);
  none = tt;
}
  where
    nothing : (c : Cube) → Contains [] c → ⊥
    nothing c h = omega (arith, h.1)
cubes_more cubes cube (Some label) one is l =
    let long = length_push cubes cube in
    let either = either_label (length cubes * 193) 192 (length (cubes ++ cube ∷ []) * 193) (length cubes + 66) (SomeIsTrue cubes) (λ letter. IsTrueCube letter cube) label one (omega (arith, long)) is.some
    (looser 2 2 192 192 66 (length cubes + 66) (λ letter. IsTrueCube letter cube) one (omega arith) (omega arith) (omega arith) l) in
    record {
      some = same_meaning 1 (length (cubes ++ cube ∷ []) * 193) (length (cubes ++ cube ∷ []) + 66) (λ letter. SomeIsTrue cubes letter ⊎ IsTrueCube letter cube) (SomeIsTrue (cubes ++ cube ∷ [])) (raw.disjunction label one)
          (λ letter. some_more cubes cube letter)
          (looser 1 1 (length (cubes ++ cube ∷ []) * 193) (length (cubes ++ cube ∷ []) * 193) (length cubes + 66 + 1) (length (cubes ++ cube ∷ []) + 66) (λ letter. SomeIsTrue cubes letter ⊎ IsTrueCube letter cube)
          (raw.disjunction label one) (omega arith) (omega arith) (omega (arith, long)) either);
      none = tt;
    }

pub cubes_front : (cubes : List Cube) (i : ℕ) (d : Cube) (label : Option RawLabelTree) (one either : RawLabelTree) → i < length cubes → IsLabelOfCubes (take i cubes) label
    → IsLabelAt 2 192 66 (λ letter. IsTrueCube letter (get_or cubes i d)) one → either ≡ disjunction_of label one → IsLabelOfCubes (take (i + 1) cubes) (Some either)
cubes_front cubes i d label one either below is l same = front_more (λ (cs : List Cube). IsLabelOfCubes cs (Some either)) cubes i d below
    (subst (λ (x : RawLabelTree). IsLabelOfCubes (take i cubes ++ get_or cubes i d ∷ []) (Some x)) (sym same) (cubes_more (take i cubes) (get_or cubes i d) label one is l))

pub same_or_none : (rank size depth : ℕ) (P Q : (ℕ → Bool) → Type 0) (label : Option RawLabelTree) → ((letter : ℕ → Bool) → P letter ↔ Q letter) → IsLabelOrNone rank size depth P label
    → IsLabelOrNone rank size depth Q label
same_or_none rank size depth P Q None same l = record { some = tt; none = λ letter. (same letter).0 (l.none letter) }
same_or_none rank size depth P Q (Some label) same l = record { some = same_meaning rank size depth P Q label same l.some; none = tt }

-- the literals on no name, and on one more
pub true_none : (cube : Cube) → IsLabelBelow cube 0 None
true_none cube = record { some = tt; none = λ letter name negated low. absurd (omega (arith, low)) }

pub true_more : (cube : Cube) (count : ℕ) (letter : ℕ → Bool) → (AreTrueBelow cube count letter × AreTrueOn cube count letter) ↔ AreTrueBelow cube (count + 1) letter
true_more cube count letter = (
  λ h name negated low l. elim (cases_lt name count) [
    | inl before ↦ h.0 name negated before l
    | inr reached ↦ (let same : count ≡ name = omega arith in
        subst (λ (n : ℕ). IsLiteralTrue letter n negated) same (h.1 negated (subst (λ (n : ℕ). HasLiteral cube n negated) (sym same) l)))
  ],
  λ all. (λ name negated low l. all name negated (omega arith) l, λ negated l. all count negated (omega arith) l),
)

-- a cube has no literals above its width
pub true_all : (cube : Cube) → ((place : ℕ) → 64 ≤ place → is_set cube.positive place ≡ false) → ((place : ℕ) → 64 ≤ place → is_set cube.negative place ≡ false) → (letter : ℕ → Bool) → AreTrueBelow cube 64 letter ↔ IsTrueCube letter cube
true_all cube positive negative letter = (
  λ below name negated l. elim (cases_lt name 64) [ inl low ↦ below name negated low l | inr high ↦ absurd (beyond name negated high l) ],
  λ all name negated low l. all name negated l,
)
  where
    beyond : (name : ℕ) (negated : Bool) → 64 ≤ name → HasLiteral cube name negated → ⊥
    beyond name false high l = both_ways (has_literal cube name false) (positive name high) l
    beyond name true high l = both_ways (has_literal cube name true) (negative name high) l

pub true_cube : (cube : Cube) (label : Option RawLabelTree) → ((place : ℕ) → 64 ≤ place → is_set cube.positive place ≡ false) → ((place : ℕ) → 64 ≤ place → is_set cube.negative place ≡ false)
    → IsLabelBelow cube 64 label → IsLabelOrNone 2 192 66 (λ letter. IsTrueCube letter cube) label
true_cube cube label positive negative l = same_or_none 2 192 66 (AreTrueBelow cube 64) (λ letter. IsTrueCube letter cube) label (true_all cube positive negative) l

-- two labels, none of which is true at each letter
pub conjunction_label : (count : ℕ) (P Q : (ℕ → Bool) → Type 0) (label more : Option RawLabelTree) → IsLabelOrNone 2 (count * 3) (count + 2) P label → IsLabelOrNone 3 2 2 Q more
    → IsLabelOrNone 2 ((count + 1) * 3) (count + 1 + 2) (λ letter. P letter × Q letter) (conjunction_of label more)
conjunction_label count P Q None None l m = record { some = tt; none = λ letter. (l.none letter, m.none letter) }
conjunction_label count P Q None (Some more) l m = record {
  some = same_meaning 2 ((count + 1) * 3) (count + 1 + 2) Q (λ letter. P letter × Q letter) more (λ letter. (λ q. (l.none letter, q), λ h. h.1))
      (looser 3 2 2 ((count + 1) * 3) 2 (count + 1 + 2) Q more (omega arith) (omega arith) (omega arith) m.some);
  none = tt;
}
conjunction_label count P Q (Some label) None l m = record {
  some = same_meaning 2 ((count + 1) * 3) (count + 1 + 2) P (λ letter. P letter × Q letter) label (λ letter. (λ p. (p, m.none letter), λ h. h.0))
      (looser 2 2 (count * 3) ((count + 1) * 3) (count + 2) (count + 1 + 2) P label (omega arith) (omega arith) (omega arith) l.some);
  none = tt;
}
conjunction_label count P Q (Some label) (Some more) l m = record {
  some = looser 2 2 ((count + 1) * 3) ((count + 1) * 3) (count + 2 + 1) (count + 1 + 2) (λ letter. P letter × Q letter) (raw.conjunction label more) (omega arith) (omega arith) (omega arith)
      (both_label (count * 3) 2 ((count + 1) * 3) (count + 2) P Q label more (omega arith) l.some (looser 3 3 2 2 2 (count + 2) Q more (omega arith) (omega arith) (omega arith) m.some));
  none = tt;
}

-- one name more of a cube
pub name_more : (cube : Cube) (count : ℕ) (label more : Option RawLabelTree) → IsLabelBelow cube count label → IsLabelOrNone 3 2 2 (AreTrueOn cube count) more
    → IsLabelBelow cube (count + 1) (conjunction_of label more)
name_more cube count label more l m =
    same_or_none 2 ((count + 1) * 3) (count + 1 + 2) (λ letter. AreTrueBelow cube count letter × AreTrueOn cube count letter) (AreTrueBelow cube (count + 1)) (conjunction_of label more)
    (true_more cube count) (conjunction_label count (AreTrueBelow cube count) (AreTrueOn cube count) label more l m)

-- labels that are not too deep can be operands
pub operand_or_none : (rank size depth : ℕ) (Holds : (ℕ → Bool) → Type 0) (label : Option RawLabelTree) → depth < 256 → IsLabelOrNone rank size depth Holds label → IfSome label IsOperand
operand_or_none rank size depth Holds None low is = tt
operand_or_none rank size depth Holds (Some label) low is = omega (arith, low, is.some.shallow)

pub operand_of_cubes : (cubes : List Cube) (label : Option RawLabelTree) → length cubes ≤ 128 → IsLabelOfCubes cubes label → IfSome label IsOperand
operand_of_cubes cubes None few is = tt
operand_of_cubes cubes (Some label) few is = omega (arith, few, is.some.shallow)

-- the literals of one name
module _ (cube : Cube) (name : ℕ) (positive negative : Bool) (first : positive ≡ has_literal cube name false) (second : negative ≡ has_literal cube name true) where
  pub both_signs : positive ≡ true → negative ≡ true → IsLabelAt 3 2 2 (AreTrueOn cube name) (raw.constant false)
  both_signs p n = looser 3 3 1 2 1 2 (AreTrueOn cube name) (raw.constant false) (omega arith) (omega arith) (omega arith)
      (false_label (AreTrueOn cube name) (λ letter all. apart (letter name) (all false (sym first ∙ p)) (all true (sym second ∙ n))))
    where
      apart : (value : Bool) → IsTrue value → IsTrue (not value) → ⊥
      apart true h k = false≢true k
      apart false h k = false≢true h

  pub positive_sign : positive ≡ true → negative ≡ false → IsLabelAt 3 2 2 (AreTrueOn cube name) (raw.proposition name)
  positive_sign p n = same_meaning 3 2 2 (λ letter. IsLiteralTrue letter name false) (AreTrueOn cube name) (raw.proposition name)
      (λ letter. (λ h. each letter h, λ all. all false (sym first ∙ p)))
      (looser 3 3 1 2 1 2 (λ letter. IsLiteralTrue letter name false) (raw.proposition name) (omega arith) (omega arith) (omega arith) (proposition_label name))
    where
      each : (letter : ℕ → Bool) → IsLiteralTrue letter name false → AreTrueOn cube name letter
      each letter h false l = h
      each letter h true l = absurd (both_ways (has_literal cube name true) (sym second ∙ n) l)

  pub negative_sign : positive ≡ false → negative ≡ true → IsLabelAt 3 2 2 (AreTrueOn cube name) (raw.negation (raw.proposition name))
  negative_sign p n = same_meaning 3 2 2 (λ letter. IsLiteralTrue letter name true) (AreTrueOn cube name) (raw.negation (raw.proposition name))
      (λ letter. (λ h. each letter h, λ all. all true (sym second ∙ n))) (negation_label name)
    where
      each : (letter : ℕ → Bool) → IsLiteralTrue letter name true → AreTrueOn cube name letter
      each letter h false l = absurd (both_ways (has_literal cube name false) (sym first ∙ p) l)
      each letter h true l = h

  pub no_sign : positive ≡ false → negative ≡ false → (letter : ℕ → Bool) → AreTrueOn cube name letter
  no_sign p n letter false l = absurd (both_ways (has_literal cube name false) (sym first ∙ p) l)
  no_sign p n letter true l = absurd (both_ways (has_literal cube name true) (sym second ∙ n) l)
