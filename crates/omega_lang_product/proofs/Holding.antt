-- The values of a label's propositions decide whether it can be true.
use Rattle.std.proofs.Common.{◌≡◌, ◌==◌, ◌↔◌, ℕ, ◌⊎◌, inl, inr, Bool, true, false, not, ◌&&◌, ◌||◌, if◌then◌else◌, IsTrue, List, [], ◌∷◌, Contains, refl, sym, ap, ap₂, ◌∙◌, eqb-true, eq-eqb, true≢false}
use Rattle.std.proofs.lemmas.List.Elements.{Contains-append_left, Contains-append_right}
use Rattle.omega_hoa_label.specs.Label.{LabelTree, conjunction, constant, disjunction, negation, proposition, propositions, truth}
use Rattle.omega_hoa_satisfiable.specs.Satisfiable.{IsSatisfiable}
use Rattle.omega_lang_product.specs.Pairs.{can_meet}
use Rattle.omega_lang_product.specs.declared.plain_edge.PlainEdge.{PlainEdge}
use Rattle.omega_lang_product.proofs.Membership.{Contains-cases, Contains-here, Contains-nothing}
use Rattle.omega_lang_product.specs.PlainEdges.{can_hold, is_true_under_some, with_value}

-- only the propositions of a label count
pub truth_same : (held held' : ℕ → Bool) (label : LabelTree) → ((p : ℕ) → Contains (propositions label) p → held p ≡ held' p)
    → truth held label ≡ truth held' label
truth_same held held' (constant value) same = refl
truth_same held held' (proposition number) same = same number (Contains-here number [])
truth_same held held' (negation part) same = ap not (truth_same held held' part same)
truth_same held held' (conjunction left right) same =
    ap₂ ◌&&◌ (truth_same held held' left (λ p h. same p (Contains-append_left (propositions left) (propositions right) p h)))
    (truth_same held held' right (λ p h. same p (Contains-append_right (propositions left) (propositions right) p h)))
truth_same held held' (disjunction left right) same =
    ap₂ ◌||◌ (truth_same held held' left (λ p h. same p (Contains-append_left (propositions left) (propositions right) p h)))
    (truth_same held held' right (λ p h. same p (Contains-append_right (propositions left) (propositions right) p h)))

-- the parts of what is true
pub and_both : (a b : Bool) → (a && b) ≡ true → (a ≡ true) × (b ≡ true)
and_both true b e = (refl, e)
and_both false b e = absurd (true≢false (sym e))

pub both_and : (a b : Bool) → a ≡ true → b ≡ true → (a && b) ≡ true
both_and a b ea eb = ap₂ ◌&&◌ ea eb

pub or_either : (a b : Bool) → (a || b) ≡ true → (a ≡ true) ⊎ (b ≡ true)
or_either true b e = inl refl
or_either false b e = inr e

or_first : (a b : Bool) → a ≡ true → (a || b) ≡ true
or_first a b e = ap (λ x. x || b) e

or_second : (a b : Bool) → b ≡ true → (a || b) ≡ true
or_second true b e = refl
or_second false b e = e

-- what is true under some values can be true
some_true : (ps : List ℕ) (held : ℕ → Bool) (label : LabelTree) → is_true_under_some ps held label ≡ true → IsSatisfiable label
some_true [] held label e = (held, e)
some_true (p ∷ ps) held label e =
    elim (or_either (is_true_under_some ps (with_value p true held) label) (is_true_under_some ps (with_value p false held) label) e) [
      | inl first ↦ some_true ps (with_value p true held) label first
      | inr second ↦ some_true ps (with_value p false held) label second
    ]

-- a value that is as wanted
valued : (p q : ℕ) (value : Bool) (held wanted : ℕ → Bool) → wanted p ≡ value → (p ≡ q) ⊎ (held q ≡ wanted q) → with_value p value held q ≡ wanted q
valued p q value held wanted here known = go (q == p) refl
  where
    other : (p ≡ q) ⊎ (held q ≡ wanted q) → (q == p) ≡ false → held q ≡ wanted q
    other (inl e) apart = absurd (true≢false (sym (eq-eqb q p (sym e)) ∙ apart))
    other (inr e) apart = e

    go : (b : Bool) → (q == p) ≡ b → (if b then value else held q) ≡ wanted q
    go true e = sym here ∙ ap wanted (sym (eqb-true q p e))
    go false e = other known e

-- what can be true is so under some values of its propositions
true_somewhere : (label : LabelTree) (wanted : ℕ → Bool) → truth wanted label ≡ true → (ps : List ℕ) (held : ℕ → Bool)
    → ((p : ℕ) → Contains (propositions label) p → Contains ps p ⊎ (held p ≡ wanted p)) → is_true_under_some ps held label ≡ true
true_somewhere label wanted holds [] held known = truth_same held wanted label same ∙ holds
  where
    go : (p : ℕ) → Contains [] p ⊎ (held p ≡ wanted p) → held p ≡ wanted p
    go p (inl none) = absurd (Contains-nothing p none)
    go p (inr e) = e

    same : (p : ℕ) → Contains (propositions label) p → held p ≡ wanted p
    same p h = go p (known p h)
true_somewhere label wanted holds (p ∷ ps) held known =
    go (wanted p) refl
    (λ value here. true_somewhere label wanted holds ps (with_value p value held) (λ q h. step q value here (known q h)))
  where
    cases : (q : ℕ) (value : Bool) → wanted p ≡ value → (p ≡ q) ⊎ Contains ps q → Contains ps q ⊎ (with_value p value held q ≡ wanted q)
    cases q value here (inl e) = inr (valued p q value held wanted here (inl e))
    cases q value here (inr later) = inl later

    step : (q : ℕ) (value : Bool) → wanted p ≡ value → Contains (p ∷ ps) q ⊎ (held q ≡ wanted q)
        → Contains ps q ⊎ (with_value p value held q ≡ wanted q)
    step q value here (inl h) = cases q value here (Contains-cases p q ps h)
    step q value here (inr e) = inr (valued p q value held wanted here (inr e))

    go : (b : Bool) → wanted p ≡ b
        → ((value : Bool) → wanted p ≡ value → is_true_under_some ps (with_value p value held) label ≡ true)
        → (is_true_under_some ps (with_value p true held) label || is_true_under_some ps (with_value p false held) label) ≡ true
    go true e rest = or_first (is_true_under_some ps (with_value p true held) label) (is_true_under_some ps (with_value p false held) label) (rest true e)
    go false e rest = or_second (is_true_under_some ps (with_value p true held) label) (is_true_under_some ps (with_value p false held) label) (rest false e)

-- `can_hold` says whether a label can be true
pub can_hold_iff : (label : LabelTree) → (can_hold label ≡ true) ↔ IsSatisfiable label
can_hold_iff label = (
  some_true (propositions label) (λ p. false) label,
  λ s. true_somewhere label s.0 s.1 (propositions label) (λ p. false) (λ p h. inl h),
)

-- a judgement of whether a label can be true is what `can_hold` says
pub judged_holds : (label : LabelTree) (possible : Bool) → IsTrue possible ↔ IsSatisfiable label → possible ≡ can_hold label
judged_holds label possible judged = same possible (can_hold label) (λ h. (can_hold_iff label).1 (judged.0 h)) (λ h. judged.1 ((can_hold_iff label).0 h))
  where
    same : (a b : Bool) → (a ≡ true → b ≡ true) → (b ≡ true → a ≡ true) → a ≡ b
    same true b there back = sym (there refl)
    same false true there back = back refl
    same false false there back = refl

-- so is whether two edges can be taken together
pub meets_as_judged : (plain_edge other : PlainEdge) (label : LabelTree) (possible : Bool) → label ≡ conjunction plain_edge.label other.label
    → IsTrue possible ↔ IsSatisfiable label → possible ≡ can_meet plain_edge other
meets_as_judged plain_edge other label possible is judged = judged_holds label possible judged ∙ ap can_hold is
