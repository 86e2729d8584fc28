-- A letter as a label is true exactly where its propositions hold as it says.
use Rattle.std.proofs.Common.{◌≡◌, ◌↔◌, ℕ, zero, suc, ◌<◌, ◌⊎◌, inl, inr, Bool, true, false, ◌&&◌, not, if◌then◌else◌, List, [], ◌∷◌, Contains, length, get_or, refl, sym, ap, ap₂, subst, ◌∙◌, arith, true≢false}
use Rattle.std.specs.List.{filter, range_with_len}
use Rattle.std.proofs.lemmas.Bool.{and_parts}
use Rattle.std.proofs.lemmas.List.Elements.{Contains-append_cases, Contains-append_right}
use Rattle.std.proofs.lemmas.List.FromFn.{get_or-range_with_len, length-range_with_len}
use Rattle.omega_hoa_automaton.specs.Automaton.{Description}
use Rattle.omega_graph.specs.Graph.{listed}
use Rattle.omega_hoa_label.specs.Label.{LabelTree, conjunction, truth}
use Rattle.omega_lang_lasso_word.specs.Formulas.{formula}
use Rattle.omega_lang_lasso_word.specs.Laws.{by_number}
use Rattle.omega_lang_lasso_word.proofs.Said.{label_said}
use Rattle.omega_synth_game.specs.RoundsOf.{holds_in}
use Rattle.omega_synth_text.specs.Winner.{inputs_of, letter_label, literal, with_literals}
use Rattle.omega_answers_synth.proofs.Ranges.{has_listed, is_listed}
use Rattle.omega_answers_synth.specs.Laws.{LettersAreTrueWhereGiven}

none_there : {X : Type 0} (x : X) → Contains [] x → ⊥
none_there x has = omega (arith, has.1)

one_there : {X : Type 0} (y x : X) → Contains (y ∷ []) x → y ≡ x
one_there {X} y x has = go has.0 has.1 has.2
  where
    go : (k : ℕ) → k < 1 → get_or (y ∷ []) k x ≡ x → y ≡ x
    go zero below is = is
    go (suc k) below is = absurd (omega (arith, below))

here : {X : Type 0} (x : X) (xs : List X) → Contains (x ∷ xs) x
here x xs = (0, omega arith, refl)

there : {X : Type 0} (y : X) (xs : List X) (x : X) → Contains xs x → Contains (y ∷ xs) x
there y xs x has = Contains-append_right (y ∷ []) xs x has

-- ---- what passes a test

pub has_passed : {X : Type 0} (p : X → Bool) (xs : List X) (x : X) → Contains (filter p xs) x → Contains xs x × (p x ≡ true)
has_passed p [] x has = absurd (none_there x has)
has_passed {X} p (y ∷ ys) x has = go (p y) refl has (λ rest. has_passed p ys x rest)
  where
    later : Contains ys x × (p x ≡ true) → Contains (y ∷ ys) x × (p x ≡ true)
    later rest = (there y ys x rest.0, rest.1)

    go : (b : Bool) → p y ≡ b → Contains (filter p (y ∷ ys)) x → (Contains (filter p ys) x → Contains ys x × (p x ≡ true)) → Contains (y ∷ ys) x × (p x ≡ true)
    go true is has rest =
        let has : Contains (y ∷ filter p ys) x = subst (λ (b : Bool). Contains (if b then y ∷ filter p ys else filter p ys) x) is has in
        elim (Contains-append_cases (y ∷ []) (filter p ys) x has) [
          | inl first ↦ let same : y ≡ x = one_there y x first in (subst (Contains (y ∷ ys)) same (here y ys), ap p (sym same) ∙ is)
          | inr others ↦ later (rest others)
        ]
    go false is has rest = later (rest (subst (λ (b : Bool). Contains (if b then y ∷ filter p ys else filter p ys) x) is has))

pub passes : {X : Type 0} (p : X → Bool) (xs : List X) (x : X) → Contains xs x → p x ≡ true → Contains (filter p xs) x
passes p [] x has is = absurd (none_there x has)
passes {X} p (y ∷ ys) x has is = go (p y) refl (Contains-append_cases (y ∷ []) ys x has) (λ rest. passes p ys x rest is)
  where
    go : (b : Bool) → p y ≡ b → Contains (y ∷ []) x ⊎ Contains ys x → (Contains ys x → Contains (filter p ys) x) → Contains (filter p (y ∷ ys)) x
    go true at (inl first) rest =
        subst (λ (b : Bool). Contains (if b then y ∷ filter p ys else filter p ys) x) (sym at) (subst (Contains (y ∷ filter p ys)) (one_there y x first) (here y (filter p ys)))
    go true at (inr others) rest =
        subst (λ (b : Bool). Contains (if b then y ∷ filter p ys else filter p ys) x) (sym at) (there y (filter p ys) x (rest others))
    go false at (inl first) rest = absurd (true≢false (sym is ∙ ap p (sym (one_there y x first)) ∙ at))
    go false at (inr others) rest = subst (λ (b : Bool). Contains (if b then y ∷ filter p ys else filter p ys) x) (sym at) (rest others)

-- ---- labels

module _ (holds held : ℕ → Bool) where
  literal_true : (b : Bool) (p : ℕ) → (truth held (literal b p) ≡ true) ↔ (held p ≡ b)
  literal_true true p = (λ is. is, λ is. is)
  literal_true false p = (λ is. denied (held p) is, λ is. ap not is)
    where
      denied : (b : Bool) → not b ≡ true → b ≡ false
      denied true is = absurd (true≢false (sym is))
      denied false is = refl

  -- what holds of some propositions as a letter says
  abbrev HoldsAlike : List ℕ → Type 0
  HoldsAlike ps = (p : ℕ) → Contains ps p → held p ≡ holds p

  both_true : (x y : Bool) → x ≡ true → y ≡ true → (x && y) ≡ true
  both_true x y e f = ap₂ (λ (x y : Bool). x && y) e f

  with_true : (label : LabelTree) (ps : List ℕ) → (truth held (with_literals holds label ps) ≡ true) ↔ ((truth held label ≡ true) × HoldsAlike ps)
  with_true label [] = (λ is. (is, λ p has. absurd (none_there p has)), λ both. both.0)
  with_true label (p ∷ ps) =
      let rest = with_true (conjunction label (literal (holds p) p)) ps in (
        λ is.
            (let all = rest.0 is in
            let parts = and_parts (truth held label) (truth held (literal (holds p) p)) all.0 in (
              parts.0,
              λ q has. elim (Contains-append_cases (p ∷ []) ps q has) [
                | inl first ↦ subst (λ (n : ℕ). held n ≡ holds n) (one_there p q first) ((literal_true (holds p) p).0 parts.1)
                | inr others ↦ all.1 q others
              ],
            )),
        λ both. rest.1 (
          both_true (truth held label) (truth held (literal (holds p) p)) both.0 ((literal_true (holds p) p).1 (both.1 p (here p ps))),
          λ q has. both.1 q (there p ps q has),
        ),
      )

  letter_true : (ps : List ℕ) → (truth held (letter_label holds ps) ≡ true) ↔ HoldsAlike ps
  letter_true [] = (λ is p has. absurd (none_there p has), λ alike. refl)
  letter_true (p ∷ ps) =
      let whole = with_true (literal (holds p) p) ps in (
        λ is q has.
            (let all = whole.0 is in
            elim (Contains-append_cases (p ∷ []) ps q has) [
              | inl first ↦ subst (λ (n : ℕ). held n ≡ holds n) (one_there p q first) ((literal_true (holds p) p).0 all.0)
              | inr others ↦ all.1 q others
            ]),
        λ alike. whole.1 ((literal_true (holds p) p).1 (alike p (here p ps)), λ q has. alike q (there p ps q has)),
      )

-- ---- the propositions of the environment

in_range : (n k : ℕ) → k < n → Contains (range_with_len 0 n) k
in_range n k below = (k, omega (arith, below, length-range_with_len 0 n), let at = get_or-range_with_len 0 n k k below in omega (arith, at))

of_range : (n k : ℕ) → Contains (range_with_len 0 n) k → k < n
of_range n k has =
    let inside : has.0 < n = omega (arith, has.1, length-range_with_len 0 n) in
    let at = get_or-range_with_len 0 n has.0 k inside in omega (arith, at, has.2, inside)

-- the inputs are the propositions that the system does not control
input_is : (a : Description) (controlled : List ℕ) (p : ℕ) → Contains (inputs_of a controlled) p → (p < length a.propositions) × ¬ Contains controlled p
input_is a controlled p has =
    let passed = has_passed (λ p. not (listed controlled p)) (range_with_len 0 (length a.propositions)) p has in
    (of_range (length a.propositions) p passed.0, λ listed_there. denied (listed controlled p) passed.1 (is_listed controlled p listed_there))
  where
    denied : (b : Bool) → not b ≡ true → b ≡ true → ⊥
    denied true is also = true≢false (sym is)
    denied false is also = true≢false (sym also)

is_input : (a : Description) (controlled : List ℕ) (p : ℕ) → p < length a.propositions → ¬ Contains controlled p → Contains (inputs_of a controlled) p
is_input a controlled p below free =
    passes (λ p. not (listed controlled p)) (range_with_len 0 (length a.propositions)) p (in_range (length a.propositions) p below) (unlisted (listed controlled p) refl)
  where
    unlisted : (b : Bool) → listed controlled p ≡ b → not b ≡ true
    unlisted true is = absurd (free (has_listed controlled p is))
    unlisted false is = refl

pub letters_are_true_where_given : LettersAreTrueWhereGiven
letters_are_true_where_given a controlled letter held strings =
    let label : LabelTree = letter_label (holds_in letter) (inputs_of a controlled) in
    let true_there = letter_true (holds_in letter) (by_number a held) (inputs_of a controlled) in (
      truth (by_number a held) label,
      label_said held a.propositions strings formula label,
      (
        λ is p below free. true_there.0 is p (is_input a controlled p below free),
        λ gives. true_there.1 (λ p has. (let input = input_is a controlled p has in gives p input.0 input.1)),
      ),
    )
