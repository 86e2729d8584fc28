-- The edges and the questions that a player's choices in the game of rounds name, as lists.
use Rattle.std.proofs.Common.{◌≡◌, ◌↔◌, ℕ, zero, suc, ◌+◌, ◌-◌, ◌<◌, ◌≤◌, inl, inr, Bool, true, false, cond, eqb, ltb, ◌||◌, List, [], ◌∷◌, ◌++◌, length, map, get_or, Contains, Option, Some, None, slice_get, sym, ap, refl, ◌∙◌, subst, arith}
use Rattle.std.specs.Prelude.{filter}
use Rattle.std.specs.List.{flat_map, list_any, range_with_len}
use Rattle.std.proofs.lemmas.Bool.{cases_Bool, cases_lt, cond-false, cond-true, eq-eqb, eqb-true, false≢true, lt-ltb, ltb-true, or_cases, or_left, or_right}
use Rattle.std.proofs.lemmas.List.FromFn.{get_or-map-range_with_len, length-map-range_with_len}
use Rattle.std.proofs.lemmas.List.Elements.{Contains-append_left, Contains-append_right}
use Rattle.std.proofs.lemmas.Option.{get_or_from_slice_get, slice_get-get_or, slice_get_within}
use Rattle.omega_game_values.specs.Winning.{Chooses, choice_at}
use Rattle.omega_synth_rounds.specs.Extracting.{AreChosenAnswers, AreChosenQuestions, IsAnswerAt, IsChosenAnswer, IsChosenQuestion, IsKeptAnswer}
use Rattle.omega_synth_rounds.specs.Rounds.{answers_of, asked_in}
use Rattle.omega_synth_rounds.specs.RoundsGame.{edge_place, question_place, sink_place}
use Rattle.omega_synth_rounds.specs.declared.rounds.Rounds.{Rounds}
use Rattle.omega_synth_rounds.proofs.Placing.{in_range, range_has}

-- members of a filter, and of lists joined end to end
pub filter_has : (p : ℕ → Bool) (xs : List ℕ) (x : ℕ) → Contains xs x → p x ≡ true → Contains (filter p xs) x
filter_has p [] x has is = absurd (omega (arith, has.1))
filter_has p (y ∷ ys) x (zero, below, here) is =
    subst (λ (list : List ℕ). Contains list x) (sym (cond-true (p y) (y ∷ filter p ys) (filter p ys) (ap p here ∙ is))) (0, omega arith, here)
filter_has p (y ∷ ys) x (suc k, below, here) is =
    let rest = filter_has p ys x (k, omega arith, here) is in
    elim (cases_Bool (p y)) [
      | inl kept ↦ subst (λ (list : List ℕ). Contains list x) (sym (cond-true (p y) (y ∷ filter p ys) (filter p ys) kept)) (suc rest.0, omega (arith, rest.1), rest.2)
      | inr dropped ↦ subst (λ (list : List ℕ). Contains list x) (sym (cond-false (p y) (y ∷ filter p ys) (filter p ys) dropped)) rest
    ]

pub filter_from : (p : ℕ → Bool) (xs : List ℕ) (x : ℕ) → Contains (filter p xs) x → Contains xs x × (p x ≡ true)
filter_from p [] x has = absurd (omega (arith, has.1))
filter_from p (y ∷ ys) x has = elim (cases_Bool (p y)) [
  | inl kept ↦ first kept (subst (λ (list : List ℕ). Contains list x) (cond-true (p y) (y ∷ filter p ys) (filter p ys) kept) has) (λ later. filter_from p ys x later)
  | inr dropped ↦
      let rest = filter_from p ys x (subst (λ (list : List ℕ). Contains list x) (cond-false (p y) (y ∷ filter p ys) (filter p ys) dropped) has) in
      ((suc rest.0.0, omega (arith, rest.0.1), rest.0.2), rest.1)
]
  where
    first : p y ≡ true → Contains (y ∷ filter p ys) x → (Contains (filter p ys) x → Contains ys x × (p x ≡ true)) → Contains (y ∷ ys) x × (p x ≡ true)
    first kept (zero, below, here) later = ((0, omega arith, here), ap p (sym here) ∙ kept)
    first kept (suc k, below, here) later =
        let rest = later (k, omega arith, here) in ((suc rest.0.0, omega (arith, rest.0.1), rest.0.2), rest.1)

flat_has : (f : ℕ → List ℕ) (xs : List ℕ) (x y : ℕ) → Contains xs x → Contains (f x) y → Contains (flat_map f xs) y
flat_has f [] x y has is = absurd (omega (arith, has.1))
flat_has f (z ∷ zs) x y (zero, below, here) is =
    Contains-append_left (f z) (flat_map f zs) y (subst (λ (n : ℕ). Contains (f n) y) (sym here) is)
flat_has f (z ∷ zs) x y (suc k, below, here) is =
    Contains-append_right (f z) (flat_map f zs) y (flat_has f zs x y (k, omega arith, here) is)

split_contains : {Q : Type 0} (front back : List ℕ) (y : ℕ) → Contains (front ++ back) y → (Contains front y → Q) → (Contains back y → Q) → Q
split_contains [] back y both left right = right both
split_contains (x ∷ front) back y (zero, below, here) left right = left (0, omega arith, here)
split_contains (x ∷ front) back y (suc k, below, here) left right =
    split_contains front back y (k, omega arith, here) (λ there. left (suc there.0, omega (arith, there.1), there.2)) right

flat_from : (f : ℕ → List ℕ) (xs : List ℕ) (y : ℕ) → Contains (flat_map f xs) y → (x : ℕ) × Contains xs x × Contains (f x) y
flat_from f [] y has = absurd (omega (arith, has.1))
flat_from f (x ∷ xs) y has =
    split_contains (f x) (flat_map f xs) y has (λ here. (x, (0, omega arith, refl), here))
    (λ later. (let rest = flat_from f xs y later in (rest.0, (suc rest.1.0, omega (arith, rest.1.1), rest.1.2), rest.2)))

pub any_has : (p : ℕ → Bool) (xs : List ℕ) (x : ℕ) → Contains xs x → p x ≡ true → list_any p xs ≡ true
any_has p [] x has is = absurd (omega (arith, has.1))
any_has p (y ∷ ys) x (zero, below, here) is = or_left (p y) (list_any p ys) (ap p here ∙ is)
any_has p (y ∷ ys) x (suc k, below, here) is = or_right (p y) (list_any p ys) (any_has p ys x (k, omega arith, here) is)

pub any_from : (p : ℕ → Bool) (xs : List ℕ) → list_any p xs ≡ true → (x : ℕ) × Contains xs x × (p x ≡ true)
any_from p [] is = absurd (false≢true is)
any_from p (y ∷ ys) is = elim (or_cases (p y) (list_any p ys) is) [
  | inl here ↦ (y, (0, omega arith, refl), here)
  | inr later ↦ let rest = any_from p ys later in (rest.0, (suc rest.1.0, omega (arith, rest.1.1), rest.1.2), rest.2)
]

-- whether a choice is a place
is_choice : Option ℕ → ℕ → Bool
is_choice (Some w) place = eqb w place
is_choice None place = false

is_chosen : (o : Option ℕ) (place : ℕ) → is_choice o place ≡ true → o ≡ Some place
unfolding is_choice
is_chosen (Some w) place is = ap Some (eqb-true w place is)
is_chosen None place is = absurd (false≢true is)

chosen_is : (o : Option ℕ) (place : ℕ) → o ≡ Some place → is_choice o place ≡ true
unfolding is_choice
chosen_is (Some w) place is = eq-eqb w place (inner is)
  where
    inner : Some w ≡ Some place → w ≡ place
    inner e = cc
chosen_is None place is = absurd (inner is)
  where
    inner : ◌≡◌ {A = Option ℕ} None (Some place) → ⊥
    inner e = cc

module _ (rounds : Rounds) (choices : List (Option ℕ)) (entries : (v w : ℕ) → choice_at choices v ≡ Some w → Chooses choices v w) where
  chooses : (v w : ℕ) → is_choice (choice_at choices v) w ≡ true → Chooses choices v w
  chooses v w is = entries v w (is_chosen (choice_at choices v) w is)

  chosen : (v w : ℕ) → Chooses choices v w → is_choice (choice_at choices v) w ≡ true
  chosen v w it = chosen_is (choice_at choices v) w (get_or_from_slice_get choices v (Some w) None it)

  -- the edges that player 0 chooses
  answered : ℕ → Bool
  answered number =
      list_any (λ question. is_choice (choice_at choices (question_place rounds question)) (edge_place rounds number)) (range_with_len 0 (length rounds.questions))

  pub kept_answers : List ℕ
  kept_answers = filter answered (range_with_len 0 (length rounds.edges))

  pub answers_chosen : AreChosenAnswers rounds choices kept_answers
  unfolding answered kept_answers
  answers_chosen number = (
    λ has.
        (let found = filter_from answered (range_with_len 0 (length rounds.edges)) number has in
        let question = any_from (λ q. is_choice (choice_at choices (question_place rounds q)) (edge_place rounds number)) (range_with_len 0 (length rounds.questions)) found.1 in
        let number_in = in_range 0 (length rounds.edges) number found.0 in
        let question_in = in_range 0 (length rounds.questions) question.0 question.1 in (
          question.0,
          record {
            asked = omega (arith, question_in.1);
            below = omega (arith, number_in.1);
            chosen = chooses (question_place rounds question.0) (edge_place rounds number) question.2;
          },
        )),
    λ it.
        filter_has answered (range_with_len 0 (length rounds.edges)) number (range_has 0 (length rounds.edges) number (omega arith) (omega (arith, it.1.below)))
        (any_has (λ q. is_choice (choice_at choices (question_place rounds q)) (edge_place rounds number)) (range_with_len 0 (length rounds.questions)) it.0
        (range_has 0 (length rounds.questions) it.0 (omega arith) (omega (arith, it.1.asked)))
        (chosen (question_place rounds it.0) (edge_place rounds number) it.1.chosen)),
  )

  -- the questions that player 1 chooses
  named : Option ℕ → ℕ
  named (Some w) = w - question_place rounds 0
  named None = 0

  pub asked_by : List ℕ
  asked_by = map (λ state. named (choice_at choices state)) (range_with_len 0 (length rounds.states))

  asks : ℕ → ℕ → Bool
  asks state question = is_choice (choice_at choices state) (question_place rounds question)

  kept_in : ℕ → ℕ → List ℕ
  kept_in state question = cond (asks state question) (answers_of rounds question) []

  pub kept_questions : List ℕ
  kept_questions = flat_map (λ state. flat_map (λ question. kept_in state question) (range_with_len 0 (length rounds.questions))) (range_with_len 0 (length rounds.states))

  question_is : (state question : ℕ) → IsChosenQuestion rounds choices state question → asked_in asked_by state ≡ question
  unfolding asked_by named
  question_is state question it =
      get_or-map-range_with_len (λ s. named (choice_at choices s)) 0 (length rounds.states) state state 0 it.below (omega arith)
      ∙ (ap named (get_or_from_slice_get choices state (Some (question_place rounds question)) None it.chosen) ∙ omega arith)

  pub questions_chosen : AreChosenQuestions rounds choices kept_questions asked_by
  unfolding asked_by kept_questions kept_in asks
  questions_chosen = record {
    entries = length-map-range_with_len (λ state. named (choice_at choices state)) 0 (length rounds.states);
    each = question_is;
    answers = λ number. (
      λ has.
          (let state = flat_from (λ s. flat_map (λ q. kept_in s q) (range_with_len 0 (length rounds.questions))) (range_with_len 0 (length rounds.states)) number has in
          let question = flat_from (λ q. kept_in state.0 q) (range_with_len 0 (length rounds.questions)) number state.2 in
          let state_in = in_range 0 (length rounds.states) state.0 state.1 in
          let question_in = in_range 0 (length rounds.questions) question.0 question.1 in
          elim (cases_Bool (asks state.0 question.0)) [
            | inl asked ↦ record {
              state = state.0;
              question = question.0;
              chosen = record {
                below = omega (arith, state_in.1);
                asked = omega (arith, question_in.1);
                chosen = chooses state.0 (question_place rounds question.0) asked;
              };
              answers = subst (λ (list : List ℕ). Contains list number) (cond-true (asks state.0 question.0) (answers_of rounds question.0) [] asked) question.2;
            }
            | inr other ↦ absurd (
                let none : Contains [] number = subst (λ (list : List ℕ). Contains list number) (cond-false (asks state.0 question.0) (answers_of rounds question.0) [] other) question.2 in
                omega (arith, none.1)
                )
          ]),
      λ it.
          flat_has (λ s. flat_map (λ q. kept_in s q) (range_with_len 0 (length rounds.questions))) (range_with_len 0 (length rounds.states)) it.state number
          (range_has 0 (length rounds.states) it.state (omega arith) (omega (arith, it.chosen.below)))
          (flat_has (λ q. kept_in it.state q) (range_with_len 0 (length rounds.questions)) it.question number
          (range_has 0 (length rounds.questions) it.question (omega arith) (omega (arith, it.chosen.asked)))
          (subst (λ (list : List ℕ). Contains list number)
          (sym (cond-true (asks it.state it.question) (answers_of rounds it.question) [] (chosen it.state (question_place rounds it.question) it.chosen.chosen))) it.answers)),
    );
  }
