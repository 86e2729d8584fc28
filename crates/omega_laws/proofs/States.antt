-- The states of a union, by their numbers.
use Rattle.std.proofs.Common.{◌≡◌, ℕ, ◌+◌, ◌<◌, ◌==◌, Bool, true, false, if◌then◌else◌, List, [], ◌∷◌, ◌++◌, Contains, append-nil, refl, sym, ap, ◌∙◌, arith, eqb-true, eq-eqb}
use Rattle.std.proofs.lemmas.List.Elements.{All-contains}
use Rattle.omega_hoa_automaton.specs.Automaton.{Description, IsAutomaton, IsState}
use Rattle.omega_hoa_automaton.specs.declared.state.State.{State}
use Rattle.omega_hoa_edges.specs.AutomatonLabels.{state_among, state_at, undefined}
use Rattle.omega_lang_product.proofs.Membership.{Contains-here, Contains-there}
use Rattle.omega_lang_union.specs.Parts.{Part, state_in, states_in}
use Rattle.omega_lang_union.specs.Union.{first_part, second_part, united}
use Rattle.omega_lang_union.specs.declared.sharing.Sharing.{Sharing}
use Rattle.omega_lang_word_laws.proofs.meeting.Lists.{map_contains}
use Rattle.omega_lang_word_laws.proofs.meeting.Marks.{same_truth}

-- numbers that differ
unlike : (m n : ℕ) → (m ≡ n → ⊥) → (m == n) ≡ false
unlike m n differ = go (m == n) refl
  where
    go : (b : Bool) → (m == n) ≡ b → b ≡ false
    go true e = absurd (differ (eqb-true m n e))
    go false e = refl

-- no state of a list has a number
abbrev HaveOthers : List State → ℕ → Type 0
HaveOthers states number = (state : State) → Contains states state → (state.number == number) ≡ false

none_among : (states : List State) (number : ℕ) → HaveOthers states number → state_among states number ≡ undefined number
none_among [] number others = refl
none_among (x ∷ xs) number others =
    ap (λ (b : Bool). if b then x else state_among xs number) (others x (Contains-here x xs))
    ∙ none_among xs number (λ state has. others state (Contains-there x state xs has))

passed_over : (states more : List State) (number : ℕ) → HaveOthers states number → state_among (states ++ more) number ≡ state_among more number
passed_over [] more number others = refl
passed_over (x ∷ xs) more number others =
    ap (λ (b : Bool). if b then x else state_among (xs ++ more) number) (others x (Contains-here x xs))
    ∙ passed_over xs more number (λ state has. others state (Contains-there x state xs has))

same_test : (before m n : ℕ) → ((before + m) == (before + n)) ≡ (m == n)
same_test before m n =
    same_truth ((before + m) == (before + n)) (m == n)
    (λ e. eq-eqb m n (let same = eqb-true (before + m) (before + n) e in omega (arith, same)))
    (λ e. eq-eqb (before + m) (before + n) (let same = eqb-true m n e in omega (arith, same)))

-- a state of a part
part_among : (part : Part) (states more : List State) (number : ℕ) → HaveOthers more (part.states + number)
    → state_among (states_in part states ++ more) (part.states + number) ≡ state_in part (state_among states number)
part_among part [] more number others = none_among more (part.states + number) others
part_among part (x ∷ xs) more number others =
    ap (λ (b : Bool). if b then state_in part x else state_among (states_in part xs ++ more) (part.states + number)) (same_test part.states x.number number)
    ∙ (ap (λ (rest : State). if x.number == number then state_in part x else rest) (part_among part xs more number others)
    ∙ chosen (x.number == number))
  where
    chosen : (b : Bool) → (if b then state_in part x else state_in part (state_among xs number)) ≡ state_in part (if b then x else state_among xs number)
    chosen true = refl
    chosen false = refl

module _ (sharing : Sharing) (one other : Description) where
  abbrev first : Part
  first = first_part sharing one other

  abbrev second : Part
  second = second_part sharing one other

  -- a state of the first automaton
  pub first_state : (number : ℕ) → number < one.states → state_at (united sharing one other) (first.states + number) ≡ state_in first (state_at one number)
  first_state number below =
      part_among first one.defined (states_in second other.defined) number
      (λ state has.
      (let from = map_contains (state_in second) other.defined state has in
      unlike state.number (0 + number)
      (λ same. (let is : one.states + from.0.number ≡ state.number = ap (λ (s : State). s.number) from.2 in absurd (omega (arith, is, same, below))))))

  -- a state of the second automaton
  pub second_state : IsAutomaton one → (number : ℕ) → state_at (united sharing one other) (second.states + number) ≡ state_in second (state_at other number)
  second_state automaton number =
      passed_over (states_in first one.defined) (states_in second other.defined) (one.states + number)
      (λ state has.
      (let from = map_contains (state_in first) one.defined state has in
      let kept : IsState one from.0 = All-contains (IsState one) one.defined from.0 automaton.states from.1 in
      unlike state.number (one.states + number)
      (λ same. (let is : 0 + from.0.number ≡ state.number = ap (λ (s : State). s.number) from.2 in let low : from.0.number < one.states = kept.number in absurd (omega (arith, is, same, low))))))
      ∙ (ap (λ (states : List State). state_among states (one.states + number)) (sym (append-nil (states_in second other.defined)))
      ∙ part_among second other.defined [] number (λ state has. absurd (empty state has)))
    where
      empty : (state : State) → Contains [] state → ⊥
      empty state has = absurd (omega (arith, has.1))
