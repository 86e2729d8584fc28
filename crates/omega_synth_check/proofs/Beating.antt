-- By a counter-strategy the environment has a strategy that beats the specification: it keeps track of the two states
-- to which both have come, and gives the letter that it has there.
use Rattle.std.proofs.Common.{◌≡◌, ℕ, zero, suc, ◌+◌, ◌<◌, ◌≤◌, ◌⊎◌, inl, inr, Bool, false, if◌then◌else◌, nat_lt, List, [], ◌∷◌, length, get_or, Contains, refl, sym, ap, subst, ◌∙◌, arith}
use Rattle.std.specs.List.{position_or_len}
use Rattle.std.specs.Str.{bytes_eq}
use Rattle.std.proofs.lemmas.Bool.{cases_Bool, cases_lt, le-ltb, lt-ltb}
use Rattle.std.proofs.lemmas.List.Sums.{passes_at_first}
use Rattle.std.proofs.lemmas.Slice.Eq.{bytes_eq-Decides}
use Rattle.omega_hoa_acceptance.specs.Acceptance.{AccTree}
use Rattle.omega_hoa_automaton.specs.Automaton.{Description, IsAutomaton}
use Rattle.omega_hoa_edges.specs.Determinism.{IsDeterministic}
use Rattle.omega_lang_runs.specs.Lasso.{IsStart, IsStep, marks_at}
use Rattle.omega_lang_runs.specs.Runs.{Satisfies}
use Rattle.omega_lang_runs.specs.Words.{IsAccepted}
use Rattle.omega_text.specs.NamedWords.{NamedWord}
use Rattle.omega_lang_word_laws.specs.NamedWords.{AcceptsNamed, part_of}
use Rattle.omega_lang_product.specs.Pairs.{start_state}
use Rattle.omega_lang_word_laws.proofs.meeting.Meeting.{one_start}
use Rattle.omega_lang_word_laws.proofs.naming.Named.{accepted_same, allowed_same, own_place}
use Rattle.omega_lang_word_laws.proofs.parting.Apart.{moves_same}
use Rattle.omega_synth_controllers.specs.Strategies.{Environment, is_controlled, joined, so_far, word_against}
use Rattle.omega_synth_controllers.proofs.Letters.{found_listed}
use Rattle.omega_synth_check.specs.CounterJudging.{ComeTo, GoesAt, GoesOn, IsCounterStrategyFor, IsGiven, NamedLetter, begin, go_on}
use Rattle.omega_synth_check.specs.CounterLaws.{AreNumbersOfNames, CounterStrategiesForBeat}
use Rattle.omega_synth_check.specs.Refusing.{AcceptsAll}
use Rattle.omega_synth_check.proofs.Rests.{Lacks, goes_moves, goes_or_lacks, goes_within, lacks_stays, start_within}
use Rattle.omega_synth_check.proofs.Sides.{seen}

-- where a deterministic automaton goes at a letter is one state
pub goes_same : (a : Description) → IsAutomaton a → IsDeterministic a → (letter : NamedLetter) (s one other : ℕ) → s < a.states → GoesAt a letter s one → GoesAt a letter s other
    → one ≡ other
goes_same a automaton deterministic letter s one other below first second =
    (moves_same a automaton s (seen a.propositions letter) one other (marks_at a first.number) (marks_at a second.number) (deterministic.apart s below)
    (goes_moves a automaton letter s one first) (goes_moves a automaton letter s other second)).0

module _ (one own : Description) (controlled : List (List ℕ)) (stated : List ℕ) (automaton : IsAutomaton one) (deterministic : IsDeterministic one)
    (is_own : IsAutomaton own) (all : AcceptsAll own) (numbers : AreNumbersOfNames one stated controlled) (for : IsCounterStrategyFor one own controlled) where
  abbrev names : List (List ℕ)
  names = one.propositions

  abbrev place : List ℕ → ℕ
  place name = position_or_len (bytes_eq name) names

  placed : (p : ℕ) → p < length names → place (get_or names p []) ≡ p
  placed p below = own_place names automaton.unlike p below

  named_there : (name : List ℕ) → place name < length names → get_or names (place name) [] ≡ name
  named_there name below = sym ((bytes_eq-Decides name (get_or names (place name) [])).0 (passes_at_first (bytes_eq name) names [] below))

  -- what the environment gives by numbers, and the whole letter by names
  abbrev given_by : NamedLetter → ℕ → Bool
  given_by given p = given (get_or names p [])

  abbrev whole : NamedLetter → (ℕ → Bool) → NamedLetter
  whole given answer name = if nat_lt (place name) (length names) then joined stated answer (given_by given) (place name) else given name

  whole_named : (given : NamedLetter) (answer : ℕ → Bool) (name : List ℕ) → place name < length names
      → whole given answer name ≡ joined stated answer (given_by given) (place name)
  whole_named given answer name low = ap (λ b. if b then joined stated answer (given_by given) (place name) else given name) (lt-ltb (place name) (length names) low)

  -- the specification sees the letter of the round
  whole_seen : (given : NamedLetter) (answer : ℕ → Bool) (p : ℕ) → p < length names → seen names (whole given answer) p ≡ joined stated answer (given_by given) p
  whole_seen given answer p low =
      let name : List ℕ = get_or names p [] in
      let here : place name ≡ p = placed p low in
      whole_named given answer name (subst (λ (n : ℕ). n < length names) (sym here) low) ∙ ap (joined stated answer (given_by given)) here

  -- and the environment gave what it gives
  pub whole_given : (given : NamedLetter) (answer : ℕ → Bool) → IsGiven controlled given (whole given answer)
  whole_given given answer name free = elim (cases_lt (place name) (length names)) [
    | inl low ↦ elim (cases_Bool (is_controlled stated (place name))) [
      | inl is ↦ absurd (free (subst (Contains controlled) (named_there name low) ((numbers (place name) low).0 (found_listed stated (place name) is))))
      | inr not ↦
          sym (ap given (named_there name low))
          ∙ sym (ap (λ b. if b then answer (place name) else given_by given (place name)) not)
          ∙ sym (whole_named given answer name low)
    ]
    | inr past ↦ sym (ap (λ b. if b then joined stated answer (given_by given) (place name) else given name) (le-ltb (place name) (length names) past))
  ]

  -- the states to which both have come, if the specification has gone on so far
  abbrev Track : Type 0
  Track = ((s : ℕ) × ((t : ℕ) × ComeTo one own s t)) ⊎ Unit {0}

  abbrev letter_of : Track → NamedLetter
  letter_of (inl (s, (t, come))) = (for.follows s t come).given
  letter_of (inr lost) = λ name. false

  abbrev after : (s t : ℕ) (come : ComeTo one own s t) (answer : ℕ → Bool)
      → GoesOn one (whole (for.follows s t come).given answer) s ⊎ Lacks one automaton deterministic (whole (for.follows s t come).given answer) s → Track
  after s t come answer (inl first) =
      let held : NamedLetter = whole (for.follows s t come).given answer in
      let second = (for.follows s t come).follows held (whole_given (for.follows s t come).given answer) first in
      inl (first.0, (second.0, go_on held s t first.0 second.0 come first.1 second.1))
  after s t come answer (inr lacks) = inr tt

  abbrev next : Track → (ℕ → Bool) → Track
  next (inl (s, (t, come))) answer = after s t come answer (goes_or_lacks one automaton deterministic (whole (for.follows s t come).given answer) s)
  next (inr lost) answer = inr tt

  -- a step of the specification in a round
  pub record IsStepped (track : Track) (answer : ℕ → Bool) (t to : ℕ) : Type 0 where
    pub also : ℕ
    pub come : ComeTo one own to also
    pub is : next track answer ≡ inl (to, (also, come))
    pub goes : GoesAt own (whole (letter_of track) answer) t also

  stepped : (s t : ℕ) (come : ComeTo one own s t) (answer : ℕ → Bool) (to : ℕ) → s < one.states → GoesAt one (whole (for.follows s t come).given answer) s to
      → IsStepped (inl (s, (t, come))) answer t to
  stepped s t come answer to below first = go (goes_or_lacks one automaton deterministic held s) refl
    where
      held : NamedLetter
      held = whole (for.follows s t come).given answer

      by_own : (other : ℕ) (goes : GoesAt one held s other) → goes_or_lacks one automaton deterministic held s ≡ inl (other, goes) → other ≡ to
          → IsStepped (inl (s, (t, come))) answer t to
      by_own other goes e same =
          subst (IsStepped (inl (s, (t, come))) answer t) same
          (let second = (for.follows s t come).follows held (whole_given (for.follows s t come).given answer) (other, goes) in
          record {
            also = second.0;
            come = go_on held s t other second.0 come goes second.1;
            is = ap (after s t come answer) e;
            goes = second.1;
          })

      go : (d : GoesOn one held s ⊎ Lacks one automaton deterministic held s) → goes_or_lacks one automaton deterministic held s ≡ d
          → IsStepped (inl (s, (t, come))) answer t to
      go (inl (other, goes)) e = by_own other goes e (goes_same one automaton deterministic held s other to below goes first)
      go (inr lacks) e = absurd (lacks_stays one automaton deterministic held s lacks (to, first))

  -- where both begin
  abbrev BeginsIn : Track → ℕ → Type 0
  BeginsIn track s = (t : ℕ) × (come : ComeTo one own s t) × IsStart own t × (track ≡ inl (s, (t, come)))

  pub record Beginning : Type 0 where
    pub track : Track
    pub begins : (s : ℕ) → IsStart one s → BeginsIn track s

  only : (starts : List (List ℕ)) → length starts ≤ 1 → (x y : List ℕ) → Contains starts x → Contains starts y → x ≡ y
  only [] few x y (k, below, is) there = absurd (omega arith)
  only (z ∷ []) few x y (zero, below, is) (zero, below', is') = sym is ∙ is'
  only (z ∷ []) few x y (zero, below, is) (suc k, below', is') = absurd (omega arith)
  only (z ∷ []) few x y (suc k, below, is) there = absurd (omega arith)
  only (z ∷ w ∷ rest) few x y here there = absurd (omega arith)

  head : (x y : ℕ) → x ∷ [] ≡ y ∷ [] → x ≡ y
  head x y e = cc

  pub beginning : Beginning
  beginning = go one.starts refl
    where
      go : (starts : List (List ℕ)) → one.starts ≡ starts → Beginning
      go [] e = record {
        track = inr tt;
        begins = λ s there. (let none : Contains [] (s ∷ []) = subst (λ (starts : List (List ℕ)). Contains starts (s ∷ [])) e there in absurd (omega (arith, none.1)));
      }
      go (x ∷ rest) e =
          let within : Contains one.starts x = subst (λ (starts : List (List ℕ)). Contains starts x) (sym e) (0, omega arith, refl) in
          let single : x ≡ start_state x ∷ [] = one_start one automaton deterministic.plain x within in
          let first : IsStart one (start_state x) = subst (Contains one.starts) single within in
          let second = for.begins (start_state x) first in
          let track : Track = inl (start_state x, (second.0, begin (start_state x) second.0 first second.1)) in
          record {
            track = track;
            begins = λ s there.
                subst (BeginsIn track) (head (start_state x) s (only one.starts deterministic.one_start (start_state x ∷ []) (s ∷ []) first there))
                (second.0, begin (start_state x) second.0 first second.1, second.1, refl);
          }

  -- after letters of the system, the last first
  abbrev track_after : List (ℕ → Bool) → Track
  track_after [] = beginning.track
  track_after (answer ∷ before) = next (track_after before) answer

  abbrev environment : Environment
  environment before = given_by (letter_of (track_after before))

  module _ (answers : ℕ → ℕ → Bool) (accepted : IsAccepted one (word_against stated environment answers)) where
    abbrev track : ℕ → Track
    track i = track_after (so_far answers i)

    abbrev held : ℕ → NamedLetter
    held i = whole (letter_of (track i)) (answers i)

    pub record IsOn (i : ℕ) : Type 0 where
      pub t : ℕ
      pub come : ComeTo one own (accepted.states i) t
      pub is : track i ≡ inl (accepted.states i, (t, come))
      pub below : accepted.states i < one.states

    -- the specification takes a step at each letter
    first_goes : (i : ℕ) → GoesAt one (held i) (accepted.states i) (accepted.states (suc i))
    first_goes i = record {
      number = accepted.edges i;
      step = (let e : i + 1 ≡ suc i = omega arith in
          subst (λ n. IsStep one (accepted.states i) (accepted.edges i) (accepted.states n)) e (accepted.accepting.run.steps i));
      taken = record {
        edge = (accepted.taken i).edge;
        numbered = (accepted.taken i).numbered;
        allowed = allowed_same one automaton (λ j. word_against stated environment answers i) (λ j. seen names (held i))
            (λ j p low. sym (whole_seen (letter_of (track i)) (answers i) p low)) (accepted.edges i) 0 (accepted.taken i).edge (accepted.taken i).numbered
            (accepted.taken i).allowed;
      };
    }

    on_step : (i : ℕ) (on : IsOn i) → IsStepped (track i) (answers i) on.t (accepted.states (suc i))
    on_step i on =
        subst (λ (x : Track). IsStepped x (answers i) on.t (accepted.states (suc i))) (sym on.is)
        (stepped (accepted.states i) on.t on.come (answers i) (accepted.states (suc i)) on.below
        (subst (λ (x : Track). GoesAt one (whole (letter_of x) (answers i)) (accepted.states i) (accepted.states (suc i))) on.is (first_goes i)))

    on_at : (i : ℕ) → IsOn i
    on_at zero =
        let begun = beginning.begins (accepted.states 0) accepted.accepting.run.begins in
        record {
          t = begun.0;
          come = begun.1;
          is = begun.3;
          below = start_within one automaton (accepted.states 0) accepted.accepting.run.begins;
        }
    on_at (suc i) =
        let on : IsOn i = on_at i in
        let s : IsStepped (track i) (answers i) on.t (accepted.states (suc i)) = on_step i on in
        record {
          t = s.also;
          come = s.come;
          is = s.is;
          below = goes_within one automaton (held i) (accepted.states i) (accepted.states (suc i)) (first_goes i);
        }

    -- so the counter-strategy accepts the word, by names
    abbrev word : NamedWord
    word i = held i

    second_goes : (i : ℕ) → GoesAt own (held i) (on_at i).t (on_at (suc i)).t
    unfolding on_at on_step
    second_goes i = (on_step i (on_at i)).goes

    own_accepts : AcceptsNamed own word
    unfolding on_at beginning
    own_accepts = record {
      states = λ i. (on_at i).t;
      edges = λ i. (second_goes i).number;
      accepting = record {
        run = record {
          begins = (beginning.begins (accepted.states 0) accepted.accepting.run.begins).2;
          steps = λ i. (let e : suc i ≡ i + 1 = omega arith in
              subst (λ n. IsStep own (on_at i).t (second_goes i).number (on_at n).t) e (second_goes i).step);
        };
        accepted = subst (λ (formula : AccTree). Satisfies (λ i. marks_at own (second_goes i).number) formula) (sym all.1) refl;
      };
      taken = λ i. (second_goes i).taken;
    }

    one_accepts : AcceptsNamed one word
    one_accepts =
        accepted_same one automaton (word_against stated environment answers) (part_of names word)
        (λ i p low. sym (whole_seen (letter_of (track i)) (answers i) p low)) accepted

    pub never_accepted : ⊥
    never_accepted = for.refused word own_accepts one_accepts

pub counter_strategies_for_beat : CounterStrategiesForBeat
counter_strategies_for_beat specification strategy controlled stated automaton deterministic is_strategy all numbers for = (
  environment specification strategy controlled stated automaton deterministic is_strategy all numbers for,
  λ answers accepted.
      never_accepted specification strategy controlled stated automaton deterministic is_strategy all numbers for answers accepted,
)
