-- Counter-strategies for a specification: automata that are judged for themselves, whoever made them. Such an automaton
-- is a strategy of the environment: in each state it has a letter, and goes on at each answer of the system, as long as
-- the specification does. The system controls the propositions with some names, and the environment all others.
use Rattle.std.specs.Prelude.{◌≡◌, ℕ, Bool, List, [], Contains, slice_index_or}
use Rattle.omega_hoa_automaton.specs.Automaton.{Description}
use Rattle.omega_lang_intersection.specs.Intersection.{AcceptBoth, HaveStrings, IsExample}
use Rattle.omega_lang_runs.specs.Lasso.{IsStart, IsStep, Leads}
use Rattle.omega_lang_runs.specs.Words.{CanBeTaken}
use Rattle.omega_text.specs.NamedWords.{NamedWord}
use Rattle.omega_lang_word_laws.specs.NamedWords.{AcceptsNamed}
use Rattle.omega_synth_check.specs.declared.counter_judgement.CounterJudgement.{CounterJudgement}
use Rattle.omega_synth_check.specs.declared.counter_judgement.CounterJudgement.TheVariants.{Beats, Common}
use Rattle.omega_synth_check.specs.declared.counter_judgement.CounterJudgement.TheVariants.{NoLetter, NoStart}
use Rattle.omega_synth_check.specs.declared.counter_judgement.LetterlessPair.{LetterlessPair}

-- a letter over names says of each name whether the proposition of that name holds
abbrev pub NamedLetter : Type 0
NamedLetter = List ℕ → Bool

-- an automaton goes from a state to another at a letter: by an edge that can be taken there
pub record GoesAt (a : Description) (letter : NamedLetter) (from to : ℕ) : Type 0 where
  pub number : ℕ
  pub step : IsStep a from number to
  pub taken : CanBeTaken a number (λ p. letter (slice_index_or a.propositions p []))

-- it goes on from a state at a letter
abbrev pub GoesOn : Description → NamedLetter → ℕ → Type 0
GoesOn a letter from = (to : ℕ) × GoesAt a letter from to

-- two automata come to these states by the same letters
pub data ComeTo (one other : Description) : ℕ → ℕ → Type 0 where
  begin : (s t : ℕ) → IsStart one s → IsStart other t → ComeTo one other s t
  go_on : (letter : NamedLetter) (s t to also : ℕ) → ComeTo one other s t → GoesAt one letter s to
      → GoesAt other letter t also → ComeTo one other to also

-- at a letter the environment gave this one: they say the same of each name that the system does not control
abbrev pub IsGiven : (controlled : List (List ℕ)) → (given letter : NamedLetter) → Type 0
IsGiven controlled given letter =
    (name : List ℕ) → ¬ Contains controlled name → given name ≡ letter name

-- in these states of both the environment has a letter: whatever the system answers, the strategy goes on if the
-- specification does
pub record HasLetter (specification strategy : Description) (controlled : List (List ℕ))
    (s t : ℕ) : Type 0 where
  pub given : NamedLetter
  pub follows : (letter : NamedLetter) → IsGiven controlled given letter
      → GoesOn specification letter s → GoesOn strategy letter t

-- the strategy has a start if the specification has one
abbrev pub BeginsBeside : Description → Description → Type 0
BeginsBeside specification strategy =
    (start : ℕ) → IsStart specification start → (own : ℕ) × IsStart strategy own

-- so it has a letter in each two states to which both come
abbrev pub FollowsAll : Description → Description → List (List ℕ) → Type 0
FollowsAll specification strategy controlled =
    (s t : ℕ) → ComeTo specification strategy s t → HasLetter specification strategy controlled s t

-- a counter-strategy for a specification begins, has a letter wherever both come, and accepts no word that the
-- specification accepts
pub record IsCounterStrategyFor (specification strategy : Description)
    (controlled : List (List ℕ)) : Type 0 where
  pub begins : BeginsBeside specification strategy
  pub follows : FollowsAll specification strategy controlled
  pub refused : (word : NamedWord) → AcceptsNamed strategy word → ¬ AcceptsNamed specification word

-- both come to the states of the pair, and the environment has no letter there; the stem leads there in the
-- specification
pub record IsLetterless (specification strategy : Description) (controlled : List (List ℕ))
    (pair : LetterlessPair) : Type 0 where
  pub come : ComeTo specification strategy pair.against pair.state
  pub start : ℕ
  pub begins : IsStart specification start
  pub leads : Leads specification start pair.stem pair.against
  pub none : ¬ HasLetter specification strategy controlled pair.against pair.state

-- a judgement is right: `Beats` for a counter-strategy, and any other says why it is none. A start that is missing
-- comes before a letter that is missing, and that before a common word
abbrev pub IsCounterJudgement : (specification strategy : Description)
    → (controlled : List (List ℕ)) → CounterJudgement → Type 0
IsCounterJudgement specification strategy controlled Beats =
    IsCounterStrategyFor specification strategy controlled
IsCounterJudgement specification strategy controlled NoStart =
    ((start : ℕ) × IsStart specification start) × ((start : ℕ) → ¬ IsStart strategy start)
IsCounterJudgement specification strategy controlled (NoLetter pair) =
    BeginsBeside specification strategy × IsLetterless specification strategy controlled pair
IsCounterJudgement specification strategy controlled (Common example) =
    BeginsBeside specification strategy × FollowsAll specification strategy controlled
    × IsExample strategy (HaveStrings strategy specification) (AcceptBoth strategy specification) example
