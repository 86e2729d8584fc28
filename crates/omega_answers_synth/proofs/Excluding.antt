-- A controller for a specification and a strategy of the environment that beats the specification, played against each
-- other over the names of propositions, make a word that the specification accepts and does not.
use Rattle.std.proofs.Common.{◌≡◌, ◌↔◌, ℕ, zero, suc, ◌<◌, ◌≤◌, nat_lt, Bool, true, false, if◌then◌else◌, inl, inr, List, [], ◌∷◌, length, Contains, Some, refl, sym, ap, subst, ◌∙◌, true≢false}
use Rattle.std.specs.Prelude.{slice_index_or}
use Rattle.std.specs.List.{position_or_len}
use Rattle.std.specs.Str.{bytes_eq}
use Rattle.std.proofs.lemmas.Bool.{cases_Bool, cases_lt, le-ltb, lt-ltb}
use Rattle.std.proofs.lemmas.List.Sums.{passes_at_first}
use Rattle.std.proofs.lemmas.Option.{slice_get-get_or}
use Rattle.std.proofs.lemmas.Slice.Eq.{bytes_eq-Decides}
use Rattle.omega_hoa_automaton.specs.Automaton.{Description, IsAutomaton, has_repeat}
use Rattle.omega_hoa_automaton.specs.Laws.{MeaningsAreAutomata}
use Rattle.omega_hoa_edges.specs.Determinism.{IsDeterministic}
use Rattle.omega_lang_runs.specs.Words.{CanBeTaken, IsAccepted}
use Rattle.omega_text.specs.NamedWords.{NamedWord}
use Rattle.omega_lang_word_laws.specs.NamedWords.{AcceptsNamed, part_of}
use Rattle.omega_lang_word_laws.proofs.naming.Named.{accepted_same, own_place}
use Rattle.omega_synth_controllers.specs.Controllable.{IsControlled, IsStated, has_item}
use Rattle.omega_synth_controllers.specs.Laws.{CounterStrategiesBeat}
use Rattle.omega_synth_controllers.specs.Strategies.{Beats, Environment, System, is_controlled, joined, so_far, word_against, word_of}
use Rattle.omega_synth_controllers.proofs.Letters.{found_listed, listed_found}
use Rattle.omega_synth_check.specs.CounterJudging.{IsCounterJudgement, IsCounterStrategyFor}
use Rattle.omega_synth_check.specs.CounterLaws.{CounterJudgementsAreExact, CounterStrategiesForBeat}
use Rattle.omega_synth_check.specs.Judging.{IsControllerFor, IsJudgement}
use Rattle.omega_synth_check.specs.Laws.{ControllersRealizeSpecifications, IsNamedOf, JudgementsAreExact}
use Rattle.omega_synth_check.specs.Refusing.{AcceptsAll}
use Rattle.omega_hoa.specs.Laws.{AutomataAreOne}
use Rattle.omega_io.specs.declared.exit.Exit.{Exit}
use Rattle.omega_answers_synth.specs.Decide.{IsVerdict}
use Rattle.omega_synth_controllers.specs.Controllers.{HasCounterStrategy}
use Rattle.omega_answers_synth.specs.Laws.{ControllersExcludeStrategies, ControllersForExcludeCounterStrategies, YesExcludesUnrealizable, YesExcludesYes}
use Rattle.omega_answers_synth.specs.Parting.{AreAlike, AreControlledAlike, AreSystemNames}
use Rattle.omega_answers_synth.proofs.ControllerStated.{controlled_one}
use Rattle.omega_answers_synth.proofs.Exact.{done_beats, done_controls}
use Rattle.omega_answers_synth.proofs.Named.{named_numbers}

-- tests that agree are one
same_test : (ones others : List ℕ) (p q : ℕ) → Contains ones p ↔ Contains others q → is_controlled ones p ≡ is_controlled others q
same_test ones others p q both = elim (cases_Bool (is_controlled ones p)) [
  | inl is ↦ is ∙ sym (listed_found others q (both.0 (found_listed ones p is)))
  | inr not ↦ elim (cases_Bool (is_controlled others q)) [
    | inl is ↦ absurd (true≢false (sym (listed_found ones p (both.1 (found_listed others q is))) ∙ not))
    | inr other ↦ not ∙ sym other
  ]
]

-- a play over the names of two automata, the one of the environment's and the other of the system's
module _ (ones others : List (List ℕ)) (stated controlled : List ℕ) (environment : Environment) (system : System) where
  -- the number of a name in each, or the count of names
  abbrev one_place : List ℕ → ℕ
  one_place name = position_or_len (bytes_eq name) ones

  abbrev other_place : List ℕ → ℕ
  other_place name = position_or_len (bytes_eq name) others

  -- a letter by the numbers of the one, and by those of the other
  abbrev to_others : (ℕ → Bool) → ℕ → Bool
  to_others letter p = letter (one_place (slice_index_or others p []))

  abbrev to_ones : (ℕ → Bool) → ℕ → Bool
  to_ones letter q = letter (other_place (slice_index_or ones q []))

  -- the system's letters by the numbers of the one, and the environment's by those of the other, the last first
  abbrev play : ℕ → List (ℕ → Bool) × List (ℕ → Bool)
  play zero = ([], [])
  play (suc i) = (
    to_ones (system (to_others (environment (play i).0) ∷ (play i).1)) ∷ (play i).0,
    to_others (environment (play i).0) ∷ (play i).1,
  )

  -- what the environment gives, and what the system answers
  abbrev gives : ℕ → ℕ → Bool
  gives i = environment (play i).0

  abbrev given : ℕ → ℕ → Bool
  given i = to_others (gives i)

  abbrev answers : ℕ → ℕ → Bool
  answers i = system (given i ∷ (play i).1)

  abbrev own : ℕ → ℕ → Bool
  own i = to_ones (answers i)

  own_so_far : (i : ℕ) → (play i).0 ≡ so_far own i
  own_so_far zero = refl
  own_so_far (suc i) = ap (λ (before : List (ℕ → Bool)). own i ∷ before) (own_so_far i)

  given_so_far : (i : ℕ) → (play i).1 ≡ so_far given i
  given_so_far zero = refl
  given_so_far (suc i) = ap (λ (before : List (ℕ → Bool)). given i ∷ before) (given_so_far i)

  -- the letters of the rounds, by the numbers of each
  abbrev one_word : ℕ → ℕ → Bool
  one_word i = joined stated (own i) (gives i)

  abbrev other_word : ℕ → ℕ → Bool
  other_word i = joined controlled (answers i) (given i)

  pub one_is : (i : ℕ) → one_word i ≡ word_against stated environment own i
  one_is i = ap (λ (before : List (ℕ → Bool)). joined stated (own i) (environment before)) (own_so_far i)

  pub other_is : (i : ℕ) → other_word i ≡ word_of controlled system given i
  other_is i = ap (λ (before : List (ℕ → Bool)). joined controlled (system (given i ∷ before)) (given i)) (given_so_far i)

  -- and by names
  abbrev word : NamedWord
  word i name = if nat_lt (one_place name) (length ones) then one_word i (one_place name) else other_word i (other_place name)

  in_ones : (i : ℕ) (name : List ℕ) → one_place name < length ones → word i name ≡ one_word i (one_place name)
  in_ones i name below =
      ap (λ b. if b then one_word i (one_place name) else other_word i (other_place name)) (lt-ltb (one_place name) (length ones) below)

  in_others : (i : ℕ) (name : List ℕ) → length ones ≤ one_place name → word i name ≡ other_word i (other_place name)
  in_others i name past =
      ap (λ b. if b then one_word i (one_place name) else other_word i (other_place name)) (le-ltb (one_place name) (length ones) past)

  module _ (ones_unlike : has_repeat bytes_eq ones ≡ false) (others_unlike : has_repeat bytes_eq others ≡ false)
      (alike : AreAlike ones others stated controlled) where
    pub one_part : (i q : ℕ) → q < length ones → part_of ones word i q ≡ one_word i q
    one_part i q below =
        let name : List ℕ = slice_index_or ones q [] in
        let place : one_place name ≡ q = own_place ones ones_unlike q below in
        in_ones i name (subst (λ (n : ℕ). n < length ones) (sym place) below) ∙ ap (one_word i) place

    pub other_part : (i p : ℕ) → p < length others → other_word i p ≡ part_of others word i p
    other_part i p below =
        let name : List ℕ = slice_index_or others p [] in
        let place : other_place name ≡ p = own_place others others_unlike p below in
        elim (cases_lt (one_place name) (length ones)) [
          | inl shared ↦
              let q : ℕ = one_place name in
              let named : slice_index_or ones q [] ≡ name =
              sym ((bytes_eq-Decides name (slice_index_or ones q [])).0 (passes_at_first (bytes_eq name) ones [] shared)) in
              let answer : own i q ≡ answers i p = ap (λ (n : List ℕ). answers i (other_place n)) named ∙ ap (answers i) place in
              let test : is_controlled stated q ≡ is_controlled controlled p =
              same_test stated controlled q p
              (alike q p name (slice_get-get_or ones q [] shared ∙ ap Some named) (slice_get-get_or others p [] below)) in
              sym (in_ones i name shared
              ∙ ap (λ b. if b then own i q else gives i q) test
              ∙ ap (λ b. if is_controlled controlled p then b else gives i q) answer)
          | inr alone ↦ sym (in_others i name alone ∙ ap (other_word i) place)
        ]

-- an automaton is no controller for a specification that a strategy of the environment beats
controllers_are_not_beaten : ControllersRealizeSpecifications → (specification controller : Description) (controlled stated : List ℕ)
    → IsAutomaton specification → IsAutomaton controller → AcceptsAll controller → AreControlledAlike specification controller controlled
    → has_item specification ≡ true → IsControllerFor specification controller controlled → IsControlled specification stated
    → (environment : Environment) → Beats specification stated environment → ⊥
controllers_are_not_beaten realize specification controller controlled stated is_specification is_controller all parted item for own_stated environment beats =
    let ones : List (List ℕ) = specification.propositions in
    let others : List (List ℕ) = controller.propositions in
    let numbers : parted.stated ≡ stated = controlled_one specification parted.stated stated parted.other own_stated in
    let alike : AreAlike ones others stated controlled =
    subst (λ (listed : List ℕ). AreAlike ones others listed controlled) numbers (parted.alike item) in
    let by = realize specification controller controlled is_controller all for in
    let named : NamedWord = word ones others stated controlled environment by.0 in
    let same : IsNamedOf controller (word_of controlled by.0 (given ones others stated controlled environment by.0)) named =
    λ i p below.
    ap (λ (letter : ℕ → Bool). letter p) (sym (other_is ones others stated controlled environment by.0 i))
    ∙ other_part ones others stated controlled environment by.0 is_specification.unlike is_controller.unlike alike i p below in
    let accepted : AcceptsNamed specification named = by.1 (given ones others stated controlled environment by.0) named same in
    let own_accepted : IsAccepted specification (one_word ones others stated controlled environment by.0) =
    accepted_same specification is_specification (part_of ones named) (one_word ones others stated controlled environment by.0)
    (λ i q below. one_part ones others stated controlled environment by.0 is_specification.unlike is_controller.unlike alike i q below) accepted in
    beats (own ones others stated controlled environment by.0) (record {
      states = own_accepted.states;
      edges = own_accepted.edges;
      accepting = own_accepted.accepting;
      taken = λ i. subst (CanBeTaken specification (own_accepted.edges i)) (one_is ones others stated controlled environment by.0 i) (own_accepted.taken i);
    })

pub controllers_for_exclude_counter_strategies : ControllersRealizeSpecifications → CounterStrategiesBeat → ControllersForExcludeCounterStrategies
controllers_for_exclude_counter_strategies realize beat specification controller controlled stated kept letters is_specification deterministic is_controller
    all parted item for own_stated counter =
    let against = beat specification stated kept letters is_specification deterministic counter in
    controllers_are_not_beaten realize specification controller controlled stated is_specification is_controller all parted item for own_stated against.0 against.1

pub controllers_exclude_strategies : ControllersRealizeSpecifications → CounterStrategiesForBeat → ControllersExcludeStrategies
controllers_exclude_strategies realize beat specification controller strategy controlled stated names is_specification deterministic is_controller all parted item
    for own_stated is_strategy all_also system counter =
    let numbered = named_numbers specification strategy names stated is_specification is_strategy system item own_stated in
    let against = beat specification strategy names stated is_specification deterministic is_strategy all_also numbered counter in
    controllers_are_not_beaten realize specification controller controlled stated is_specification is_controller all parted item for own_stated against.0 against.1

pub yes_excludes_yes : AutomataAreOne → MeaningsAreAutomata → JudgementsAreExact → CounterJudgementsAreExact → ControllersExcludeStrategies → YesExcludesYes
yes_excludes_yes one means exact counter_exact excludes decided file input output explain exit other_input other_output also_explain other_exit specification
    answer counter_answer read item told also_told =
    let same : answer.file ≡ specification = one file answer.file specification answer.file_read read in
    let also : counter_answer.file ≡ specification = one file counter_answer.file specification counter_answer.file_read read in
    let controller : Description = answer.input in
    let strategy : Description = counter_answer.input in
    let right = answer.holds in
    let verdict = counter_answer.holds in
    let judged : IsJudgement specification controller right.controlled right.judgement =
    subst (λ (s : Description). IsJudgement s controller right.controlled right.judgement) same right.right in
    let for : IsControllerFor specification controller right.controlled =
    (exact decided specification controller right.controlled right.judgement judged).0
    (done_controls explain controller right.controlled right.judgement (sym right.reply.0 ∙ told.0)) in
    let parted : AreControlledAlike specification controller right.controlled =
    subst (λ (s : Description). AreControlledAlike s controller right.controlled) same right.parted in
    let system : AreSystemNames specification strategy verdict.names =
    subst (λ (s : Description). AreSystemNames s strategy verdict.names) also verdict.parted in
    let deterministic : IsDeterministic specification = subst IsDeterministic also verdict.deterministic in
    let counter_judged : IsCounterJudgement specification strategy verdict.names verdict.judgement =
    subst (λ (s : Description). IsCounterJudgement s strategy verdict.names verdict.judgement) also verdict.right in
    let counter : IsCounterStrategyFor specification strategy verdict.names =
    (counter_exact specification strategy verdict.names verdict.judgement counter_judged).0
    (done_beats also_explain verdict.judgement (sym verdict.reply.0 ∙ also_told.0)) in
    excludes specification controller strategy right.controlled system.stated verdict.names
    (means read.value.raw specification read.value.means) deterministic (means answer.input_read.value.raw controller answer.input_read.value.means)
    right.judged.readable.all parted item for system.specified
    (means counter_answer.input_read.value.raw strategy counter_answer.input_read.value.means) verdict.judged.readable.all system counter

pub yes_excludes_unrealizable : AutomataAreOne → MeaningsAreAutomata → JudgementsAreExact → ControllersForExcludeCounterStrategies → YesExcludesUnrealizable
yes_excludes_unrealizable one means exact excludes decided file input output line explain exit other specification answer verdict read told unrealizable =
    let same : answer.file ≡ specification = one file answer.file specification answer.file_read read in
    let also : verdict.automaton ≡ specification = one file verdict.automaton specification verdict.read read in
    let controller : Description = answer.input in
    let right = answer.holds in
    let judged : IsJudgement specification controller right.controlled right.judgement =
    subst (λ (s : Description). IsJudgement s controller right.controlled right.judgement) same right.right in
    let for : IsControllerFor specification controller right.controlled =
    (exact decided specification controller right.controlled right.judgement judged).0
    (done_controls explain controller right.controlled right.judgement (sym right.reply.0 ∙ told.0)) in
    let parted : AreControlledAlike specification controller right.controlled =
    subst (λ (s : Description). AreControlledAlike s controller right.controlled) same right.parted in
    let stated : IsStated specification verdict.holds.controlled =
    subst (λ (s : Description). IsStated s verdict.holds.controlled) also verdict.holds.stated in
    let deterministic : IsDeterministic specification = subst IsDeterministic also verdict.holds.judgeable.deterministic in
    let counter : HasCounterStrategy specification verdict.holds.controlled =
    subst (λ (s : Description). HasCounterStrategy s verdict.holds.controlled) also
    (subst (λ (e : Exit). IsVerdict verdict.automaton verdict.holds.controlled e line) unrealizable verdict.holds.verdict).0 in
    excludes specification controller right.controlled verdict.holds.controlled counter.0 counter.1
    (means read.value.raw specification read.value.means) deterministic (means answer.input_read.value.raw controller answer.input_read.value.means)
    right.judged.readable.all parted stated.item for stated.controlled counter.2
