-- Who wins the start's node of the game of an automaton has a controller or a counter-strategy of it.
use Rattle.std.proofs.Common.{◌≡◌, ◌↔◌, ℕ, ◌<◌, inl, inr, Bool, List, [], ◌∷◌, length, map, Option, Some, sym, refl, subst, arith}
use Rattle.omega_hoa_automaton.specs.Automaton.{Description, IsAutomaton}
use Rattle.omega_game_values.specs.Game.{IsGame, Node}
use Rattle.omega_game_values.specs.Laws.{ChoicesAreEntries}
use Rattle.omega_game_reaching.specs.Laws.{PartsKeepNodes}
use Rattle.omega_game_values.specs.Paths.{Reaches}
use Rattle.omega_game_values.specs.Places.{StandsAt}
use Rattle.omega_game_values.specs.Winning.{Chooses, InRegion, choice_at}
use Rattle.omega_game_values.specs.declared.player.Player.{Player}
use Rattle.omega_game_values.specs.declared.player.Player.TheVariants.{One, Zero}
use Rattle.omega_game_region_laws.specs.Laws.{RegionsCover, RegionsOfParts}
use Rattle.omega_synth_controllers.specs.Laws.{ControllersExcludeCounterStrategies}
use Rattle.omega_synth_rounds.specs.Laws.{ChosenAnswersWin, ChosenQuestionsWin}
use Rattle.omega_synth_rounds.specs.RoundsGame.{IsRoundsGame}
use Rattle.omega_synth_game.specs.Laws.{AnsweringsAreControllers, AskingsAreCounterStrategies, IsParted, NoStartIsRefused}
use Rattle.omega_synth_game.specs.RoundsOf.{letter_of, letters_by_state}
use Rattle.omega_synth_rounds.specs.Rounds.{IsRounds, asked_in}
use Rattle.omega_synth_rounds.specs.declared.rounds.Rounds.{Rounds}
use Rattle.omega_synth_rounds.proofs.Placing.{nodes_made, nodes_of}
use Rattle.omega_synth_controllers.proofs.Starts.{first_start}
use Rattle.omega_synth_game.proofs.Existing.{rounds_exist}
use Rattle.omega_synth_realize.specs.Refusing.{HasNoLargeGame, IsJudgeable}
use Rattle.omega_synth_realize.specs.Gaming.{IsPartedGame}
use Rattle.omega_synth_realize.specs.Laws.{DecidesAt, GamesDecide, IsDecided, start_place}
use Rattle.omega_synth_controllers.specs.Controllers.{HasController, HasCounterStrategy}
use Rattle.omega_synth_realize.proofs.Chosen.{answers_chosen, asked_by, kept_answers, kept_questions, questions_chosen}
use Rattle.omega_synth_realize.proofs.Filled.{region_won}
use Rattle.omega_synth_realize.proofs.Gamed.{named_count}
use Rattle.omega_synth_realize.proofs.Realized.{letters_are, start_is_state}
use Rattle.omega_synth_realize.proofs.Strategies.{game_count}
use Rattle.omega_synth_realize.proofs.Unnamed.{region_here, unnamed_game, without_names}
use Rattle.std.specs.List.{range_with_len}
use Rattle.std.proofs.lemmas.Bool.{cases_eq}

module _ (entries : ChoicesAreEntries) (answers_win : ChosenAnswersWin) (questions_win : ChosenQuestionsWin) (controllers : AnsweringsAreControllers)
    (counters : AskingsAreCounterStrategies) (excluded : ControllersExcludeCounterStrategies) (cover : RegionsCover)
    (a : Description) (controlled : List ℕ) where
  never : HasController a controlled → HasCounterStrategy a controlled → ⊥
  never controller counter = excluded a controlled controller.0 counter.0 counter.1 controller.1 counter.2

  -- in the game of rounds
  module _ (rounds : Rounds) (letters : List (List ℕ)) (start : ℕ) (parted : IsParted a controlled rounds letters start) (is_rounds : IsRounds rounds)
      (game : List Node) (is_game : IsRoundsGame rounds game) where
    below : start < length rounds.states
    below = start_is_state a controlled rounds letters start parted

    chosen_entry : (choices : List (Option ℕ)) (v w : ℕ) → choice_at choices v ≡ Some w → Chooses choices v w
    chosen_entry choices v w is = (entries choices v w).1 is

    zero_controls : InRegion game Zero start → HasController a controlled
    zero_controls region =
        let won = region_won game Zero start is_game.game region in
        let kept : List ℕ = kept_answers rounds won.0 (chosen_entry won.0) in (
          kept,
          controllers a controlled rounds letters start kept parted
              (answers_win rounds game won.0 kept start is_rounds is_game below won.1 (answers_chosen rounds won.0 (chosen_entry won.0))).0,
        )

    one_counters : InRegion game One start → HasCounterStrategy a controlled
    one_counters region =
        let won = region_won game One start is_game.game region in
        let kept : List ℕ = kept_questions rounds won.0 (chosen_entry won.0) in
        let asked : List ℕ = asked_by rounds won.0 (chosen_entry won.0) in
        let by_state : List (List ℕ) = map (λ state. letter_of letters (asked_in asked state)) (range_with_len 0 a.states) in (
          kept,
          letters_by_state by_state,
          (counters a controlled rounds letters start kept asked by_state parted
              (questions_win rounds game won.0 kept asked start is_rounds is_game below won.1 (questions_chosen rounds won.0 (chosen_entry won.0))).0
              (letters_are a.states letters asked by_state refl)).0,
        )

    decided_by : IsDecided a controlled
    decided_by = record {
      one = elim (cover game start is_game.game (omega (arith, below, game_count rounds game is_game))) [
        | inl zero ↦ inl (zero_controls zero)
        | inr one ↦ inr (one_counters one)
      ];
      never_both = never;
    }

  -- without any game
  pub automaton_decided : NoStartIsRefused → IsAutomaton a → IsJudgeable a → HasNoLargeGame a controlled → IsDecided a controlled
  automaton_decided refused automaton judgeable small = elim (cases_eq (length a.starts) 0) [
    | inl none ↦ record { one = inr ([], letters_by_state [], (refused a controlled [] (empty_list a.starts none)).0); never_both = never }
    | inr some ↦ elim small [
      | inl none ↦ record { one = inr ([], letters_by_state [], (refused a controlled [] none).0); never_both = never }
      | inr fits ↦
          let first = first_start a automaton judgeable.deterministic.plain (omega (arith, some)) in
          let found =
          rounds_exist a judgeable.parity.0 automaton judgeable.deterministic.plain judgeable.parity.1 controlled fits.classes fits.all fits.each
          first.0 first.1 judgeable.deterministic.one_start in
          decided_by found.0 found.1 first.0 found.2 found.3 (nodes_of found.0) (nodes_made found.0 found.3)
    ]
  ]
    where
      empty_list : {X : Type 0} (xs : List X) → length xs ≡ 0 → xs ≡ []
      empty_list [] none = refl
      empty_list (x ∷ xs) none = absurd (omega (arith, none))

module _ (entries : ChoicesAreEntries) (answers_win : ChosenAnswersWin) (questions_win : ChosenQuestionsWin) (controllers : AnsweringsAreControllers)
    (counters : AskingsAreCounterStrategies) (excluded : ControllersExcludeCounterStrategies) (cover : RegionsCover) (of_parts : RegionsOfParts) (keeps : PartsKeepNodes)
    (a : Description) (controlled : List ℕ) (game : List Node) (parted : IsPartedGame a controlled game) where
  plain_game : IsRoundsGame parted.rounds (without_names parted.whole)
  plain_game = unnamed_game parted.rounds parted.whole parted.named

  -- in the whole game
  zero_has : InRegion parted.whole Zero parted.start → HasController a controlled
  zero_has region =
      zero_controls entries answers_win questions_win controllers counters excluded cover a controlled parted.rounds parted.letters parted.start parted.parted
      parted.rounds_kept (without_names parted.whole) plain_game (region_here parted.whole Zero parted.start region)

  one_has : InRegion parted.whole One parted.start → HasCounterStrategy a controlled
  one_has region =
      one_counters entries answers_win questions_win controllers counters excluded cover a controlled parted.rounds parted.letters parted.start parted.parted
      parted.rounds_kept (without_names parted.whole) plain_game (region_here parted.whole One parted.start region)

  excludes : HasController a controlled → HasCounterStrategy a controlled → ⊥
  excludes = never entries answers_win questions_win controllers counters excluded cover a controlled

  start_node : parted.start < length parted.whole
  start_node =
      omega (
        arith,
        start_is_state a controlled parted.rounds parted.letters parted.start parted.parted,
        named_count parted.rounds parted.whole parted.named,
      )

  zero_from : HasController a controlled → InRegion parted.whole Zero parted.start
  zero_from controller = elim (cover parted.whole parted.start parted.named.game_is.game start_node) [
    | inl zero ↦ zero
    | inr one ↦ absurd (excludes controller (one_has one))
  ]

  one_from : HasCounterStrategy a controlled → InRegion parted.whole One parted.start
  one_from counter = elim (cover parted.whole parted.start parted.named.game_is.game start_node) [
    | inl zero ↦ absurd (excludes (zero_has zero) counter)
    | inr one ↦ one
  ]

  -- and in the part
  stands : StandsAt parted.part.0 parted.start (start_place a controlled game parted)
  stands =
      let reached : Reaches parted.whole parted.start parted.start = record { path = []; joined = start_node; ends = refl } in
      (keeps parted.whole game parted.start parted.part.0 parted.named.game_is.game parted.part.1).stands parted.start ((parted.part.1.reached parted.start).1 reached)

  same_region : (player : Player) → InRegion game player (start_place a controlled game parted) ↔ InRegion parted.whole player parted.start
  same_region player =
      let here = stands in
      subst (λ (v : ℕ). InRegion game player (start_place a controlled game parted) ↔ InRegion parted.whole player v) here.holds
      (of_parts parted.whole game player parted.start parted.part.0 (start_place a controlled game parted) parted.named.game_is.game parted.part.1 here.below)

  pub start_decides : DecidesAt a controlled game (start_place a controlled game parted) × IsDecided a controlled
  start_decides = (
    record {
      controller = (λ region. zero_has ((same_region Zero).0 region), λ controller. (same_region Zero).1 (zero_from controller));
      counter_strategy = (λ region. one_has ((same_region One).0 region), λ counter. (same_region One).1 (one_from counter));
    },
    decided_by entries answers_win questions_win controllers counters excluded cover a controlled parted.rounds parted.letters parted.start parted.parted
        parted.rounds_kept (without_names parted.whole) plain_game,
  )
