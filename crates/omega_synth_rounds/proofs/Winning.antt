-- A winning strategy in the game of rounds wins the rounds.
use Rattle.std.proofs.Common.{◌≡◌, ◌↔◌, ℕ, ◌%◌, ◌<◌, inl, inr, List, [], ◌∷◌, length, All, Contains, Option, sym, ap, refl, ◌∙◌, subst, arith}
use Rattle.std.proofs.lemmas.Bool.{cases_eq, eq-eqb}
use Rattle.omega_game_values.specs.Game.{HasEdge, Node}
use Rattle.omega_game_values.specs.Laws.{SpecificationsHaveOneGame}
use Rattle.omega_game_values.specs.Winning.{Chooses, Leaves, Wins, greatest_on}
use Rattle.omega_game_values.specs.declared.player.Player.TheVariants.{One, Zero}
use Rattle.omega_synth_rounds.specs.Extracting.{AreChosenAnswers, AreChosenQuestions, IsChosenAnswer, IsChosenQuestion, IsKeptAnswer, IsWinningFrom}
use Rattle.omega_synth_rounds.specs.Laws.{ChosenAnswersWin, ChosenQuestionsWin}
use Rattle.omega_synth_rounds.specs.Rounds.{AreAnswers, IsAnswering, IsAskedIn, IsAsking, IsKeptRound, IsReached, IsRoundStep, IsRounds, LeadOn, answers_of, asked_in, greatest_priority}
use Rattle.omega_synth_rounds.specs.RoundsGame.{edge_place, question_place, sink_place}
use Rattle.omega_synth_rounds.specs.declared.rounds.Rounds.{Rounds}
use Rattle.omega_synth_rounds.proofs.Placing.{asked_below, game_is, nodes_count, nodes_of}
use Rattle.omega_synth_rounds.proofs.Walks.{Follows, Walks, asked_here, edge_from, edge_owner, edge_to, leads_below, one_choice, one_not_zero, question_answer, question_from, question_owner, question_to, sink_from, sink_priority, sink_to, state_from, state_owner, state_to, walks, wins_along}

-- a greatest priority that does not lose
not_odd : (q : ℕ) → ((q % 2 ≡ 1) → ⊥) → q % 2 ≡ 0
not_odd q refuted = elim (cases_eq (q % 2) 1) [ inl odd ↦ absurd (refuted odd) | inr other ↦ omega arith ]

not_even : (q : ℕ) → ((q % 2 ≡ 0) → ⊥) → q % 2 ≡ 1
not_even q refuted = elim (cases_eq (q % 2) 0) [ inl even ↦ absurd (refuted even) | inr other ↦ omega arith ]

-- player 0
module _ (rounds : Rounds) (is_rounds : IsRounds rounds) (choices : List (Option ℕ)) (kept : List ℕ) (start : ℕ)
    (start_below : start < length rounds.states) (winning : IsWinningFrom (nodes_of rounds) Zero choices start)
    (are : AreChosenAnswers rounds choices kept) where
  answer_follows : (from number to : ℕ) → from < length rounds.states → IsRoundStep rounds from number to → Contains kept number
      → Follows rounds is_rounds Zero choices from number to
  answer_follows from number to below step has =
      let chosen : IsChosenAnswer rounds choices number = (are number).0 has in
      let edge : HasEdge (nodes_of rounds) (question_place rounds chosen.0) (edge_place rounds number) =
      winning.strategy.listed (question_place rounds chosen.0) (edge_place rounds number) chosen.1.chosen in
      let answer : Contains (answers_of rounds chosen.0) number = question_answer rounds is_rounds chosen.0 number chosen.1.asked chosen.1.below edge in
      let owner = is_rounds.owned chosen.0 chosen.1.asked in
      let asked : IsAskedIn rounds from chosen.0 =
      subst (λ (s : ℕ). IsAskedIn rounds s chosen.0) (asked_here rounds is_rounds owner.0 chosen.0 number from to owner.1 answer step) owner.1 in
      record {
        question = chosen.0;
        asked = chosen.1.asked;
        first = record {
          listed = state_to rounds is_rounds from chosen.0 asked;
          chosen = λ own c chooses. absurd (one_not_zero (sym (state_owner rounds is_rounds from below) ∙ own));
        };
        second = record {
          listed = edge;
          chosen = λ own c chooses. one_choice choices (question_place rounds chosen.0) (edge_place rounds number) c chosen.1.chosen chooses;
        };
        third = record {
          listed = subst (λ (t : ℕ). HasEdge (nodes_of rounds) (edge_place rounds number) t) step.enters (edge_to rounds is_rounds number step.below);
          chosen = λ own c chooses. sym step.enters ∙ edge_from rounds is_rounds number c step.below (winning.strategy.listed (edge_place rounds number) c chooses);
        };
      }

  answer_walk : (from : ℕ) (numbers : List ℕ) (to : ℕ) → from < length rounds.states → All (Contains kept) numbers → LeadOn rounds from numbers to
      → Walks rounds is_rounds Zero choices kept answer_follows from numbers to
  answer_walk = walks rounds is_rounds Zero choices kept answer_follows

  reached_below : (state : ℕ) → IsReached rounds kept start state → state < length rounds.states
  reached_below state reached = leads_below rounds is_rounds start reached.numbers state start_below reached.leads

  reached_wins : (state : ℕ) → IsReached rounds kept start state → Wins (nodes_of rounds) Zero choices state
  reached_wins state reached =
      let there = answer_walk start reached.numbers state start_below reached.all_kept reached.leads in
      subst (λ (v : ℕ). Wins (nodes_of rounds) Zero choices v) there.ends
      (wins_along (nodes_of rounds) Zero choices start there.places there.walk winning.wins)

  -- the sink is not won
  sink_lost : Wins (nodes_of rounds) Zero choices (sink_place rounds) → ⊥
  sink_lost wins =
      let stays : Leaves (nodes_of rounds) Zero choices (sink_place rounds) (sink_place rounds) =
      record {
        listed = sink_to rounds is_rounds;
        chosen = λ own c chooses. sink_from rounds is_rounds c (winning.strategy.listed (sink_place rounds) c chooses);
      } in
      let below : sink_place rounds < length (nodes_of rounds) = omega (arith, nodes_count rounds) in
      let odd : greatest_on (nodes_of rounds) (sink_place rounds) (sink_place rounds ∷ []) % 2 ≡ 1 =
      let one : greatest_on (nodes_of rounds) (sink_place rounds) (sink_place rounds ∷ []) ≡ 1 = omega (arith, sink_priority rounds is_rounds) in
      ap (λ n. n % 2) one in
      wins [] (sink_place rounds ∷ []) below (record { walk = (stays, below); longer = omega arith; closed = refl })
      (eq-eqb (greatest_on (nodes_of rounds) (sink_place rounds) (sink_place rounds ∷ []) % 2) 1 odd)

  answered_at : (state question : ℕ) → IsReached rounds kept start state → IsAskedIn rounds state question
      → (number : ℕ) × Contains kept number × Contains (answers_of rounds question) number
  answered_at state question reached asked =
      let below : question < length rounds.questions = asked_below rounds is_rounds state question asked in
      let place : ℕ = question_place rounds question in
      let asks : Leaves (nodes_of rounds) Zero choices state place =
      record {
        listed = state_to rounds is_rounds state question asked;
        chosen = λ own c chooses. absurd (one_not_zero (sym (state_owner rounds is_rounds state asked.below) ∙ own));
      } in
      let wins : Wins (nodes_of rounds) Zero choices place =
      λ there around on closed. reached_wins state reached (place ∷ there) around (asks, on) closed in
      let choice = winning.chosen place (omega (arith, nodes_count rounds)) (question_owner rounds is_rounds question below) wins in
      let edge : HasEdge (nodes_of rounds) place choice.0 = winning.strategy.listed place choice.0 choice.1 in
      elim (question_from rounds is_rounds question choice.0 below edge) [
        | inl sink ↦ absurd (sink_lost (subst (λ (v : ℕ). Wins (nodes_of rounds) Zero choices v) sink
            (λ there around on closed. wins (choice.0 ∷ there) around
            (record { listed = edge; chosen = λ own c chooses. one_choice choices place choice.0 c choice.1 chooses }, on) closed)))
        | inr answer ↦
            let number_below : answer.0 < length rounds.edges = (is_rounds.answers state question answer.0 asked answer.1).0 in (
              answer.0,
              (are answer.0).1 (
                question,
                record {
                  asked = below;
                  below = number_below;
                  chosen = subst (λ (u : ℕ). Chooses choices place u) answer.2 choice.1;
                },
              ),
              answer.1,
            )
      ]

  even_round : (state : ℕ) (cycle : List ℕ) → IsKeptRound rounds kept start state cycle → greatest_priority rounds cycle % 2 ≡ 0
  even_round state cycle round =
      let below : state < length rounds.states = reached_below state round.reached in
      let around = answer_walk state cycle state below round.all_kept round.leads in
      not_odd (greatest_priority rounds cycle) (λ odd. reached_wins state round.reached [] around.places (omega (arith, nodes_count rounds))
      (record { walk = around.walk; longer = around.longer round.longer; closed = around.ends })
      (eq-eqb (greatest_on (nodes_of rounds) state around.places % 2) 1 (ap (λ n. n % 2) around.greatest ∙ odd)))

  pub answering : IsAnswering rounds start kept
  answering = record { answered = answered_at; even = even_round }

  pub answers_all : AreAnswers rounds kept
  answers_all number has =
      let chosen : IsChosenAnswer rounds choices number = (are number).0 has in
      let edge : HasEdge (nodes_of rounds) (question_place rounds chosen.0) (edge_place rounds number) =
      winning.strategy.listed (question_place rounds chosen.0) (edge_place rounds number) chosen.1.chosen in
      let owner = is_rounds.owned chosen.0 chosen.1.asked in
      record {
        state = owner.0;
        question = chosen.0;
        asked = owner.1;
        answers = question_answer rounds is_rounds chosen.0 number chosen.1.asked chosen.1.below edge;
      }

-- player 1
module _ (rounds : Rounds) (is_rounds : IsRounds rounds) (choices : List (Option ℕ)) (kept asked : List ℕ) (start : ℕ)
    (start_below : start < length rounds.states) (winning : IsWinningFrom (nodes_of rounds) One choices start)
    (are : AreChosenQuestions rounds choices kept asked) where
  -- the question that is chosen is one of the state's
  asked_by : (state question : ℕ) → IsChosenQuestion rounds choices state question → IsAskedIn rounds state question
  asked_by state question chosen =
      let edge : HasEdge (nodes_of rounds) state (question_place rounds question) =
      winning.strategy.listed state (question_place rounds question) chosen.chosen in
      let from = state_from rounds is_rounds state (question_place rounds question) chosen.below edge in
      let same : from.0 ≡ question = omega (arith, from.2) in
      subst (λ (q : ℕ). IsAskedIn rounds state q) same from.1

  -- a kept edge answers the question that is chosen in the state that it leaves
  kept_by : (from number to : ℕ) → IsRoundStep rounds from number to → Contains kept number
      → (question : ℕ) × IsChosenQuestion rounds choices from question × Contains (answers_of rounds question) number
  kept_by from number to step has =
      let answer : IsKeptAnswer rounds choices number = (are.answers number).0 has in
      let here : answer.state ≡ from =
      asked_here rounds is_rounds answer.state answer.question number from to (asked_by answer.state answer.question answer.chosen) answer.answers step in
      (answer.question, subst (λ (s : ℕ). IsChosenQuestion rounds choices s answer.question) here answer.chosen, answer.answers)

  question_follows : (from number to : ℕ) → from < length rounds.states → IsRoundStep rounds from number to → Contains kept number
      → Follows rounds is_rounds One choices from number to
  question_follows from number to below step has =
      let found = kept_by from number to step has in
      let chosen : IsChosenQuestion rounds choices from found.0 = found.1 in
      record {
        question = found.0;
        asked = chosen.asked;
        first = record {
          listed = state_to rounds is_rounds from found.0 (asked_by from found.0 chosen);
          chosen = λ own c chooses. one_choice choices from (question_place rounds found.0) c chosen.chosen chooses;
        };
        second = record {
          listed = question_to rounds is_rounds found.0 number chosen.asked found.2;
          chosen = λ own c chooses. absurd (one_not_zero (sym own ∙ question_owner rounds is_rounds found.0 chosen.asked));
        };
        third = record {
          listed = subst (λ (t : ℕ). HasEdge (nodes_of rounds) (edge_place rounds number) t) step.enters (edge_to rounds is_rounds number step.below);
          chosen = λ own c chooses. absurd (one_not_zero (sym own ∙ edge_owner rounds is_rounds number step.below));
        };
      }

  question_walk : (from : ℕ) (numbers : List ℕ) (to : ℕ) → from < length rounds.states → All (Contains kept) numbers → LeadOn rounds from numbers to
      → Walks rounds is_rounds One choices kept question_follows from numbers to
  question_walk = walks rounds is_rounds One choices kept question_follows

  below_at : (state : ℕ) → IsReached rounds kept start state → state < length rounds.states
  below_at state reached = leads_below rounds is_rounds start reached.numbers state start_below reached.leads

  wins_at : (state : ℕ) → IsReached rounds kept start state → Wins (nodes_of rounds) One choices state
  wins_at state reached =
      let there = question_walk start reached.numbers state start_below reached.all_kept reached.leads in
      subst (λ (v : ℕ). Wins (nodes_of rounds) One choices v) there.ends
      (wins_along (nodes_of rounds) One choices start there.places there.walk winning.wins)

  -- a question is chosen in each state that is reached
  chosen_at : (state : ℕ) → IsReached rounds kept start state → (question : ℕ) × IsChosenQuestion rounds choices state question
  chosen_at state reached =
      let below : state < length rounds.states = below_at state reached in
      let choice = winning.chosen state (omega (arith, nodes_count rounds)) (state_owner rounds is_rounds state below) (wins_at state reached) in
      let from = state_from rounds is_rounds state choice.0 below (winning.strategy.listed state choice.0 choice.1) in (
        from.0,
        record {
          below = below;
          asked = asked_below rounds is_rounds state from.0 from.1;
          chosen = subst (λ (u : ℕ). Chooses choices state u) from.2 choice.1;
        },
      )

  asks_at : (state : ℕ) → IsReached rounds kept start state → IsAskedIn rounds state (asked_in asked state)
  asks_at state reached =
      let found = chosen_at state reached in
      subst (λ (q : ℕ). IsAskedIn rounds state q) (sym (are.each state found.0 found.1)) (asked_by state found.0 found.1)

  keeps_at : (state number next : ℕ) → IsReached rounds kept start state → IsRoundStep rounds state number next
      → Contains kept number ↔ Contains (answers_of rounds (asked_in asked state)) number
  keeps_at state number next reached step = (
    λ has.
        (let found = kept_by state number next step has in
        subst (λ (q : ℕ). Contains (answers_of rounds q) number) (sym (are.each state found.0 found.1)) found.2),
    λ has.
        (let found = chosen_at state reached in
        (are.answers number).1 (record {
          state = state;
          question = found.0;
          chosen = found.1;
          answers = subst (λ (q : ℕ). Contains (answers_of rounds q) number) (are.each state found.0 found.1) has;
        })),
  )

  odd_round : (state : ℕ) (cycle : List ℕ) → IsKeptRound rounds kept start state cycle → greatest_priority rounds cycle % 2 ≡ 1
  odd_round state cycle round =
      let below : state < length rounds.states = below_at state round.reached in
      let around = question_walk state cycle state below round.all_kept round.leads in
      not_even (greatest_priority rounds cycle) (λ even. wins_at state round.reached [] around.places (omega (arith, nodes_count rounds))
      (record { walk = around.walk; longer = around.longer round.longer; closed = around.ends })
      (eq-eqb (greatest_on (nodes_of rounds) state around.places % 2) 0 (ap (λ n. n % 2) around.greatest ∙ even)))

  pub asking : IsAsking rounds start kept asked
  asking = record { asks = asks_at; keeps = keeps_at; odd = odd_round }

  pub kept_all : AreAnswers rounds kept
  kept_all number has =
      let answer : IsKeptAnswer rounds choices number = (are.answers number).0 has in
      record {
        state = answer.state;
        question = answer.question;
        asked = asked_by answer.state answer.question answer.chosen;
        answers = answer.answers;
      }

pub chosen_answers_win : SpecificationsHaveOneGame → ChosenAnswersWin
chosen_answers_win one rounds game choices kept start is_rounds made start_below winning are =
    let here : IsWinningFrom (nodes_of rounds) Zero choices start =
    subst (λ (nodes : List Node). IsWinningFrom nodes Zero choices start) (game_is rounds is_rounds one game made) winning in
    (answering rounds is_rounds choices kept start start_below here are, answers_all rounds is_rounds choices kept start start_below here are)

pub chosen_questions_win : SpecificationsHaveOneGame → ChosenQuestionsWin
chosen_questions_win one rounds game choices kept asked start is_rounds made start_below winning are =
    let here : IsWinningFrom (nodes_of rounds) One choices start =
    subst (λ (nodes : List Node). IsWinningFrom nodes One choices start) (game_is rounds is_rounds one game made) winning in
    (asking rounds is_rounds choices kept asked start start_below here are, kept_all rounds is_rounds choices kept asked start start_below here are)
