-- Walks of the automaton are walks of its rounds, and accept exactly if their greatest priority is even.
use Rattle.std.proofs.Common.{◌≡◌, ◌↔◌, ℕ, zero, suc, ◌%◌, ◌<◌, ◌≤◌, Bool, true, List, [], ◌∷◌, length, map, get_or, All, Contains, Option, Some, None, sym, ap, refl, ◌∙◌, subst, arith}
use Rattle.std.specs.Prelude.{slice_index_or}
use Rattle.std.proofs.lemmas.Bool.{false_from_ne_true}
use Rattle.std.proofs.lemmas.List.{length-map}
use Rattle.std.proofs.lemmas.List.Elements.{All-head, All-map, All-tail}
use Rattle.std.proofs.lemmas.Option.{slice_get_within}
use Rattle.omega_hoa_parity_kind.specs.Priority.{greatest_number, priority_of}
use Rattle.omega_hoa_acceptance.specs.Acceptance.{accepts}
use Rattle.omega_hoa_acceptance.specs.Kind.{parity_formula}
use Rattle.omega_hoa_acceptance.specs.KindLaws.{ParityIsPriority}
use Rattle.omega_hoa_label.specs.Label.{LabelTree}
use Rattle.omega_hoa_automaton.specs.Automaton.{AreBelow, BodyEdge, Description, edge_at, edges_of}
use Rattle.omega_lang_runs.specs.Lasso.{IsStep, IsUsable, Leads, label_of, marks_at}
use Rattle.omega_lang_runs.specs.Words.{Allows, CanBeTaken}
use Rattle.omega_lang_runs.proofs.Kept.{edge_kept, marks_are, marks_low}
use Rattle.omega_synth_controllers.specs.Controllers.{Answers, AreEdgesMet, IsController, IsCounterStrategy, IsKeptCycle, IsMet, is_accepted}
use Rattle.omega_synth_rounds.specs.Rounds.{AreMetAnswers, IsAnswer, IsAnswering, IsAsking, IsKeptRound, IsReached, IsRoundStep, LeadOn, asked_in, edge_at as round_edge_at, greatest_priority}
use Rattle.omega_synth_rounds.specs.declared.rounds.Rounds.{Rounds}
use Rattle.omega_synth_game.specs.Laws.{AnsweringsAreControllers, AskingsAreCounterStrategies, IsParted, MetAnswersAreMet, NoStartIsRefused}
use Rattle.omega_synth_game.specs.Classes.{IsLeastInState}
use Rattle.omega_synth_game.specs.Letters.{holds_in, letter_of}
use Rattle.omega_synth_game.specs.RoundsOf.{AreLeastLetters, AreLettersAsked, IsAnswerOf, IsAskedBy, letters_by_state}

-- a list with one entry at most
one_entry : {X : Type 0} (xs : List X) (x y : X) → length xs ≤ 1 → Contains xs x → Contains xs y → x ≡ y
one_entry [] x y few first second = absurd (omega (arith, first.1))
one_entry (z ∷ zs) x y few first second = sym (at_first z zs x few first) ∙ at_first z zs y few second
  where
    at_first : {X : Type 0} (z : X) (zs : List X) (x : X) → length (z ∷ zs) ≤ 1 → Contains (z ∷ zs) x → z ≡ x
    at_first z zs x few (zero, below, here) = here
    at_first z zs x few (suc k, below, here) = absurd (omega arith)

single_same : (x y : ℕ) (xs : List ℕ) → xs ≡ x ∷ [] → xs ≡ y ∷ [] → x ≡ y
single_same x y xs first second = ap (λ list. get_or list 0 0) (sym first ∙ second)

-- an edge that can be taken is usable
usable_from : (a : Description) (number : ℕ) (label : Option LabelTree) (held : ℕ → Bool) (edge : BodyEdge) → label_of edge ≡ label
    → Allows a number label held → IsUsable edge
usable_from a number None held edge is allowed = rw is tt
usable_from a number (Some label) held edge is allowed = rw is (held, allowed)

some_same : (x y : BodyEdge) → Some x ≡ Some y → x ≡ y
some_same x y e = cc

answer_usable : (a : Description) (controlled : List ℕ) (number : ℕ) (given : ℕ → Bool) (edge : BodyEdge) → edge_at a number ≡ Some edge
    → Answers a controlled number given → IsUsable edge
answer_usable a controlled number given edge numbered answers =
    let taken : CanBeTaken a number answers.letter = answers.taken in
    subst IsUsable (some_same taken.edge edge (sym taken.numbered ∙ numbered))
    (usable_from a number (label_of taken.edge) answers.letter taken.edge refl taken.allowed)

module _ (parity : ParityIsPriority) (a : Description) (controlled : List ℕ) (rounds : Rounds) (letters : List (List ℕ)) (start : ℕ)
    (parted : IsParted a controlled rounds letters start) where
  -- a step of the automaton is one of the rounds
  step_is : (from number to : ℕ) → IsStep a from number to → IsRoundStep rounds from number to
  step_is from number to step =
      let same = parted.rounds_are.each number step.edge step.numbered in
      record {
        below = omega (arith, parted.rounds_are.edges, slice_get_within (edges_of a) number step.edge step.numbered);
        leaves = same.source ∙ step.leaves;
        enters = single_same (round_edge_at rounds number).target to step.edge.edge.targets same.target step.enters;
      }

  leads_are : (from : ℕ) (numbers : List ℕ) (to : ℕ) → Leads a from numbers to → LeadOn rounds from numbers to
  leads_are from [] to leads = leads
  leads_are from (number ∷ numbers) to leads = (leads.0, step_is from number leads.0 leads.1, leads_are leads.0 numbers to leads.2)

  one_start : (kept : List ℕ) (state : ℕ) (met : IsMet a kept state) → met.start ≡ start
  one_start kept state met =
      single_same met.start start (met.start ∷ []) refl (one_entry a.starts (met.start ∷ []) (start ∷ []) parted.one_start met.begins parted.begins)

  reached_from : (kept : List ℕ) (state : ℕ) → IsMet a kept state → IsReached rounds kept start state
  reached_from kept state met = record {
    numbers = met.numbers;
    all_kept = met.all_kept;
    leads = subst (λ (s : ℕ). LeadOn rounds s met.numbers state) (one_start kept state met) (leads_are met.start met.numbers state met.leads);
  }

  round_from : (kept : List ℕ) (state : ℕ) (cycle : List ℕ) → IsKeptCycle a kept state cycle → IsKeptRound rounds kept start state cycle
  round_from kept state cycle kept_cycle = record {
    reached = reached_from kept state kept_cycle.met;
    all_kept = kept_cycle.all_kept;
    leads = leads_are state cycle state kept_cycle.leads;
    longer = kept_cycle.longer;
  }

  -- the priorities of a walk are those of its marks
  priorities_are : (from : ℕ) (numbers : List ℕ) (to : ℕ) → Leads a from numbers to
      → greatest_number (map (priority_of parted.kind) (map (marks_at a) numbers)) ≡ greatest_priority rounds numbers
  priorities_are from [] to leads = refl
  priorities_are from (number ∷ numbers) to leads =
      let step : IsStep a from number leads.0 = leads.1 in
      let priority : (round_edge_at rounds number).priority ≡ priority_of parted.kind (marks_at a number) =
      (parted.rounds_are.each number step.edge step.numbered).priority ∙ ap (priority_of parted.kind) (sym (marks_are a number step.edge step.numbered)) in
      omega (arith, priority, priorities_are leads.0 numbers to leads.2)

  within : (numbers : List ℕ) → All (λ (marks : List ℕ). All (λ mark. mark < parted.kind.count) marks) (map (marks_at a) numbers)
  within numbers =
      All-map (λ (marks : List ℕ). All (λ mark. mark < parted.kind.count) marks) (marks_at a) numbers
      (λ k d below. (let P : ℕ → Type 0 = λ count. All (λ mark. mark < count) (marks_at a (slice_index_or numbers k d)) in
      subst P parted.kind_is.row.counted (marks_low a parted.automaton (slice_index_or numbers k d))))

  -- a closed walk is accepted exactly if its greatest priority is even
  accepted_is : (from : ℕ) (numbers : List ℕ) (to : ℕ) → Leads a from numbers to → 0 < length numbers
      → (is_accepted a numbers ≡ true) ↔ (greatest_priority rounds numbers % 2 ≡ 0)
  accepted_is from numbers to leads longer =
      let law = parity parted.kind (map (marks_at a) numbers) (omega (arith, length-map numbers (marks_at a))) (within numbers) in
      let formula : accepts (map (marks_at a) numbers) a.acceptance ≡ accepts (map (marks_at a) numbers) (parity_formula parted.kind) =
      ap (accepts (map (marks_at a) numbers)) parted.kind_is.row.formula_is in (
        λ accepted. sym (ap (λ n. n % 2) (priorities_are from numbers to leads)) ∙ law.0 (sym formula ∙ accepted),
        λ even. formula ∙ law.1 (ap (λ n. n % 2) (priorities_are from numbers to leads) ∙ even),
      )

  start_below : start < a.states
  start_below =
      let P : List ℕ → Type 0 = λ states. AreBelow a.states states in
      (subst P parted.begins.2 (parted.automaton.starts parted.begins.0 (start ∷ []) parted.begins.1).below) 0 0 (omega arith)

  leads_below : (from : ℕ) (numbers : List ℕ) (to : ℕ) → from < a.states → Leads a from numbers to → to < a.states
  leads_below from [] to below leads = omega (arith, leads)
  leads_below from (number ∷ numbers) to below leads =
      let step : IsStep a from number leads.0 = leads.1 in
      let kept = edge_kept a parted.automaton number step.edge step.numbered in
      let P : List ℕ → Type 0 = λ states. AreBelow a.states states in
      let next_below : leads.0 < a.states = (subst P step.enters kept.1.targets.below) 0 0 (omega arith) in
      leads_below leads.0 numbers to next_below leads.2

  -- what is met is a state
  met_below : (kept : List ℕ) (state : ℕ) → IsMet a kept state → state < a.states
  met_below kept state met =
      leads_below start met.numbers state start_below
      (subst (λ (s : ℕ). Leads a s met.numbers state) (one_start kept state met) met.leads)

  pub controller : (kept : List ℕ) → IsAnswering rounds start kept → IsController a controlled kept
  controller kept answering = record {
    begins = (start, parted.begins);
    answered = λ state given met.
        (let asked : IsAskedBy a controlled rounds state given = parted.rounds_are.every state given (met_below kept state met) in
        let found = answering.answered state asked.question (reached_from kept state met) asked.asked in
        let answer : IsAnswerOf a controlled state found.0 given = (asked.answer found.0).0 found.2 in
        record {
          number = found.0;
          next = (round_edge_at rounds found.0).target;
          is_kept = found.1;
          step = record {
            edge = answer.edge;
            numbered = answer.numbered;
            usable = answer_usable a controlled found.0 given answer.edge answer.numbered answer.answers;
            leaves = answer.leaves;
            enters = (parted.rounds_are.each found.0 answer.edge answer.numbered).target;
          };
          answers = answer.answers;
        });
    accepted = λ state cycle kept_cycle.
        (accepted_is state cycle state kept_cycle.leads kept_cycle.longer).1 (answering.even state cycle (round_from kept state cycle kept_cycle));
  }

  module _ (kept : List ℕ) (met : AreMetAnswers rounds start kept) where
    -- a kept edge of the rounds is an edge of the automaton that can be taken
    step_back : (from number to : ℕ) → Contains kept number → IsRoundStep rounds from number to → IsStep a from number to
    step_back from number to has step =
        let answer : IsAnswer rounds number = (met number has).0 in
        let its : IsAnswerOf a controlled answer.state number (holds_in (letter_of letters answer.question)) =
        (parted.rounds_are.asked answer.state answer.question number answer.asked).0 answer.answers in
        let same = parted.rounds_are.each number its.edge its.numbered in
        record {
          edge = its.edge;
          numbered = its.numbered;
          usable = answer_usable a controlled number (holds_in (letter_of letters answer.question)) its.edge its.numbered its.answers;
          leaves = sym same.source ∙ step.leaves;
          enters = same.target ∙ ap (λ (state : ℕ). state ∷ []) step.enters;
        }

    leads_back : (from : ℕ) (numbers : List ℕ) (to : ℕ) → All (Contains kept) numbers → LeadOn rounds from numbers to → Leads a from numbers to
    leads_back from [] to all leads = leads
    leads_back from (number ∷ numbers) to all leads = (
      leads.0,
      step_back from number leads.0 (All-head (Contains kept) number numbers all) leads.1,
      leads_back leads.0 numbers to (All-tail (Contains kept) number numbers all) leads.2,
    )

    pub edges_met : AreEdgesMet a kept
    edges_met number has =
        let both = met number has in
        let state : ℕ = (round_edge_at rounds number).source in
        let answer : IsAnswer rounds number = both.0 in
        let its : IsAnswerOf a controlled answer.state number (holds_in (letter_of letters answer.question)) =
        (parted.rounds_are.asked answer.state answer.question number answer.asked).0 answer.answers in
        let below : number < length rounds.edges = omega (arith, parted.rounds_are.edges, slice_get_within (edges_of a) number its.edge its.numbered) in (
          state,
          (round_edge_at rounds number).target,
          record {
            start = start;
            begins = parted.begins;
            numbers = both.1.numbers;
            all_kept = both.1.all_kept;
            leads = leads_back start both.1.numbers state both.1.all_kept both.1.leads;
          },
          step_back state number (round_edge_at rounds number).target has (record { below = below; leaves = refl; enters = refl }),
        )

  module _ (kept asked : List ℕ) (by_state : List (List ℕ)) (asking : IsAsking rounds start kept asked)
      (are : AreLettersAsked a.states letters asked by_state) where
    -- the letter of a state that is met is that of its question
    letter_is : (state : ℕ) → IsMet a kept state → letter_of letters (asked_in asked state) ≡ letter_of by_state state
    letter_is state met = sym (are state (met_below kept state met))

    pub counter_strategy : IsCounterStrategy a controlled kept (letters_by_state by_state)
    counter_strategy = record {
      answers_kept = λ state number next met step answers.
          (let reached = reached_from kept state met in
          let given : Answers a controlled number (holds_in (letter_of letters (asked_in asked state))) =
          subst (λ (letter : List ℕ). Answers a controlled number (holds_in letter)) (sym (letter_is state met)) answers in
          (asking.keeps state number next reached (step_is state number next step)).1
          ((parted.rounds_are.asked state (asked_in asked state) number (asking.asks state reached)).1
          (record { edge = step.edge; numbered = step.numbered; leaves = step.leaves; answers = given })));
      kept_answers = λ state number next met step has.
          (let reached = reached_from kept state met in
          subst (λ (letter : List ℕ). Answers a controlled number (holds_in letter)) (letter_is state met)
          ((parted.rounds_are.asked state (asked_in asked state) number (asking.asks state reached)).0
          ((asking.keeps state number next reached (step_is state number next step)).0 has)).answers);
      refused = λ state cycle kept_cycle.
          (let odd : greatest_priority rounds cycle % 2 ≡ 1 = asking.odd state cycle (round_from kept state cycle kept_cycle) in
          false_from_ne_true (is_accepted a cycle) (λ accepted.
          omega (arith, odd, (accepted_is state cycle state kept_cycle.leads kept_cycle.longer).0 accepted)));
    }

    -- its letters are the first of their classes
    pub least_letters : AreLeastLetters a controlled kept by_state
    least_letters state met =
        subst (λ (letter : List ℕ). IsLeastInState a controlled state letter) (letter_is state met)
        (parted.rounds_are.least state (asked_in asked state) (asking.asks state (reached_from kept state met)))

pub met_answers_are_met : ParityIsPriority → MetAnswersAreMet
met_answers_are_met parity a controlled rounds letters start kept parted met = edges_met parity a controlled rounds letters start parted kept met

pub answerings_are_controllers : ParityIsPriority → AnsweringsAreControllers
answerings_are_controllers parity a controlled rounds letters start kept parted answering =
    controller parity a controlled rounds letters start parted kept answering

pub askings_are_counter_strategies : ParityIsPriority → AskingsAreCounterStrategies
askings_are_counter_strategies parity a controlled rounds letters start kept asked by_state parted asking are = (
  counter_strategy parity a controlled rounds letters start parted kept asked by_state asking are,
  least_letters parity a controlled rounds letters start parted kept asked by_state asking are,
)

-- without a start nothing is met
nothing_met : (a : Description) (kept : List ℕ) (state : ℕ) → a.starts ≡ [] → IsMet a kept state → ⊥
nothing_met a kept state none met =
    let has : Contains [] (met.start ∷ []) = subst (λ (starts : List (List ℕ)). Contains starts (met.start ∷ [])) none met.begins in
    omega (arith, has.1)

pub no_start_is_refused : NoStartIsRefused
no_start_is_refused a controlled by_state none = (
  record {
    answers_kept = λ state number next met step answers. absurd (nothing_met a [] state none met);
    kept_answers = λ state number next met step has. absurd (nothing_met a [] state none met);
    refused = λ state cycle kept_cycle. absurd (nothing_met a [] state none kept_cycle.met);
  },
  λ state met. absurd (nothing_met a [] state none met),
)
