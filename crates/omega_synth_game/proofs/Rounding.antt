-- Edges, the edges that leave each state and the questions of the states make the rounds of an automaton.
use Rattle.std.proofs.Common.{◌≡◌, ◌↔◌, ℕ, zero, suc, ◌<◌, Bool, All, List, [], ◌∷◌, length, get_or, Contains, Some, sym, refl, ◌∙◌, subst, arith}
use Rattle.std.specs.Prelude.{slice_get}
use Rattle.std.proofs.lemmas.Option.{slice_get_within}
use Rattle.omega_hoa_parity_kind.specs.declared.kind.ParityKind.{ParityKind}
use Rattle.omega_hoa_automaton.specs.Automaton.{BodyEdge, Description, edge_count, edges_of}
use Rattle.omega_synth_controllers.specs.Controllers.{Answers}
use Rattle.omega_synth_rounds.specs.Rounds.{IsAskedIn, IsRounds, answers_of, no_edge}
use Rattle.omega_synth_rounds.specs.declared.rounds.QuestionRange.{QuestionRange}
use Rattle.omega_synth_rounds.specs.declared.rounds.RoundEdge.{RoundEdge}
use Rattle.omega_synth_rounds.specs.declared.rounds.Rounds.{Rounds}
use Rattle.omega_synth_game.specs.Classes.{AreEdgesFrom, IsLeaving}
use Rattle.omega_synth_game.specs.Letters.{holds_in, letter_of}
use Rattle.omega_synth_game.specs.Making.{AreAskedByState}
use Rattle.omega_synth_game.specs.private.Making.{AreAskedInTurn, AreLeaving, AreRoundEdges, AreStatesAsked, LeavesBelow, StatesLeave}
use Rattle.omega_synth_game.specs.RoundsOf.{AreRoundsOf, IsAnswerOf}

-- there is an edge of each number below the count
pub edge_there : (edges : List BodyEdge) (k : ℕ) → k < length edges → (edge : BodyEdge) × (slice_get edges k ≡ Some edge)
edge_there [] k below = absurd (omega arith)
edge_there (x ∷ xs) zero below = (x, refl)
edge_there (x ∷ xs) (suc k) below = edge_there xs k (omega arith)

module _ (a : Description) (kind : ParityKind) (edges : List RoundEdge) (are : AreRoundEdges a kind (edge_count a) edges) where
  pub sources_below : All (λ edge. edge.source < a.states) edges
  sources_below k d below =
      let P : RoundEdge → Type 0 = λ edge. edge.source < a.states in
      subst P (same_default edges k no_edge d below) (are.each k (omega (arith, below, are.entries))).source
    where
      same_default : (xs : List RoundEdge) (k : ℕ) (d e : RoundEdge) → k < length xs → get_or xs k d ≡ get_or xs k e
      same_default [] k d e below = absurd (omega arith)
      same_default (x ∷ xs) zero d e below = refl
      same_default (x ∷ xs) (suc k) d e below = same_default xs k d e (omega arith)

  pub leaves_from : (state number : ℕ) → LeavesBelow edges (length edges) state number → IsLeaving a state number
  leaves_from state number leaves =
      let below : number < edge_count a = omega (arith, leaves.0, are.entries) in
      let found = edge_there (edges_of a) number below in
      record {
        edge = found.0;
        numbered = found.1;
        leaves = sym ((are.each number below).each found.0 found.1).source ∙ leaves.1;
      }

  -- an edge that leaves a state has a number below the end
  pub leaves_below : (state number : ℕ) → IsLeaving a state number → LeavesBelow edges (length edges) state number
  leaves_below state number leaving_it =
      let below : number < edge_count a = slice_get_within (edges_of a) number leaving_it.edge leaving_it.numbered in (
        omega (arith, below, are.entries),
        ((are.each number below).each leaving_it.edge leaving_it.numbered).source ∙ leaving_it.leaves,
      )

  module _ (lists : List (List ℕ)) (leaving : AreLeaving edges a.states (length edges) lists) where
    pub edges_from : (state : ℕ) → state < a.states → AreEdgesFrom a state (get_or lists state [])
    edges_from state below = record {
      rising = leaving.rising state below;
      each = λ number.
          (let both = leaving.each state number below in (
            λ has. leaves_from state number (both.0 has),
            λ leaves. both.1 (leaves_below state number leaves),
          ));
    }

    pub states_leave : StatesLeave a lists
    states_leave = (leaving.entries, λ state below. edges_from state (omega (arith, below, leaving.entries)))

    module _ (controlled : List ℕ) (ranges : List QuestionRange) (letters answers : List (List ℕ))
        (asked : AreStatesAsked a controlled lists (length lists) ranges letters answers) where
      abbrev made : Rounds
      made = record { states = ranges; edges = edges; questions = answers }

      state_below : (state : ℕ) → state < length ranges → state < length lists
      state_below state below = omega (arith, below, asked.entries)

      -- the edges listed for a state that answer a letter
      answers_from : (state number : ℕ) (given : ℕ → Bool) → state < length lists
          → (Contains (get_or lists state []) number × Answers a controlled number given) ↔ IsAnswerOf a controlled state number given
      answers_from state number given below =
          let both = (edges_from state (omega (arith, below, leaving.entries))).each number in (
            λ found. (let it : IsLeaving a state number = both.0 found.0 in
                record { edge = it.edge; numbered = it.numbered; leaves = it.leaves; answers = found.1 }),
            λ answer. (
              both.1 (record { edge = answer.edge; numbered = answer.numbered; leaves = answer.leaves }),
              answer.answers,
            ),
          )

      answer_is : (state question number : ℕ) → IsAskedIn made state question
          → Contains (answers_of made question) number ↔ IsAnswerOf a controlled state number (holds_in (letter_of letters question))
      answer_is state question number is =
          let below : state < length lists = state_below state is.below in
          let both = asked.each state question below (is.from, is.until) number in
          let answers_it = answers_from state number (holds_in (letter_of letters question)) below in (
            λ has. answers_it.0 (both.0 has),
            λ answer. both.1 (answers_it.1 answer),
          )

      pub rounds_are : AreRoundsOf a controlled kind made letters
      rounds_are = record {
        states = asked.entries ∙ leaving.entries;
        edges = are.entries;
        each = λ number edge numbered. (are.each number (slice_get_within (edges_of a) number edge numbered)).each edge numbered;
        asked = answer_is;
        every = λ state given below.
            (let found = asked.every state given (omega (arith, below, leaving.entries)) in
            record {
              question = found.0;
              asked = record { below = omega (arith, below, leaving.entries, asked.entries); from = found.1.0; until = found.1.1 };
              answer = λ number.
                  (let both = found.2 number in
                  let answers_it = answers_from state number given (omega (arith, below, leaving.entries)) in
                  (λ has. answers_it.0 (both.0 has), λ answer. both.1 (answers_it.1 answer)));
            });
        apart = λ state one other in_one in_other have.
            asked.apart state one other (state_below state in_one.below) (in_one.from, in_one.until) (in_other.from, in_other.until) have;
        least = λ state question is.
            (let below : state < length lists = state_below state is.below in
            record {
              numbers = get_or lists state [];
              leave = edges_from state (omega (arith, below, leaving.entries));
              first = asked.least state question below (is.from, is.until);
            });
        rising = asked.rising;
      }

      pub by_state : AreAskedInTurn a controlled lists (length lists) ranges answers → AreAskedByState a controlled made
      by_state turn = record {
        classes = turn.classes;
        all = turn.entries ∙ leaving.entries;
        each = λ state below.
            (let listed : state < length lists = omega (arith, below, turn.entries) in
            record {
              numbers = get_or lists state [];
              leave = edges_from state (omega (arith, listed, leaving.entries));
              are = turn.each state listed;
            });
        questions = turn.listed;
        ranges = turn.ranged;
      }

      pub are_rounds : IsRounds made
      are_rounds = record {
        some = λ state below. asked.some state (state_below state below);
        within = λ state below. asked.within state (state_below state below);
        owned = λ question below.
            (let found = asked.owned question below in
            (found.0, record { below = omega (arith, found.1, asked.entries); from = found.2.0; until = found.2.1 }));
        answers = λ state question number is has.
            (let below : state < length lists = state_below state is.below in
            let found = (asked.each state question below (is.from, is.until) number).0 has in
            (leaving.each state number (omega (arith, below, leaving.entries))).0 found.0);
        targets = λ number below.
            omega (arith, (are.each number (omega (arith, below, are.entries))).target, asked.entries, leaving.entries);
        priorities = λ number below. (are.each number (omega (arith, below, are.entries))).priority;
      }

-- the same where each list is given as it is held
pub gathered : (a : Description) (kind : ParityKind) (controlled : List ℕ)
    (edges lent held : List RoundEdge) → lent ≡ edges → held ≡ edges → AreRoundEdges a kind (edge_count a) edges
    → (count : ℕ) → count ≡ a.states → (lists shown : List (List ℕ)) → shown ≡ lists → AreLeaving lent count (length lent) lists
    → (ranges states : List QuestionRange) → states ≡ ranges → (answers questions : List (List ℕ)) → questions ≡ answers
    → (letters its : List (List ℕ)) → its ≡ letters → AreStatesAsked a controlled shown (length shown) ranges letters answers
    → AreAskedInTurn a controlled shown (length shown) ranges answers
    → AreRoundsOf a controlled kind (record { states = states; edges = held; questions = questions }) its
    × IsRounds (record { states = states; edges = held; questions = questions })
    × AreAskedByState a controlled (record { states = states; edges = held; questions = questions })
gathered a kind controlled edges lent held lent_is held_is are count count_is lists shown shown_is leaving ranges states states_is answers questions
    questions_is letters its its_is asked turn =
    let held_are : AreRoundEdges a kind (edge_count a) held = subst (λ (list : List RoundEdge). AreRoundEdges a kind (edge_count a) list) (sym held_is) are in
    let left : AreLeaving held a.states (length held) lists =
    subst (λ (list : List RoundEdge). AreLeaving list a.states (length list) lists) (lent_is ∙ sym held_is)
    (subst (λ (n : ℕ). AreLeaving lent n (length lent) lists) count_is leaving) in
    let one : AreStatesAsked a controlled lists (length lists) ranges letters answers =
    subst (λ (list : List (List ℕ)). AreStatesAsked a controlled list (length list) ranges letters answers) shown_is asked in
    let two : AreStatesAsked a controlled lists (length lists) states letters answers =
    subst (λ (list : List QuestionRange). AreStatesAsked a controlled lists (length lists) list letters answers) (sym states_is) one in
    let three : AreStatesAsked a controlled lists (length lists) states its answers =
    subst (λ (list : List (List ℕ)). AreStatesAsked a controlled lists (length lists) states list answers) (sym its_is) two in
    let all : AreStatesAsked a controlled lists (length lists) states its questions =
    subst (λ (list : List (List ℕ)). AreStatesAsked a controlled lists (length lists) states its list) (sym questions_is) three in
    let first : AreAskedInTurn a controlled lists (length lists) ranges answers =
    subst (λ (list : List (List ℕ)). AreAskedInTurn a controlled list (length list) ranges answers) shown_is turn in
    let second : AreAskedInTurn a controlled lists (length lists) states answers =
    subst (λ (list : List QuestionRange). AreAskedInTurn a controlled lists (length lists) list answers) (sym states_is) first in
    let turns : AreAskedInTurn a controlled lists (length lists) states questions =
    subst (λ (list : List (List ℕ)). AreAskedInTurn a controlled lists (length lists) states list) (sym questions_is) second in (
      rounds_are a kind held held_are lists left controlled states its questions all,
      are_rounds a kind held held_are lists left controlled states its questions all,
      by_state a kind held held_are lists left controlled states its questions all turns,
    )
