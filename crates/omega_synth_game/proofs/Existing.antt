-- An automaton of a parity kind whose letters have classes in each state has rounds.
use Rattle.std.proofs.Common.{◌≡◌, ℕ, zero, suc, ◌+◌, ◌<◌, ◌≤◌, inl, inr, false, All, List, [], ◌∷◌, ◌++◌, length, map, get_or, Some, sym, ap, refl, ◌∙◌, subst, arith, length-append}
use Rattle.std.specs.List.Sorted.{IsStrictlyIncreasing}
use Rattle.std.proofs.Math.Seq.{get_or-append_seam}
use Rattle.std.proofs.lemmas.Bool.{cases_eq}
use Rattle.std.proofs.lemmas.List.{get_or-map, get_or_append_left, length-map}
use Rattle.std.proofs.lemmas.Option.{get_or_from_slice_get}
use Rattle.omega_hoa_parity_kind.specs.Priority.{priority_of}
use Rattle.omega_hoa_parity_kind.specs.declared.kind.ParityKind.{ParityKind}
use Rattle.omega_hoa_acceptance.specs.declared.kind.AccKind.TheVariants as kinds
use Rattle.omega_hoa_automaton.specs.AcceptanceKind.{HasKind}
use Rattle.omega_hoa_automaton.specs.Automaton.{BodyEdge, Description, IsAutomaton, edge_at, edge_count, edges_of}
use Rattle.omega_hoa_automaton.specs.Branching.{has_universal_branching}
use Rattle.omega_lang_runs.specs.Lasso.{IsStart, marks_of}
use Rattle.omega_lang_runs.proofs.Kept.{edge_kept, marks_are, marks_low}
use Rattle.omega_lang_runs.proofs.SingleTargets.{EntersOne, enters_one}
use Rattle.omega_synth_rounds.specs.Rounds.{IsRounds, no_edge}
use Rattle.omega_synth_rounds.specs.declared.rounds.QuestionRange.{QuestionRange}
use Rattle.omega_synth_rounds.specs.declared.rounds.RoundEdge.{RoundEdge}
use Rattle.omega_synth_rounds.specs.declared.rounds.Rounds.{Rounds}
use Rattle.omega_synth_game.specs.Classes.{AreEdgesFrom}
use Rattle.omega_synth_game.specs.Laws.{IsParted}
use Rattle.omega_synth_game.specs.Making.{AreClasses, AreClassesOf}
use Rattle.omega_synth_game.specs.private.Making.{AreAskedInTurn, AreLeaving, AreRoundEdges, AreStatesAsked, IsRoundEdgeAt}
use Rattle.omega_synth_game.specs.RoundsOf.{IsRoundEdgeOf}
use Rattle.omega_synth_game.proofs.EdgesMade.{count_low, priority_low}
use Rattle.omega_synth_game.proofs.Gathering.{range_with, states_more, states_none, turn_more, turn_none}
use Rattle.omega_synth_game.proofs.Rounding.{are_rounds, by_state, edge_there, leaves_below, leaves_from, rounds_are}

some_same : (x y : BodyEdge) → Some x ≡ Some y → x ≡ y
some_same x y e = cc

module _ (a : Description) (kind : ParityKind) (automaton : IsAutomaton a) (plain : has_universal_branching a ≡ false) (has : HasKind a (kinds.Parity kind)) where
  -- the edge of the rounds for an edge of the automaton
  abbrev round_edge : BodyEdge → RoundEdge
  round_edge edge = record { source = edge.source.number; target = get_or edge.edge.targets 0 0; priority = priority_of kind (marks_of edge) }

  abbrev edges : List RoundEdge
  edges = map round_edge (edges_of a)

  edge_is : (number : ℕ) (edge : BodyEdge) → edge_at a number ≡ Some edge → IsRoundEdgeAt a kind number (round_edge edge)
  edge_is number edge numbered =
      let one : EntersOne a.states edge = enters_one a automaton plain number edge numbered in
      let kept = edge_kept a automaton number edge numbered in
      let target : get_or edge.edge.targets 0 0 ≡ one.target = ap (λ (list : List ℕ). get_or list 0 0) one.enters in
      let below : All (λ mark. mark < kind.count) (marks_of edge) =
      let P : ℕ → Type 0 = λ count. All (λ mark. mark < count) (marks_of edge) in
      let Q : List ℕ → Type 0 = λ list. All (λ mark. mark < a.sets) list in
      subst P has.row.counted (subst Q (marks_are a number edge numbered) (marks_low a automaton number)) in
      let made : IsRoundEdgeOf kind edge (round_edge edge) = record {
        source = refl;
        target = one.enters ∙ ap (λ (t : ℕ). t ∷ []) (sym target);
        priority = refl;
      } in
      record {
        each = λ other its. subst (λ (e : BodyEdge). IsRoundEdgeOf kind e (round_edge edge)) (some_same edge other (sym numbered ∙ its)) made;
        source = kept.0.number;
        target = omega (arith, target, one.below);
        priority = omega (arith, priority_low kind (marks_of edge) below, count_low a kind automaton has);
      }

  edges_are : AreRoundEdges a kind (edge_count a) edges
  edges_are = record {
    entries = length-map (edges_of a) round_edge;
    each = λ number below.
        (let found = edge_there (edges_of a) number below in
        let here : get_or edges number no_edge ≡ round_edge found.0 =
        get_or-map round_edge (edges_of a) number found.0 no_edge below ∙ ap round_edge (get_or_from_slice_get (edges_of a) number found.0 found.0 found.1) in
        subst (λ (edge : RoundEdge). IsRoundEdgeAt a kind number edge) (sym here) (edge_is number found.0 found.1));
  }

  module _ (controlled : List ℕ) (classes : List (List (List ℕ))) (all : length classes ≡ a.states) (each : AreClassesOf a controlled classes) where
    -- the edges that leave each of the first states, and their classes
    record AreListed (states : ℕ) (lists : List (List ℕ)) : Type 0 where
      entries : length lists ≡ states
      leave : (state : ℕ) → state < states → AreEdgesFrom a state (get_or lists state [])
      classed : (state : ℕ) → state < states → AreClasses a controlled (get_or lists state []) (get_or classes state [])

    listed : (states : ℕ) → states ≤ a.states → (lists : List (List ℕ)) × AreListed states lists
    listed zero within = (
      [],
      record { entries = refl; leave = λ state below. absurd (omega (arith, below)); classed = λ state below. absurd (omega (arith, below)) },
    )
    listed (suc states) within =
        let before = listed states (omega (arith, within)) in
        let lists : List (List ℕ) = before.0 in
        let are : AreListed states lists = before.1 in
        let of = each states (omega (arith, within, all)) in
        let next : List (List ℕ) = lists ++ of.numbers ∷ [] in
        let old : (state : ℕ) → state < states → get_or lists state [] ≡ get_or next state [] =
        λ state below. sym (get_or_append_left lists (of.numbers ∷ []) [] state (omega (arith, below, are.entries))) in
        let new : (state : ℕ) → state ≡ states → of.numbers ≡ get_or next state [] =
        λ state same. sym (ap (λ n. get_or next n []) (same ∙ sym are.entries) ∙ get_or-append_seam lists of.numbers [] []) in (
          next,
          record {
            entries = length-append lists (of.numbers ∷ []) ∙ omega (arith, are.entries);
            leave = λ state below. elim (cases_eq state states) [
              | inl same ↦ subst (λ (numbers : List ℕ). AreEdgesFrom a state numbers) (new state same) (subst (λ (s : ℕ). AreEdgesFrom a s of.numbers) (sym same) of.leave)
              | inr apart ↦
                  let earlier : state < states = omega (arith, below, apart) in
                  subst (λ (numbers : List ℕ). AreEdgesFrom a state numbers) (old state earlier) (are.leave state earlier)
            ];
            classed = λ state below. elim (cases_eq state states) [
              | inl same ↦
                  subst (λ (numbers : List ℕ). AreClasses a controlled numbers (get_or classes state [])) (new state same)
                  (subst (λ (s : ℕ). AreClasses a controlled of.numbers (get_or classes s [])) (sym same) of.are)
              | inr apart ↦
                  let earlier : state < states = omega (arith, below, apart) in
                  subst (λ (numbers : List ℕ). AreClasses a controlled numbers (get_or classes state [])) (old state earlier) (are.classed state earlier)
            ];
          },
        )

    abbrev lists : List (List ℕ)
    lists = (listed a.states (omega arith)).0

    are_listed : AreListed a.states lists
    are_listed = (listed a.states (omega arith)).1

    leaving : AreLeaving edges a.states (length edges) lists
    leaving = record {
      entries = are_listed.entries;
      each = λ state number below.
          (let both = (are_listed.leave state below).each number in (
            λ contains. leaves_below a kind edges edges_are state number (both.0 contains),
            λ leaves. both.1 (leaves_from a kind edges edges_are state number leaves),
          ));
      rising = λ state below. (are_listed.leave state below).rising;
    }

    -- the questions of the first states
    record Asked (states : ℕ) : Type 0 where
      ranges : List QuestionRange
      letters : List (List ℕ)
      answers : List (List ℕ)
      are : AreStatesAsked a controlled lists states ranges letters answers
      turn : AreAskedInTurn a controlled lists states ranges answers

    asked_below : (states : ℕ) → states ≤ a.states → Asked states
    asked_below zero within = record {
      ranges = [];
      letters = [];
      answers = [];
      are = states_none a controlled lists;
      turn = turn_none a controlled lists;
    }
    asked_below (suc states) within =
        let before : Asked states = asked_below states (omega (arith, within)) in
        let numbers : List ℕ = get_or lists states [] in
        let fresh : List (List ℕ) = get_or classes states [] in
        let rises : IsStrictlyIncreasing numbers = (are_listed.leave states (omega (arith, within))).rising in
        let of = are_listed.classed states (omega (arith, within)) in
        let more : states + 1 ≡ suc states = omega arith in
        let longer : List QuestionRange = before.ranges ++ range_with (length before.answers) (length fresh) ∷ [] in
        record {
          ranges = longer;
          letters = before.letters ++ of.letters;
          answers = before.answers ++ fresh;
          are = subst (λ (n : ℕ). AreStatesAsked a controlled lists n longer (before.letters ++ of.letters) (before.answers ++ fresh)) more
              (states_more a controlled lists states before.ranges before.letters before.answers before.are numbers refl rises of.letters fresh of.questions);
          turn = subst (λ (n : ℕ). AreAskedInTurn a controlled lists n longer (before.answers ++ fresh)) more
              (turn_more a controlled lists states before.ranges before.answers numbers of.letters fresh before.turn refl of.questions of.few longer refl
              (before.answers ++ fresh) refl);
        }

    pub rounds_exist : (start : ℕ) → IsStart a start → length a.starts ≤ 1
        → (rounds : Rounds) × (letters : List (List ℕ)) × IsParted a controlled rounds letters start × IsRounds rounds
    rounds_exist start begins one_start =
        let asked : Asked a.states = asked_below a.states (omega arith) in
        let are : AreStatesAsked a controlled lists (length lists) asked.ranges asked.letters asked.answers =
        subst (λ (n : ℕ). AreStatesAsked a controlled lists n asked.ranges asked.letters asked.answers) (sym are_listed.entries) asked.are in
        let turn : AreAskedInTurn a controlled lists (length lists) asked.ranges asked.answers =
        subst (λ (n : ℕ). AreAskedInTurn a controlled lists n asked.ranges asked.answers) (sym are_listed.entries) asked.turn in (
          record { states = asked.ranges; edges = edges; questions = asked.answers },
          asked.letters,
          record {
            automaton = automaton;
            kind = kind;
            kind_is = has;
            begins = begins;
            one_start = one_start;
            rounds_are = rounds_are a kind edges edges_are lists leaving controlled asked.ranges asked.letters asked.answers are;
            by_state = by_state a kind edges edges_are lists leaving controlled asked.ranges asked.letters asked.answers are turn;
          },
          are_rounds a kind edges edges_are lists leaving controlled asked.ranges asked.letters asked.answers are,
        )
