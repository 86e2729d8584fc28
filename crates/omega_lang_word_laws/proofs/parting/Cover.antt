-- Each word is accepted by a deterministic automaton or by its complement: the complement has a run for each word,
-- which is one of the automaton, or ends in the sink.
use Rattle.std.proofs.Common.{◌≡◌, ◌==◌, ℕ, zero, suc, ◌+◌, ◌<◌, ◌≤◌, ◌⊎◌, inl, inr, Bool, true, false, ◌||◌, List, [], ◌∷◌, ◌++◌, length, slice_get, Some, Contains, refl, sym, ap, subst, ◌∙◌, arith, eqb-true, eq-eqb, true≢false}
use Rattle.std.specs.Prelude.{IsTrue}
use Rattle.std.specs.List.{list_any}
use Rattle.omega_hoa_acceptance.specs.Acceptance.{holds}
use Rattle.omega_hoa_label.specs.Label.{truth}
use Rattle.omega_hoa_automaton.specs.Automaton.{Description, IsAutomaton}
use Rattle.omega_hoa_automaton.specs.Meaning.{Means}
use Rattle.omega_hoa_automaton.specs.declared.edge.Edge.{Edge}
use Rattle.omega_hoa_automaton.proofs.validity.Automata.{means_is_automaton}
use Rattle.omega_graph.specs.Marks.{meets}
use Rattle.omega_lang_runs.specs.Lasso.{IsStart, IsStep, marks_at}
use Rattle.omega_lang_runs.specs.Runs.{Satisfies}
use Rattle.omega_lang_runs.specs.Words.{IsAccepted}
use Rattle.omega_hoa_syntax.specs.declared.raw_automaton.RawAutomaton.{RawAutomaton}
use Rattle.omega_hoa_edges.specs.Determinism.{IsDeterministic}
use Rattle.omega_hoa_acceptance.specs.Dual.{dual}
use Rattle.omega_hoa_edges.specs.AutomatonLabels.{labels_at, state_at}
use Rattle.omega_hoa_edges.specs.Labels.{label_at}
use Rattle.omega_lang_complement.specs.Written.{IsWrittenComplement}
use Rattle.omega_hoa_edges.proofs.Rows.{each_at}
use Rattle.omega_lang_word_laws.proofs.parting.Apart.{move_within}
use Rattle.omega_lang_word_laws.proofs.parting.Formulas.{AreSame, AreSettled, one_of_both, settled_same}
use Rattle.omega_lang_word_laws.proofs.parting.Meant.{HoldSame, acceptance_plain, acceptance_sink, lost_moves, own_moves, sink_moves, starts_are}
use Rattle.omega_lang_word_laws.proofs.parting.Moves.{IsMove, IsTakenStep, move_steps}
use Rattle.omega_lang_word_laws.proofs.parting.Plain.{IsGood, beginning, target_of}
use Rattle.omega_lang_word_laws.specs.Complements.{ComplementsCover}
use Rattle.omega_text.proofs.Omniscience.{RecursOrCeases, recurs_or_ceases}

any_there : {X : Type 0} (p : X → Bool) (xs : List X) → list_any p xs ≡ true → (k : ℕ) × ((x : X) × (slice_get xs k ≡ Some x) × (p x ≡ true))
any_there p [] e = absurd (true≢false (sym e))
any_there p (x ∷ xs) e = go (p x) refl (any_there p xs) e
  where
    rest_of : (b : Bool) → p x ≡ b → b ≡ false → (p x || list_any p xs) ≡ true → list_any p xs ≡ true
    rest_of b is none some = sym (ap (λ v. v || list_any p xs) (is ∙ none)) ∙ some

    go : (b : Bool) → p x ≡ b → (list_any p xs ≡ true → (k : ℕ) × ((y : _) × (slice_get xs k ≡ Some y) × (p y ≡ true))) → (p x || list_any p xs) ≡ true
        → (k : ℕ) × ((y : _) × (slice_get (x ∷ xs) k ≡ Some y) × (p y ≡ true))
    go true is rest some = (0, (x, refl, is))
    go false is rest some = let found = rest (rest_of false is refl some) in (suc found.0, found.1)

-- steps that are taken along a word, of marks that the acceptance holds of
accepted_by : (d : Description) (is_d : IsAutomaton d) (word : ℕ → ℕ → Bool) (states : ℕ → ℕ) (marks : ℕ → List ℕ)
    (taken : (i : ℕ) → IsTakenStep d is_d (states i) (word i) (states (suc i)) (marks i)) → IsStart d (states 0) → Satisfies (λ i. marks_at d ((taken i).number)) d.acceptance
    → IsAccepted d word
accepted_by d is_d word states marks taken begins accepted = record {
  states = states;
  edges = λ i. (taken i).number;
  accepting = record {
    run = record {
      begins = begins;
      steps = λ i. let next : suc i ≡ i + 1 = omega arith in subst (λ k. IsStep d (states i) ((taken i).number) (states k)) next (taken i).step;
    };
    accepted = accepted;
  };
  taken = λ i. (taken i).taken;
}

module _ (a c : Description) (is_a : IsAutomaton a) (deterministic : IsDeterministic a) (raw : RawAutomaton) (written : IsWrittenComplement a raw) (means : Means raw c) (is_c : IsAutomaton c) where
  -- a move that both have
  pub record IsBoth (n : ℕ) (held : ℕ → Bool) (to : ℕ) : Type 0 where
    pub inside : n < a.states
    pub within : to < a.states
    pub own : List ℕ
    pub marks : List ℕ
    pub move : IsMove a n held to own
    pub other : IsMove c n held to marks
    pub same : HoldSame marks own

  -- a move to the sink
  pub record IsSunk (n : ℕ) (held : ℕ → Bool) (to : ℕ) : Type 0 where
    pub at : to ≡ a.states
    pub sink : written.sink ≡ true
    pub marks : List ℕ
    pub other : IsMove c n held to marks
    pub kept : n ≡ a.states → holds a.sets marks ≡ true

  abbrev pub IsNext : ℕ → (ℕ → Bool) → ℕ → Type 0
  IsNext n held to = IsBoth n held to ⊎ IsSunk n held to

  next : (n : ℕ) (held : ℕ → Bool) → IsGood a written.sink n → (to : ℕ) × IsNext n held to
  next n held (inr (is, sink)) =
      let moved = sink_moves a c raw written means is_c held sink in (
        a.states,
        inr (record {
          at = refl;
          sink = sink;
          marks = moved.0;
          other = subst (λ m. IsMove c m held a.states moved.0) (sym is) moved.1.0;
          kept = λ e. moved.1.1;
        }),
      )
  next n held (inl below) = go (list_any (truth held) (labels_at a n)) refl
    where
      go : (b : Bool) → list_any (truth held) (labels_at a n) ≡ b → (to : ℕ) × IsNext n held to
      go false lacks =
          let moved = lost_moves a c raw written means is_c n held below lacks in (
            a.states,
            inr (record {
              at = refl;
              sink = written.needed.1 (inr (n, below, (held, lacks)));
              marks = moved.0;
              other = moved.1;
              kept = λ e. absurd (omega (arith, e, below));
            }),
          )
      go true some =
          let found = any_there (truth held) (labels_at a n) some in
          let own = each_at (label_at (length a.propositions) (state_at a n)) (state_at a n).edges found.0 found.1.0 found.1.1 in
          let edge : Edge = own.0 in
          let target = target_of a is_a deterministic n found.0 edge own.1.0 in
          let move : IsMove a n held target.0 ((state_at a n).marks ++ edge.marks) =
          record {
            index = found.0;
            edge = edge;
            there = own.1.0;
            holds = sym (ap (truth held) own.1.1) ∙ found.1.2;
            enters = target.1;
            marked = refl;
          } in
          let moved = own_moves a c raw written means is_c n held target.0 ((state_at a n).marks ++ edge.marks) below move in (
            target.0,
            inl (record {
              inside = below;
              within = move_within a is_a n held target.0 ((state_at a n).marks ++ edge.marks) move;
              own = (state_at a n).marks ++ edge.marks;
              marks = moved.0;
              move = move;
              other = moved.1.0;
              same = moved.1.1;
            }),
          )

  good_next : (n : ℕ) (held : ℕ → Bool) (to : ℕ) → IsNext n held to → IsGood a written.sink to
  good_next n held to (inl both) = inl both.within
  good_next n held to (inr sunk) = inr (sunk.at, sunk.sink)

  -- a run that the automaton has until it enters the sink
  pub record IsRunOn (word : ℕ → ℕ → Bool) : Type 0 where
    pub states : ℕ → ℕ
    pub good : (i : ℕ) → IsGood a written.sink (states i)
    pub step : (i : ℕ) → IsNext (states i) (word i) (states (suc i))
    pub begins : states 0 ≡ (beginning a is_a deterministic written.sink written.needed).state

  -- the marks of the automaton at a step
  abbrev pub own_next : (n : ℕ) (held : ℕ → Bool) (to : ℕ) → IsNext n held to → List ℕ
  own_next n held to (inl both) = both.own
  own_next n held to (inr sunk) = []

  module _ (word : ℕ → ℕ → Bool) where
    abbrev states_with : ℕ → (n : ℕ) × IsGood a written.sink n
    states_with zero = ((beginning a is_a deterministic written.sink written.needed).state, (beginning a is_a deterministic written.sink written.needed).good)
    states_with (suc i) = (
      (next (states_with i).0 (word i) (states_with i).1).0,
      good_next (states_with i).0 (word i) (next (states_with i).0 (word i) (states_with i).1).0 (next (states_with i).0 (word i) (states_with i).1).1,
    )

    -- each word has a run
    pub run_on : IsRunOn word
    run_on = record {
      states = λ i. (states_with i).0;
      good = λ i. (states_with i).1;
      step = λ i. (next (states_with i).0 (word i) (states_with i).1).1;
      begins = refl;
    }

  module _ (word : ℕ → ℕ → Bool) (run : IsRunOn word) where
    abbrev states : ℕ → ℕ
    states i = run.states i

    abbrev step : (i : ℕ) → IsNext (states i) (word i) (states (suc i))
    step i = run.step i

    begins_there : IsStart c (states 0)
    begins_there =
        subst (λ (n : ℕ). IsStart c n) (sym run.begins)
        (subst (λ (ss : List (List ℕ)). Contains ss ((beginning a is_a deterministic written.sink written.needed).state ∷ [])) (sym (starts_are a c raw written means is_c))
        (0, omega arith, (beginning a is_a deterministic written.sink written.needed).begins))

    -- the marks of the automaton along the run
    abbrev pub own_marks : ℕ → List ℕ
    own_marks i = own_next (states i) (word i) (states (suc i)) (step i)

    -- into the sink for ever
    abbrev marks_next : (n : ℕ) (held : ℕ → Bool) (to : ℕ) → IsNext n held to → List ℕ
    marks_next n held to (inl both) = both.marks
    marks_next n held to (inr sunk) = sunk.marks

    other_next : (n : ℕ) (held : ℕ → Bool) (to : ℕ) (x : IsNext n held to) → IsMove c n held to (marks_next n held to x)
    other_next n held to (inl both) = both.other
    other_next n held to (inr sunk) = sunk.other

    kept_next : (n : ℕ) (held : ℕ → Bool) (to : ℕ) (x : IsNext n held to) → n ≡ a.states → (holds a.sets (marks_next n held to x) ≡ true) × (written.sink ≡ true)
    kept_next n held to (inl both) e = absurd (omega (arith, both.inside, e))
    kept_next n held to (inr sunk) e = (sunk.kept e, sunk.sink)

    stays_next : (n : ℕ) (held : ℕ → Bool) (to : ℕ) → IsNext n held to → n ≡ a.states → to ≡ a.states
    stays_next n held to (inl both) e = absurd (omega (arith, both.inside, e))
    stays_next n held to (inr sunk) e = sunk.at

    taken_other : (i : ℕ) → IsTakenStep c is_c (states i) (word i) (states (suc i)) (marks_next (states i) (word i) (states (suc i)) (step i))
    taken_other i =
        move_steps c is_c (states i) (word i) (states (suc i)) (marks_next (states i) (word i) (states (suc i)) (step i)) (other_next (states i) (word i) (states (suc i)) (step i))

    for_ever : ((i : ℕ) → (j : ℕ) × (i ≤ j) × IsTrue (states j == a.states)) → IsAccepted c word
    for_ever always =
        accepted_by c is_c word states (λ i. marks_next (states i) (word i) (states (suc i)) (step i)) taken_other begins_there
        (subst (Satisfies (λ i. marks_at c ((taken_other i).number))) (sym (acceptance_sink a c raw written means is_c sink)) (inr (λ i. let at = always i in (at.0, at.1, held at.0 at.2))))
      where
        there : (j : ℕ) → IsTrue (states j == a.states) → states j ≡ a.states
        there j e = eqb-true (states j) a.states e

        sink : written.sink ≡ true
        sink =
            let at = always 0 in
            (kept_next (states at.0) (word at.0) (states (suc at.0)) (step at.0) (there at.0 at.2)).1

        held : (j : ℕ) → IsTrue (states j == a.states) → holds a.sets (marks_at c ((taken_other j).number)) ≡ true
        held j e = ap (holds a.sets) (taken_other j).marks_are ∙ (kept_next (states j) (word j) (states (suc j)) (step j) (there j e)).0

    -- never into the sink
    stays_on : (k j : ℕ) → states j ≡ a.states → states (k + j) ≡ a.states
    stays_on zero j e = let plain : j ≡ zero + j = omega arith in subst (λ m. states m ≡ a.states) plain e
    stays_on (suc k) j e =
        let more : suc (k + j) ≡ suc k + j = omega arith in
        subst (λ m. states m ≡ a.states) more (stays_next (states (k + j)) (word (k + j)) (states (suc (k + j))) (step (k + j)) (stays_on k j e))

    module _ (settled : AreSettled own_marks) (from : ℕ) (never : (j : ℕ) → from ≤ j → (states j == a.states) ≡ false) where
      inside : (j : ℕ) → states j < a.states
      inside j = go (run.good j)
        where
          go : IsGood a written.sink (states j) → states j < a.states
          go (inl less) = less
          go (inr (is, sink)) =
              absurd (true≢false (sym (eq-eqb (states (from + j)) a.states (stays_on from j is)) ∙ never (from + j) (omega arith)))

      both_with : (j : ℕ) → (b : IsBoth (states j) (word j) (states (suc j))) × (own_marks j ≡ b.own)
      both_with j = go (step j)
        where
          go : (x : IsNext (states j) (word j) (states (suc j)))
              → (b : IsBoth (states j) (word j) (states (suc j))) × (own_next (states j) (word j) (states (suc j)) x ≡ b.own)
          go (inl b) = (b, refl)
          go (inr sunk) = let less : states (suc j) < a.states = inside (suc j) in absurd (omega (arith, sunk.at, less))

      abbrev both : (j : ℕ) → IsBoth (states j) (word j) (states (suc j))
      both j = (both_with j).0

      taken_own : (i : ℕ) → IsTakenStep a is_a (states i) (word i) (states (suc i)) (both i).own
      taken_own i = move_steps a is_a (states i) (word i) (states (suc i)) (both i).own (both i).move

      taken_both : (i : ℕ) → IsTakenStep c is_c (states i) (word i) (states (suc i)) (both i).marks
      taken_both i = move_steps c is_c (states i) (word i) (states (suc i)) (both i).marks (both i).other

      same : AreSame (λ i. marks_at a ((taken_own i).number)) (λ i. marks_at c ((taken_both i).number))
      same i set = ap (holds set) (taken_own i).marks_are ∙ sym ((both i).same set) ∙ sym (ap (holds set) (taken_both i).marks_are)

      settled_own : AreSettled (λ i. marks_at a ((taken_own i).number))
      settled_own = settled_same own_marks (λ i. marks_at a ((taken_own i).number)) (λ i. (both_with i).1 ∙ sym (taken_own i).marks_are) settled

      start_own : IsStart a (states 0)
      start_own =
          let first : (beginning a is_a deterministic written.sink written.needed).state < a.states = subst (λ (n : ℕ). n < a.states) run.begins (inside 0) in
          subst (λ (n : ℕ). IsStart a n) (sym run.begins) ((beginning a is_a deterministic written.sink written.needed).inside first)

      at_last : IsAccepted a word ⊎ IsAccepted c word
      at_last = go (one_of_both a.acceptance (λ i. marks_at a ((taken_own i).number)) (λ i. marks_at c ((taken_both i).number)) settled_own same)
        where
          turned : (b : Bool) → written.sink ≡ b → Satisfies (λ i. marks_at c ((taken_both i).number)) (dual a.acceptance)
              → Satisfies (λ i. marks_at c ((taken_both i).number)) c.acceptance
          turned false e sat = subst (Satisfies (λ i. marks_at c ((taken_both i).number))) (sym (acceptance_plain a c raw written means is_c e)) sat
          turned true e sat = subst (Satisfies (λ i. marks_at c ((taken_both i).number))) (sym (acceptance_sink a c raw written means is_c e)) (inl sat)

          go : Satisfies (λ i. marks_at a ((taken_own i).number)) a.acceptance ⊎ Satisfies (λ i. marks_at c ((taken_both i).number)) (dual a.acceptance)
              → IsAccepted a word ⊎ IsAccepted c word
          go (inl sat) = inl (accepted_by a is_a word states (λ i. (both i).own) taken_own start_own sat)
          go (inr sat) = inr (accepted_by c is_c word states (λ i. (both i).marks) taken_both begins_there (turned written.sink refl sat))

    -- if what recurs along the run is known
    pub covered : RecursOrCeases (λ j. states j == a.states) → AreSettled own_marks → IsAccepted a word ⊎ IsAccepted c word
    covered (inl always) settled = inr (for_ever always)
    covered (inr never) settled = at_last settled never.0 never.1

pub complements_over : ComplementsCover
complements_over omniscience a c word is_a deterministic (raw, written, means) =
    let is_c : IsAutomaton c = means_is_automaton raw c means in
    let run = run_on a c is_a deterministic raw written means is_c word in
    covered a c is_a deterministic raw written means is_c word run
    (recurs_or_ceases omniscience (λ j. run.states j == a.states))
    (λ negated set. recurs_or_ceases omniscience (λ j. meets negated set (own_marks a c is_a deterministic raw written means is_c word run j)))
