-- A word is accepted by an automaton exactly if it is by the trimmed one.
use Rattle.std.proofs.Common.{◌≡◌, ◌↔◌, ℕ, zero, suc, ◌+◌, ◌<◌, cond, Bool, true, false, ◌&&◌, List, [], ◌∷◌, map, filter, Contains, refl, sym, ap, subst, ◌∙◌, arith}
use Rattle.std.specs.List.{list_all}
use Rattle.omega_hoa_automaton.specs.Automaton.{Description, IsAutomaton}
use Rattle.omega_hoa_automaton.specs.Branching.{has_universal_branching}
use Rattle.omega_lang_runs.specs.Lasso.{IsStart, marks_at}
use Rattle.omega_lang_runs.specs.Runs.{AcceptingRunsHaveLassos}
use Rattle.omega_lang_runs.specs.Words.{IsAccepted}
use Rattle.omega_lang_trim.specs.Trimmed.{new_number, stays, trimmed}
use Rattle.omega_lang_trim.specs.Useful.{AreUsefulStates}
use Rattle.omega_lang_trim.proofs.Kept.{filter_has}
use Rattle.omega_lang_trim.proofs.Among.{IsImage, contains_from_map, contains_map, place_one}
use Rattle.omega_lang_word_laws.proofs.parting.Moves.{IsMove, IsTakenStep, move_steps, step_moves}
use Rattle.omega_laws.specs.Trims.{TrimsAcceptTheSame}
use Rattle.omega_laws.proofs.Members.{stays_from}
use Rattle.omega_laws.proofs.Moved.{IsMovedFrom, move_back, move_on}
use Rattle.omega_laws.proofs.Runs.{satisfies_same, states_useful}

-- a start that stays, from one of the list
filter_of : {X : Type 0} (p : X → Bool) (xs : List X) (x : X) → Contains (filter p xs) x → Contains xs x × (p x ≡ true)
filter_of p [] x has = absurd (let below : has.0 < 0 = has.1 in omega arith)
filter_of p (y ∷ ys) x has = go (p y) refl has (λ later. filter_of p ys x later)
  where
    go : (b : Bool) → p y ≡ b → Contains (cond b (y ∷ filter p ys) (filter p ys)) x → (Contains (filter p ys) x → Contains ys x × (p x ≡ true))
        → Contains (y ∷ ys) x × (p x ≡ true)
    go true is (zero, below, same) others = ((0, omega arith, same), ap p (sym same) ∙ is)
    go true is (suc k, below, same) others =
        let rest = others (k, omega (arith, below), same) in
        ((suc rest.0.0, omega (arith, rest.0.1), rest.0.2), rest.1)
    go false is has others = let rest = others has in ((suc rest.0.0, omega (arith, rest.0.1), rest.0.2), rest.1)

module _ (have_lassos : AcceptingRunsHaveLassos) (a : Description) (kept : List ℕ) (useful : AreUsefulStates a kept) (automaton : IsAutomaton a)
    (trim_automaton : IsAutomaton (trimmed kept a)) (plain : has_universal_branching a ≡ false) (word : ℕ → ℕ → Bool) where
  abbrev trim : Description
  trim = trimmed kept a

  abbrev new : ℕ → ℕ
  new number = new_number kept number

  -- the run of the automaton, in the trimmed one
  module _ (accepted : IsAccepted a word) where
    abbrev states : ℕ → ℕ
    states i = accepted.states i

    has_state : (i : ℕ) → Contains kept (states i)
    has_state i = (useful.useful (states i)).1 (states_useful have_lassos a plain accepted.states accepted.edges accepted.accepting i)

    moved : (i : ℕ) → IsMove trim (new (states i)) (word i) (new (states (i + 1))) (marks_at a (accepted.edges i))
    moved i =
        move_on kept a (states i) (states (i + 1)) (word i) (marks_at a (accepted.edges i)) (has_state i) (has_state (i + 1))
        (step_moves a automaton (states i) (accepted.edges i) (states (i + 1)) (word i) (accepted.accepting.run.steps i) (accepted.taken i))

    steps : (i : ℕ) → IsTakenStep trim trim_automaton (new (states i)) (word i) (new (states (i + 1))) (marks_at a (accepted.edges i))
    steps i = move_steps trim trim_automaton (new (states i)) (word i) (new (states (i + 1))) (marks_at a (accepted.edges i)) (moved i)

    begins : IsStart trim (new (states 0))
    begins =
        let start = accepted.accepting.run.begins in
        let stay : list_all (stays kept) (states 0 ∷ []) ≡ true = ap (λ (b : Bool). b && true) (stays_from kept (states 0) (has_state 0)) in
        contains_map (map new) (filter (list_all (stays kept)) a.starts) (states 0 ∷ [])
        (filter_has (list_all (stays kept)) a.starts start.0 (states 0 ∷ []) start.1 (sym start.2) stay)

    pub accepted_on : IsAccepted trim word
    accepted_on = record {
      states = λ i. new (states i);
      edges = λ i. (steps i).number;
      accepting = record {
        run = record { begins = begins; steps = λ i. (steps i).step };
        accepted = satisfies_same (λ i. marks_at a (accepted.edges i)) (λ i. marks_at trim (steps i).number) (λ i. sym (steps i).marks_are) a.acceptance accepted.accepting.accepted;
      };
      taken = λ i. (steps i).taken;
    }

  -- a run of the trimmed automaton, in the whole one
  module _ (accepted : IsAccepted trim word) where
    back : (i : ℕ) → IsMovedFrom kept a (accepted.states i) (word i) (accepted.states (i + 1)) (marks_at trim (accepted.edges i))
    back i =
        move_back kept a (accepted.states i) (word i) (accepted.states (i + 1)) (marks_at trim (accepted.edges i))
        (step_moves trim trim_automaton (accepted.states i) (accepted.edges i) (accepted.states (i + 1)) (word i) (accepted.accepting.run.steps i) (accepted.taken i))

    abbrev old : ℕ → ℕ
    old i = (back i).old_from

    -- each move ends where the next one begins
    next : (i : ℕ) → (back i).old_to ≡ old (i + 1)
    next i = place_one kept (old (i + 1)) (back i).old_to (back (i + 1)).has_from ((back i).to_is ∙ sym (back (i + 1)).from_is)

    old_move : (i : ℕ) → IsMove a (old i) (word i) (old (i + 1)) (marks_at trim (accepted.edges i))
    old_move i = subst (λ to. IsMove a (old i) (word i) to (marks_at trim (accepted.edges i))) (next i) (back i).move

    old_steps : (i : ℕ) → IsTakenStep a automaton (old i) (word i) (old (i + 1)) (marks_at trim (accepted.edges i))
    old_steps i = move_steps a automaton (old i) (word i) (old (i + 1)) (marks_at trim (accepted.edges i)) (old_move i)

    old_start : (start : List ℕ) → list_all (stays kept) start ≡ true → map new start ≡ accepted.states 0 ∷ [] → start ≡ old 0 ∷ []
    old_start [] stay is = absurd (none is)
      where
        none : ◌≡◌ {A = List ℕ} [] (accepted.states 0 ∷ []) → ⊥
        none e = cc
    old_start (state ∷ []) stay is =
        ap (λ (s : ℕ). s ∷ []) (place_one kept (old 0) state (back 0).has_from (first is ∙ sym (back 0).from_is))
      where
        first : new state ∷ [] ≡ accepted.states 0 ∷ [] → new state ≡ accepted.states 0
        first e = cc
    old_start (state ∷ other ∷ others) stay is = absurd (more is)
      where
        more : new state ∷ new other ∷ map new others ≡ accepted.states 0 ∷ [] → ⊥
        more e = cc

    old_begins : IsStart a (old 0)
    old_begins =
        let from : IsImage (map new) (filter (list_all (stays kept)) a.starts) (accepted.states 0 ∷ []) =
        contains_from_map (map new) (filter (list_all (stays kept)) a.starts) (accepted.states 0 ∷ []) accepted.accepting.run.begins in
        let start = filter_of (list_all (stays kept)) a.starts from.x from.has in
        subst (Contains a.starts) (old_start from.x start.1 from.is) start.0

    pub accepted_back : IsAccepted a word
    accepted_back = record {
      states = old;
      edges = λ i. (old_steps i).number;
      accepting = record {
        run = record { begins = old_begins; steps = λ i. (old_steps i).step };
        accepted = satisfies_same (λ i. marks_at trim (accepted.edges i)) (λ i. marks_at a (old_steps i).number) (λ i. sym (old_steps i).marks_are) a.acceptance accepted.accepting.accepted;
      };
      taken = λ i. (old_steps i).taken;
    }

pub same_words : AcceptingRunsHaveLassos → TrimsAcceptTheSame
same_words have_lassos a other word automaton other_automaton plain trimmed_is =
    let kept : List ℕ = trimmed_is.kept in
    let here : IsAutomaton (trimmed kept a) = subst IsAutomaton trimmed_is.is other_automaton in
    subst (λ (t : Description). IsAccepted t word ↔ IsAccepted a word) (sym trimmed_is.is) (
      accepted_back have_lassos a kept trimmed_is.useful automaton here plain word,
      accepted_on have_lassos a kept trimmed_is.useful automaton here plain word,
    )
