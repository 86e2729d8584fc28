-- Runs of an automaton on its part of a word are runs of a union in its part.
use Rattle.std.proofs.Common.{◌≡◌, ℕ, zero, suc, ◌+◌, ◌<◌, Bool, List, length, Contains, sym, ap, subst, ◌∙◌, arith, add-one}
use Rattle.std.proofs.lemmas.List.Elements.{All-contains}
use Rattle.omega_hoa_acceptance.specs.Acceptance.{AccTree, holds}
use Rattle.omega_hoa_automaton.specs.Automaton.{Description, IsAutomaton}
use Rattle.omega_hoa_edges.specs.AutomatonLabels.{state_at}
use Rattle.omega_lang_product.specs.Joining.{part_of_word}
use Rattle.omega_lang_runs.specs.Lasso.{IsStart, marks_at}
use Rattle.omega_lang_runs.specs.Runs.{Satisfies}
use Rattle.omega_lang_runs.specs.Words.{IsAccepted}
use Rattle.omega_lang_runs.proofs.Kept.{marks_low}
use Rattle.omega_lang_union.specs.Parts.{Part, state_in}
use Rattle.omega_lang_word_laws.proofs.meeting.Marks.{moved_nowhere, satisfies_moved}
use Rattle.omega_lang_word_laws.proofs.parting.Moves.{IsMove, IsTakenStep, move_steps, step_moves}
use Rattle.omega_laws.proofs.UnionMoved.{IsMovedFrom, enters_low, marks_in, move_back, move_on}

-- marks that are the same satisfy the same
satisfies_same : (marks others : ℕ → List ℕ) → ((i : ℕ) → marks i ≡ others i) → (f : AccTree) → Satisfies marks f → Satisfies others f
satisfies_same marks others same f h =
    subst (λ (g : AccTree). Satisfies others g) (moved_nowhere f)
    (satisfies_moved 0 marks others f
    (λ set has i. (let e : 0 + set ≡ set = omega arith in ap (holds set) (same i) ∙ ap (λ (s : ℕ). holds s (others i)) (sym e)))
    h)

-- the marks of edges are below the count of sets
pub marks_below : (x : Description) → IsAutomaton x → (number m : ℕ) → Contains (marks_at x number) m → m < x.sets
marks_below x automaton number m has = All-contains (λ n. n < x.sets) (marks_at x number) m (marks_low x automaton number) has

module _ (x u : Description) (part : Part) (counted : length part.places ≡ length x.propositions)
    (there : (number : ℕ) → number < x.states → state_at u (part.states + number) ≡ state_in part (state_at x number))
    (automaton : IsAutomaton x) (u_automaton : IsAutomaton u) (word : ℕ → ℕ → Bool) where
  -- what the automaton sees of the word
  abbrev pub part_word : ℕ → ℕ → Bool
  part_word = part_of_word part.places word

  -- a run of the automaton, in the union
  module _ (accepted : IsAccepted x part_word) (low : accepted.states 0 < x.states) (begins : IsStart u (part.states + accepted.states 0)) where
    abbrev own_marks : ℕ → List ℕ
    own_marks i = marks_at x (accepted.edges i)

    below : (i : ℕ) → accepted.states i < x.states
    below zero = low
    below (suc i) =
        subst (λ (n : ℕ). accepted.states n < x.states) (add-one i)
        (enters_low x automaton (accepted.states i) (accepted.edges i) (accepted.states (i + 1)) (accepted.accepting.run.steps i))

    moved : (i : ℕ) → IsMove u (part.states + accepted.states i) (word i) (part.states + accepted.states (i + 1)) (marks_in part (own_marks i))
    moved i =
        move_on x u part counted there (accepted.states i) (word i) (accepted.states (i + 1)) (own_marks i) (below i)
        (step_moves x automaton (accepted.states i) (accepted.edges i) (accepted.states (i + 1)) (part_word i) (accepted.accepting.run.steps i) (accepted.taken i))

    steps : (i : ℕ) → IsTakenStep u u_automaton (part.states + accepted.states i) (word i) (part.states + accepted.states (i + 1)) (marks_in part (own_marks i))
    steps i = move_steps u u_automaton (part.states + accepted.states i) (word i) (part.states + accepted.states (i + 1)) (marks_in part (own_marks i)) (moved i)

    pub accepted_on : Satisfies (λ i. marks_in part (own_marks i)) u.acceptance → IsAccepted u word
    accepted_on h = record {
      states = λ i. part.states + accepted.states i;
      edges = λ i. (steps i).number;
      accepting = record {
        run = record { begins = begins; steps = λ i. (steps i).step };
        accepted = satisfies_same (λ i. marks_in part (own_marks i)) (λ i. marks_at u (steps i).number) (λ i. sym (steps i).marks_are) u.acceptance h;
      };
      taken = λ i. (steps i).taken;
    }

  -- a run of the union that begins in the part, of the automaton
  module _ (accepted : IsAccepted u word) (start : ℕ) (start_is : accepted.states 0 ≡ part.states + start) (start_low : start < x.states) (begins : IsStart x start) where
    record IsAt (i : ℕ) : Type 0 where
      pub old : ℕ
      pub is : accepted.states i ≡ part.states + old
      pub low : old < x.states

    move_at : (i : ℕ) (at : IsAt i) → IsMovedFrom x u part counted there at.old (word i) (accepted.states (i + 1)) (marks_at u (accepted.edges i))
    move_at i at =
        move_back x u part counted there at.old (word i) (accepted.states (i + 1)) (marks_at u (accepted.edges i)) at.low
        (subst (λ (n : ℕ). IsMove u n (word i) (accepted.states (i + 1)) (marks_at u (accepted.edges i))) at.is
        (step_moves u u_automaton (accepted.states i) (accepted.edges i) (accepted.states (i + 1)) (word i) (accepted.accepting.run.steps i) (accepted.taken i)))

    abbrev next : (i : ℕ) → IsAt i → IsAt (suc i)
    next i at =
        let m = move_at i at in
        let step : IsTakenStep x automaton at.old (part_word i) m.old_to m.old_marks = move_steps x automaton at.old (part_word i) m.old_to m.old_marks m.move in
        record {
          old = m.old_to;
          is = ap accepted.states (sym (add-one i)) ∙ m.to_is;
          low = enters_low x automaton at.old step.number m.old_to step.step;
        }

    abbrev at : (i : ℕ) → IsAt i
    at zero = record { old = start; is = start_is; low = start_low }
    at (suc i) = next i (at i)

    abbrev old : ℕ → ℕ
    old i = (at i).old

    abbrev old_marks : ℕ → List ℕ
    old_marks i = (move_at i (at i)).old_marks

    next_is : (i : ℕ) → (move_at i (at i)).old_to ≡ old (i + 1)
    next_is i = ap (λ (n : ℕ). old n) (sym (add-one i))

    step_at : (i : ℕ) → IsTakenStep x automaton (old i) (part_word i) (old (i + 1)) (old_marks i)
    step_at i =
        move_steps x automaton (old i) (part_word i) (old (i + 1)) (old_marks i)
        (subst (λ (to : ℕ). IsMove x (old i) (part_word i) to (old_marks i)) (next_is i) (move_at i (at i)).move)

    old_below : (i m : ℕ) → Contains (old_marks i) m → m < x.sets
    old_below i m has = marks_below x automaton (step_at i).number m (subst (λ (marks : List ℕ). Contains marks m) (sym (step_at i).marks_are) has)

    pub accepted_back : ((marks : ℕ → List ℕ) → ((i m : ℕ) → Contains (marks i) m → m < x.sets) → Satisfies (λ i. marks_in part (marks i)) u.acceptance → Satisfies marks x.acceptance)
        → IsAccepted x part_word
    accepted_back within = record {
      states = λ i. old i;
      edges = λ i. (step_at i).number;
      accepting = record {
        run = record { begins = begins; steps = λ i. (step_at i).step };
        accepted = satisfies_same old_marks (λ i. marks_at x (step_at i).number) (λ i. sym (step_at i).marks_are) x.acceptance
            (within old_marks old_below (satisfies_same (λ i. marks_at u (accepted.edges i)) (λ i. marks_in part (old_marks i)) (λ i. (move_at i (at i)).marks_are) u.acceptance accepted.accepting.accepted));
      };
      taken = λ i. (step_at i).taken;
    }
