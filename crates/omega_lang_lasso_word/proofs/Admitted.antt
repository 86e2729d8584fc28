-- A run along a lasso, whose edges are those of the stem and then those of the cycle for ever.
use Rattle.std.proofs.Common.{◌≡◌, ℕ, zero, suc, Bool, List, [], ◌∷◌, map, true, refl, sym, subst, add-one}
use Rattle.omega_hoa_acceptance.specs.Acceptance.{accepts}
use Rattle.omega_hoa_automaton.specs.Automaton.{Description}
use Rattle.omega_lang_runs.specs.Lasso.{IsStart, IsStep, Leads, marks_at}
use Rattle.omega_lang_runs.specs.Runs.{Satisfies}
use Rattle.omega_lang_runs.specs.Words.{CanBeTaken, IsAccepted}
use Rattle.omega_lang_runs.proofs.runs.Forever.{ever, ever_satisfies}
use Rattle.omega_lang_lasso_word.specs.Fitting.{along}
use Rattle.omega_lang_lasso_word.specs.Laws.{AdmittedWordsAreAccepted}

-- the numbers along a lasso
along_ever : (first : ℕ) (others numbers : List ℕ) (i : ℕ) → ever first others numbers i ≡ along first others numbers i
along_ever first others [] zero = refl
along_ever first others [] (suc i) = along_ever first others others i
along_ever first others (x ∷ xs) zero = refl
along_ever first others (x ∷ xs) (suc i) = along_ever first others xs i

module _ (a : Description) (loop_state first : ℕ) (others : List ℕ) (lap : Leads a loop_state (first ∷ others) loop_state) where
  -- the states on the way along edges to the loop state, and then round the lap for ever
  abbrev state_along : (s i : ℕ) (numbers : List ℕ) → Leads a s numbers loop_state → ℕ
  state_along s zero numbers leads = s
  state_along s (suc i) [] leads = state_along lap.0 i others lap.2
  state_along s (suc i) (x ∷ xs) leads = state_along leads.0 i xs leads.2

  -- each step is one of the edges
  step_along : (s i : ℕ) (numbers : List ℕ) (leads : Leads a s numbers loop_state)
      → IsStep a (state_along s i numbers leads) (along first others numbers i) (state_along s (suc i) numbers leads)
  step_along s zero [] leads = let P : ℕ → Type 0 = λ n. IsStep a n first lap.0 in subst P (sym leads) lap.1
  step_along s zero (x ∷ xs) leads = leads.1
  step_along s (suc i) [] leads = step_along lap.0 i others lap.2
  step_along s (suc i) (x ∷ xs) leads = step_along leads.0 i xs leads.2

  -- so the word of these edges is accepted
  accepted_along : (start : ℕ) (stem : List ℕ) (word : ℕ → ℕ → Bool) → IsStart a start → Leads a start stem loop_state
      → accepts (map (marks_at a) (first ∷ others)) a.acceptance ≡ true → ((i : ℕ) → CanBeTaken a (along first others stem i) (word i)) → IsAccepted a word
  accepted_along start stem word begins leads accepted admitted = record {
    states = λ i. state_along start i stem leads;
    edges = λ i. along first others stem i;
    accepting = record {
      run = record {
        begins = begins;
        steps = λ i. (let P : ℕ → Type 0 = λ n. IsStep a (state_along start i stem leads) (along first others stem i) (state_along start n stem leads) in
            subst P (sym (add-one i)) (step_along start i stem leads));
      };
      accepted = (let P : (ℕ → ℕ) → Type 0 = λ f. Satisfies (λ i. marks_at a (f i)) a.acceptance in
          subst P (λ j i. along_ever first others stem i j) (ever_satisfies (marks_at a) first others stem a.acceptance accepted));
    };
    taken = admitted;
  }

-- the law
pub admitted_words_are_accepted : AdmittedWordsAreAccepted
admitted_words_are_accepted a stem first others word plain lasso admitted =
    accepted_along a lasso.lasso.loop_state first others lasso.lasso.cycle_leads lasso.lasso.start stem word lasso.lasso.begins lasso.lasso.stem_leads lasso.accepted admitted
