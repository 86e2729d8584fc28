-- A controller realizes: the strategy goes along an answer of the state that it has come to.
use Rattle.std.proofs.Common.{ℕ, Bool, false, List, [], ◌∷◌, Contains, sym, subst, add-one}
use Rattle.omega_hoa_automaton.specs.Automaton.{Description}
use Rattle.omega_lang_runs.specs.Lasso.{IsStep}
use Rattle.omega_lang_runs.specs.Runs.{IsRun}
use Rattle.omega_lang_runs.specs.Words.{CanBeTaken, IsAccepted}
use Rattle.omega_synth_controllers.specs.Controllers.{HasAnswer, IsController, IsMet}
use Rattle.omega_synth_controllers.specs.Laws.{ControllersAnswer, ControllersRealize}
use Rattle.omega_text.specs.Omniscience.{LimitedPrincipleOfOmniscience}
use Rattle.omega_synth_controllers.specs.Strategies.{HasKeptRun, System, so_far, word_of}
use Rattle.omega_synth_controllers.proofs.Accepting.{kept_runs_are_accepting}
use Rattle.omega_synth_controllers.proofs.Letters.{joined_is}
use Rattle.omega_synth_controllers.proofs.Stretches.{met_first, met_next}

module _ (a : Description) (controlled kept : List ℕ) (controller : IsController a controlled kept) where
  -- a state that is met
  abbrev Position : Type 0
  Position = (state : ℕ) × IsMet a kept state

  abbrev answer : (at : Position) (given : ℕ → Bool) → HasAnswer a controlled kept at.0 given
  answer at given = controller.answered at.0 given at.1

  abbrev following : Position → (ℕ → Bool) → Position
  following at given = (
    (answer at given).next,
    met_next a kept at.0 (answer at given).number (answer at given).next at.1 (answer at given).is_kept (answer at given).step,
  )

  -- where the strategy has come to after letters of the environment
  abbrev after : List (ℕ → Bool) → Position
  after [] = (controller.begins.0, met_first a kept controller.begins.0 controller.begins.1)
  after (given ∷ before) = following (after before) given

  abbrev pub strategy : System
  strategy [] = λ p. false
  strategy (given ∷ before) = (answer (after before) given).answers.letter

  module _ (given : ℕ → ℕ → Bool) where
    abbrev states : ℕ → ℕ
    states i = (after (so_far given i)).0

    abbrev answer_at : (i : ℕ) → HasAnswer a controlled kept (states i) (given i)
    answer_at i = answer (after (so_far given i)) (given i)

    abbrev edges : ℕ → ℕ
    edges i = (answer_at i).number

    run : IsRun a states edges
    run = record {
      begins = controller.begins.1;
      steps = λ i. subst (λ n. IsStep a (states i) (edges i) (states n)) (sym (add-one i)) (answer_at i).step;
    }

    taken : (i : ℕ) → CanBeTaken a (edges i) (word_of controlled strategy given i)
    taken i =
        subst (CanBeTaken a (edges i)) (joined_is controlled (answer_at i).answers.letter (given i) (answer_at i).answers.agrees) (answer_at i).answers.taken

    pub kept_run : HasKeptRun a kept (word_of controlled strategy given)
    kept_run = (states, (edges, record { run = run; all_kept = λ i. (answer_at i).is_kept; taken = taken }))

pub controllers_answer : ControllersAnswer
controllers_answer a controlled kept controller = (strategy a controlled kept controller, kept_run a controlled kept controller)

-- a run of a controller's edges on a word accepts it
accepted_by : LimitedPrincipleOfOmniscience → (a : Description) (controlled kept : List ℕ) (word : ℕ → ℕ → Bool) → IsController a controlled kept
    → HasKeptRun a kept word → (accepted : IsAccepted a word) × ((i : ℕ) → Contains kept (accepted.edges i))
accepted_by decided a controlled kept word controller (states, (edges, kept_run)) = (
  record {
    states = states;
    edges = edges;
    accepting = record { run = kept_run.run; accepted = kept_runs_are_accepting decided a controlled kept states edges controller kept_run.run kept_run.all_kept };
    taken = kept_run.taken;
  },
  kept_run.all_kept,
)

pub controllers_realize : ControllersRealize
controllers_realize decided a controlled kept controller =
    let answers = controllers_answer a controlled kept controller in
    (answers.0, λ given. accepted_by decided a controlled kept (word_of controlled answers.0 given) controller (answers.1 given))
