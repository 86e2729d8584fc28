-- Labels that can be true where the environment's propositions are given: those of the system are free.
use Rattle.std.specs.Prelude.{◌≡◌, ◌⊎◌, ◌↔◌, ℕ, Bool, if◌then◌else◌}
use Rattle.std.specs.Prelude.{IsTrue, List, Contains, Some, length}
use Rattle.std.specs.Option.{unwrap_or}
use Rattle.omega_text.specs.Cases.{never, or_memory, or_task}
use Rattle.omega_text.specs.declared.refusal.Refusal.{Refusal}
use Rattle.omega_text.specs.declared.refusal.task.TaskFault.{TaskFault}
use Rattle.omega_text.specs.declared.refusal.task.TaskFault.TheVariants.{TooLarge, TooManyPropositions}
use Rattle.omega_hoa_label.specs.Label.{LabelTree, conjunction, constant}
use Rattle.omega_hoa_label.specs.Label.{disjunction, negation, proposition, truth}
use Rattle.omega_hoa_label.specs.Shape.{FitsALabel}
use Rattle.omega_hoa_satisfiable.specs.Undecided.{IsHardLabel}
use Rattle.omega_hoa_automaton.specs.Automaton.{BodyEdge, Description, edge_at}
use Rattle.omega_hoa_edges.specs.Labels.{valuation_label}
use Rattle.omega_lang_runs.specs.Lasso.{label_of}
use Rattle.omega_lang_runs.specs.Words.{index_in}
use Rattle.omega_synth_controllers.specs.Controllers.{AgreeOnInputs, Answers}
use Rattle.omega_synth_controllers.specs.Strategies.{is_controlled}
use Rattle.omega_synth_game.specs.Letters.{holds_in}
use Rattle.omega_synth_game.specs.Those.{AreThoseWith}

-- the label is true at some letter that agrees with the environment's letter on the inputs
pub record CanAnswer (controlled : List ℕ) (label : LabelTree) (given : ℕ → Bool) : Type 0 where
  pub letter : ℕ → Bool
  pub agrees : AgreeOnInputs controlled given letter
  pub holds : IsTrue (truth letter label)

-- the label with a constant in place of each input: whether it holds in the letter
abbrev pub restricted : List ℕ → List ℕ → LabelTree → LabelTree
restricted controlled letter (constant value) = constant value
restricted controlled letter (proposition p) =
    if is_controlled controlled p then proposition p else constant (holds_in letter p)
restricted controlled letter (negation part) = negation (restricted controlled letter part)
restricted controlled letter (conjunction left right) =
    conjunction (restricted controlled letter left) (restricted controlled letter right)
restricted controlled letter (disjunction left right) =
    disjunction (restricted controlled letter left) (restricted controlled letter right)

-- the label of an edge with a number: that of its state, or else its own, or else that of its valuation
abbrev pub whole_label : Description → ℕ → BodyEdge → LabelTree
whole_label a number edge =
    unwrap_or (label_of edge) (valuation_label (index_in a.defined number) (length a.propositions))

-- the label is too deep or too large, or what is left of it in the letter may be left undecided
abbrev pub IsLetterLabelFault : List ℕ → List ℕ → LabelTree → TaskFault → Type 0
IsLetterLabelFault controlled letter label fault =
    ((fault ≡ TooLarge) × (FitsALabel label → ⊥))
    ⊎ ((fault ≡ TooManyPropositions) × IsHardLabel (restricted controlled letter label))

-- the refusal of judging whether the edge with a number answers the letter: by its label, or want of memory
abbrev pub IsAnswerRefusal : Description → List ℕ → List ℕ → ℕ → Refusal → Type 0
IsAnswerRefusal a controlled letter number =
    or_task (λ fault. (edge : BodyEdge) × (edge_at a number ≡ Some edge)
    × IsLetterLabelFault controlled letter (whole_label a number edge) fault) (or_memory never)

-- the answers are those of the edges with these numbers that answer the environment's letter
abbrev pub AreAnswersAmong : Description → List ℕ → List ℕ → (ℕ → Bool) → List ℕ → Type 0
AreAnswersAmong a controlled numbers given answers = (number : ℕ)
    → Contains answers number ↔ (Contains numbers number × Answers a controlled number given)

-- so they are, in the order of the numbers
abbrev pub AreAnswersInOrder : Description → List ℕ → (ℕ → Bool) → List ℕ → List ℕ → Type 0
AreAnswersInOrder a controlled given numbers answers =
    AreThoseWith (λ number. Answers a controlled number given) numbers answers

-- the same of these edges answer two letters
abbrev pub HaveSameAnswers : Description → List ℕ → List ℕ → (ℕ → Bool) → (ℕ → Bool) → Type 0
HaveSameAnswers a controlled numbers one other = (number : ℕ) → Contains numbers number
    → Answers a controlled number one ↔ Answers a controlled number other
