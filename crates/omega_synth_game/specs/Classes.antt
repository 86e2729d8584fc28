-- Classes of letters: letters that the same edges of a state answer are one class, which has the first of them by its
-- number over the inputs that the labels of these edges mention.
use Rattle.std.specs.Prelude.{◌≡◌, ◌↔◌, ℕ, ◌<◌, true, not, List, [], Contains, Some, filter, option_map}
use Rattle.std.specs.List.{flat_map}
use Rattle.std.specs.List.Sorted.{IsStrictlyIncreasing}
use Rattle.std.specs.Option.{unwrap_or}
use Rattle.omega_hoa_label.specs.Label.{LabelTree, constant, propositions}
use Rattle.omega_hoa_satisfiable.specs.Satisfiable.{each_once}
use Rattle.omega_hoa_automaton.specs.Automaton.{BodyEdge, Description, edge_at}
use Rattle.omega_synth_game.specs.Answering.{HaveSameAnswers, whole_label}
use Rattle.omega_synth_controllers.specs.Strategies.{is_controlled}
use Rattle.omega_synth_game.specs.Letters.{holds_in, letter_numbered}

-- the inputs of a label from left to right, each as often as it occurs
abbrev pub input_mentions : List ℕ → LabelTree → List ℕ
input_mentions controlled label = filter (λ p. not (is_controlled controlled p)) (propositions label)

-- the label of the edge with a number
abbrev pub label_of_number : Description → ℕ → LabelTree
label_of_number a number =
    unwrap_or (option_map (whole_label a number) (edge_at a number)) (constant true)

-- the inputs that the labels of edges, given by number, mention, each once
abbrev pub mentioned_inputs : Description → List ℕ → List ℕ → List ℕ
mentioned_inputs a controlled numbers =
    each_once [] (flat_map (λ number. input_mentions controlled (label_of_number a number)) numbers)

-- the edge with a number leaves the state
pub record IsLeaving (a : Description) (state number : ℕ) : Type 0 where
  pub edge : BodyEdge
  pub numbered : edge_at a number ≡ Some edge
  pub leaves : edge.source.number ≡ state

-- the numbers are those of the edges that leave the state, in rising order
pub record AreEdgesFrom (a : Description) (state : ℕ) (numbers : List ℕ) : Type 0 where
  pub rising : IsStrictlyIncreasing numbers
  pub each : (number : ℕ) → Contains numbers number ↔ IsLeaving a state number

-- the letter is the first, by its number over the inputs, that these edges answer as they do
pub record IsFirstLetter (a : Description) (controlled numbers letter : List ℕ) : Type 0 where
  pub number : ℕ
  pub is : letter ≡ letter_numbered (mentioned_inputs a controlled numbers) number
  pub first : (earlier : ℕ) → earlier < number → HaveSameAnswers a controlled numbers
      (holds_in (letter_numbered (mentioned_inputs a controlled numbers) earlier)) (holds_in letter) → ⊥

-- the letter is the first of its class in the state
pub record IsLeastInState (a : Description) (controlled : List ℕ) (state : ℕ)
    (letter : List ℕ) : Type 0 where
  pub numbers : List ℕ
  pub leave : AreEdgesFrom a state numbers
  pub first : IsFirstLetter a controlled numbers letter
