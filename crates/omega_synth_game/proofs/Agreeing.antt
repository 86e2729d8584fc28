-- An edge answers both or none of two letters that agree on the inputs that the labels mention.
use Rattle.std.proofs.Common.{◌≡◌, ℕ, Bool, true, false, cond, not, List, [], Contains, Option, Some, sym, ap, refl, ◌∙◌}
use Rattle.std.specs.Prelude.{filter, option_map}
use Rattle.std.specs.List.{flat_map}
use Rattle.std.specs.Option.{unwrap_or}
use Rattle.omega_hoa_label.specs.Label.{LabelTree, constant, propositions}
use Rattle.omega_hoa_automaton.specs.Automaton.{BodyEdge, Description, edge_at}
use Rattle.omega_lang_runs.specs.Laws.{EdgesAreTakenWhereTrue}
use Rattle.omega_lang_runs.specs.Words.{CanBeTaken}
use Rattle.omega_synth_controllers.specs.Controllers.{Answers}
use Rattle.omega_synth_game.specs.Answering.{CanAnswer, HaveSameAnswers, whole_label}
use Rattle.omega_synth_controllers.specs.Strategies.{is_controlled}
use Rattle.omega_synth_game.specs.Classes.{input_mentions, mentioned_inputs, label_of_number}
use Rattle.omega_synth_game.specs.Letters.{holds_in}
use Rattle.omega_synth_game.proofs.Mentions.{among, among_flat, each_kept, passing, truth_agrees}
use Rattle.omega_synth_game.proofs.Restricting.{among as contained, uncontrolled}
use Rattle.omega_synth_game.proofs.Whole.{answers_is}

-- the label of a number is the whole label of its edge
pub label_is : (a : Description) (number : ℕ) (edge : BodyEdge) → edge_at a number ≡ Some edge → label_of_number a number ≡ whole_label a number edge
label_is a number edge numbered =
    ap (λ (found : Option BodyEdge). unwrap_or (option_map (whole_label a number) found) (constant true)) numbered

module _ (a : Description) (controlled numbers : List ℕ) where
  -- an input of the label of one of the edges is among the inputs
  pub input_among : (number : ℕ) (edge : BodyEdge) (p : ℕ) → Contains numbers number → edge_at a number ≡ Some edge
      → is_controlled controlled p ≡ false → among p (propositions (whole_label a number edge)) ≡ true → among p (mentioned_inputs a controlled numbers) ≡ true
  input_among number edge p has numbered free mentioned =
      let input : among p (input_mentions controlled (label_of_number a number)) ≡ true =
      passing (λ q. not (is_controlled controlled q)) p (propositions (label_of_number a number))
      (ap (λ (t : LabelTree). among p (propositions t)) (label_is a number edge numbered) ∙ mentioned) ∙ ap not free in
      each_kept p [] (flat_map (λ n. input_mentions controlled (label_of_number a n)) numbers)
      (among_flat (λ n. input_mentions controlled (label_of_number a n)) numbers number p has input)

module _ (law : EdgesAreTakenWhereTrue) (a : Description) (controlled numbers : List ℕ) where
  answers_moved : (one other : ℕ → Bool) → ((p : ℕ) → among p (mentioned_inputs a controlled numbers) ≡ true → one p ≡ other p) → (number : ℕ)
      → Contains numbers number → Answers a controlled number one → Answers a controlled number other
  answers_moved one other agree number has answer =
      let taken : CanBeTaken a number answer.letter = answer.taken in
      let label : LabelTree = whole_label a number taken.edge in
      let can : CanAnswer controlled label one = (answers_is law a controlled number one taken.edge taken.numbered).1 answer in
      let merged : ℕ → Bool = λ p. cond (is_controlled controlled p) (can.letter p) (other p) in
      (answers_is law a controlled number other taken.edge taken.numbered).0 (record {
        letter = merged;
        agrees = λ p free. outside (is_controlled controlled p) (can.letter p) (other p) (λ is. free (contained controlled p is));
        holds =
            truth_agrees merged can.letter label
            (λ p mentioned. inside p (is_controlled controlled p) refl (can.letter p) (other p)
            (λ free. sym (agree p (input_among a controlled numbers number taken.edge p has taken.numbered free mentioned)) ∙ can.agrees p (uncontrolled controlled p free)))
            ∙ can.holds;
      })
    where
      outside : (b own given : Bool) → (b ≡ true → ⊥) → given ≡ cond b own given
      outside true own given free = absurd (free refl)
      outside false own given free = refl

      inside : (p : ℕ) (b : Bool) → is_controlled controlled p ≡ b → (own given : Bool) → (is_controlled controlled p ≡ false → given ≡ own)
          → cond b own given ≡ own
      inside p true is own given same = refl
      inside p false is own given same = same is

  -- letters that agree on the inputs have the same answers
  pub same_answers : (one other : ℕ → Bool) → ((p : ℕ) → among p (mentioned_inputs a controlled numbers) ≡ true → one p ≡ other p)
      → HaveSameAnswers a controlled numbers one other
  same_answers one other agree number has = (
    answers_moved one other agree number has,
    answers_moved other one (λ p is. sym (agree p is)) number has,
  )

  -- and so have a letter and the choice of the inputs that hold in it
  pub choice_same : (given : ℕ → Bool) → HaveSameAnswers a controlled numbers (holds_in (filter given (mentioned_inputs a controlled numbers))) given
  choice_same given =
      same_answers (holds_in (filter given (mentioned_inputs a controlled numbers))) given (λ p is. passing given p (mentioned_inputs a controlled numbers) is)
