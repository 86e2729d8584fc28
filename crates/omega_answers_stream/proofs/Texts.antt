-- The texts that are told of items.
use Rattle.std.proofs.Common.{◌≡◌, ℕ, ◌+◌, false, List, [], ◌∷◌, ◌++◌, Option, None, Some, refl, ap, ◌∙◌}
use Rattle.std.specs.Prelude.{MatchOption}
use Rattle.omega_text.specs.declared.refusal.Refusal.{Refusal}
use Rattle.omega_hoa.specs.declared.item.Item.{Item}
use Rattle.omega_answers_stream.specs.Answer.{Answer}
use Rattle.omega_answers_stream.specs.Asking.{AreAnswered, AreAnswers, IsAsked, IsItemRefused, answer_texts}
use Rattle.omega_answers_stream.specs.Counting.{HasAutomata, automata_in}
use Rattle.omega_answers_stream.specs.Telling.{IsTelling, texts_from}
use Rattle.omega_answers_stream.specs.declared.asked.Asked.{Asked}

module _ (text : ℕ → Item → List ℕ) where
  -- the answer is the text
  abbrev pub Tells : ℕ → Item → Answer → Type 0
  Tells number item answer = (answer.text ≡ text number item) × (answer.no ≡ false)

  -- no item is refused
  abbrev pub Never : Item → Refusal → Type 0
  Never item refusal = ⊥

  texts_told : (number : ℕ) (items : List Item) (answers : List Answer) → AreAnswers Tells number items answers → answer_texts answers ≡ texts_from text number items
  texts_told number [] [] each = refl
  texts_told number [] (answer ∷ answers) each = absurd each
  texts_told number (item ∷ items) [] each = absurd each
  texts_told number (item ∷ items) (answer ∷ answers) each =
      ap (λ front. front ++ answer_texts answers) each.0.0 ∙ ap (λ rest. text number item ++ rest) (texts_told (number + 1) items answers each.1)

  told_all : (items : List Item) (asked : Asked) (refused : Option Refusal)
      → MatchOption refused (AreAnswered Tells items asked.answers.text.items asked.answers.no asked.answers.automata) (IsItemRefused Tells Never items)
      → asked.answers.text.items ≡ texts_from text 0 items
  told_all items asked None asks = asks.texts ∙ texts_told 0 items asks.answers asks.each
  told_all items asked (Some refusal) asks = absurd asks.refused

  -- the texts are those of the items
  pub telling_of : (source : List ℕ) (asked : Asked) → IsAsked Tells Never source asked → IsTelling text source asked.answers.text.items
  telling_of source asked asks = record {
    items = asks.items;
    read = asks.read;
    all = told_all asks.items asked asked.refused asks.asks;
  }

-- if no item is refused, the automata are counted
counted_all : (Answers : ℕ → Item → Answer → Type 0) (items : List Item) (asked : Asked) (refused : Option Refusal)
    → MatchOption refused (AreAnswered Answers items asked.answers.text.items asked.answers.no asked.answers.automata) (IsItemRefused Answers (λ item refusal. ⊥) items)
    → asked.answers.automata ≡ automata_in items
counted_all Answers items asked None asks = asks.counted
counted_all Answers items asked (Some refusal) asks = absurd asks.refused

pub counting_of : (Answers : ℕ → Item → Answer → Type 0) (source : List ℕ) (asked : Asked) → IsAsked Answers (λ item refusal. ⊥) source asked
    → HasAutomata source asked.answers.automata
counting_of Answers source asked asks = record {
  items = asks.items;
  read = asks.read;
  counted = counted_all Answers asks.items asked asked.refused asks.asks;
}
