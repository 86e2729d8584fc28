-- What is answered of a stream of automata if each of its items is asked the same question.
use Rattle.std.specs.Prelude.{◌≡◌, ◌⊎◌, ℕ, ◌+◌, Bool, false, ◌||◌, List, [], ◌∷◌, ◌++◌, MatchOption}
use Rattle.omega_text.specs.declared.refusal.Refusal.{Refusal}
use Rattle.omega_text.specs.declared.refusal.Refusal.TheVariants.{Io}
use Rattle.omega_hoa.specs.Stream.{IsStreamRefusal, IsStreamText}
use Rattle.omega_hoa.specs.declared.item.Item.{Item}
use Rattle.omega_answers_stream.specs.Answer.{Answer}
use Rattle.omega_answers_stream.specs.Counting.{automata_in}
use Rattle.omega_answers_stream.specs.declared.asked.Asked.{Asked}

-- the texts of answers, one after the other
abbrev pub answer_texts : List Answer → List ℕ
answer_texts [] = []
answer_texts (answer ∷ answers) = answer.text ++ answer_texts answers

-- whether one of the answers is `no`
abbrev pub any_no : List Answer → Bool
any_no [] = false
any_no (answer ∷ answers) = answer.no || any_no answers

-- each of the items, numbered from this number on, has its answer
abbrev pub AreAnswers : (ℕ → Item → Answer → Type 0) → ℕ → List Item → List Answer → Type 0
AreAnswers Answers number [] [] = Unit {0}
AreAnswers Answers number [] (answer ∷ answers) = ⊥
AreAnswers Answers number (item ∷ items) [] = ⊥
AreAnswers Answers number (item ∷ items) (answer ∷ answers) =
    Answers number item answer × AreAnswers Answers (number + 1) items answers

-- the items, numbered from 0, have answers with these texts, `no` is whether one of them is `no`, and so many of the
-- items are automata
pub record AreAnswered (Answers : ℕ → Item → Answer → Type 0) (items : List Item) (text : List ℕ)
    (no : Bool) (automata : ℕ) : Type 0 where
  pub answers : List Answer
  pub each : AreAnswers Answers 0 items answers
  pub texts : text ≡ answer_texts answers
  pub any : no ≡ any_no answers
  pub counted : automata ≡ automata_in items

-- one of the items is refused, and those before it have answers
pub record IsItemRefused (Answers : ℕ → Item → Answer → Type 0) (Refuses : Item → Refusal → Type 0)
    (items : List Item) (refusal : Refusal) : Type 0 where
  pub front : List Item
  pub item : Item
  pub rest : List Item
  pub split : items ≡ front ++ item ∷ rest
  pub answers : List Answer
  pub each : AreAnswers Answers 0 front answers
  pub refused : Refuses item refusal
  pub not_io : refusal ≡ Io → ⊥

-- the items are answered, or one of them is refused
abbrev pub AreAsked : (ℕ → Item → Answer → Type 0) → (Item → Refusal → Type 0)
    → List Item → Asked → Type 0
AreAsked Answers Refuses items asked =
    MatchOption asked.refused (AreAnswered Answers items asked.answers.text.items asked.answers.no
    asked.answers.automata) (IsItemRefused Answers Refuses items)

-- the source is the text of a stream whose items are asked so
pub record IsAsked (Answers : ℕ → Item → Answer → Type 0) (Refuses : Item → Refusal → Type 0)
    (source : List ℕ) (asked : Asked) : Type 0 where
  pub items : List Item
  pub read : IsStreamText source items
  pub asks : AreAsked Answers Refuses items asked

-- the source is the text of a stream whose items have answers with these texts, and so many of them are automata
pub record IsAnswered (Answers : ℕ → Item → Answer → Type 0) (source text : List ℕ)
    (no : Bool) (automata : ℕ) : Type 0 where
  pub items : List Item
  pub read : IsStreamText source items
  pub answered : AreAnswered Answers items text no automata

-- the source is the text of a stream, and one of its items is refused
pub record RefusesItem (Answers : ℕ → Item → Answer → Type 0) (Refuses : Item → Refusal → Type 0)
    (source : List ℕ) (refusal : Refusal) : Type 0 where
  pub items : List Item
  pub read : IsStreamText source items
  pub refused : IsItemRefused Answers Refuses items refusal

-- the refusal of the stream's text, or else that of the first item that is refused
abbrev pub IsAskingRefusal : (ℕ → Item → Answer → Type 0) → (Item → Refusal → Type 0)
    → List ℕ → Refusal → Type 0
IsAskingRefusal Answers Refuses source refusal =
    IsStreamRefusal source refusal ⊎ RefusesItem Answers Refuses source refusal
