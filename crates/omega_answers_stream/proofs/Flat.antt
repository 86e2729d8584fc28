-- A stream that was read whole, of which an item is refused.
use Rattle.std.proofs.Common.{◌≡◌, ◌≤◌, ℕ, List, Option, Some, length, subst, inr, arith}
use Rattle.std.specs.Prelude.{MatchOption}
use Rattle.omega_text.specs.Cases.{or_io, or_memory}
use Rattle.omega_text.specs.Limits.{most_text}
use Rattle.omega_text.specs.declared.refusal.Refusal.{Refusal}
use Rattle.omega_text.specs.declared.refusal.Refusal.TheVariants.{Automaton, Circuit, Game, Io, Memory, Task, Text}
use Rattle.omega_hoa.specs.declared.item.Item.{Item}
use Rattle.omega_io.specs.Reading.{ReadsText, ReadsWhole}
use Rattle.omega_answers_stream.specs.Answer.{Answer}
use Rattle.omega_answers_stream.specs.Asking.{AreAnswered, IsAsked, IsAskingRefusal, IsItemRefused, RefusesItem}
use Rattle.omega_answers_stream.specs.declared.asked.Asked.{Asked}

-- what a whole input says says a text that is read of it
pub whole_text : (before after : Option (List ℕ)) (Holds Says : List ℕ → Type 0) → ((text : List ℕ) → Holds text → length text ≤ most_text)
    → ((text : List ℕ) → Holds text → Says text) → ReadsWhole before after Holds → ReadsText before after Says
whole_text before after Holds Says short says reads = record {
  text = reads.text;
  read = record { consumed = reads.read; limit = omega (arith, short reads.text reads.holds); whole = λ _. reads.end };
  holds = says reads.text reads.holds;
}

-- what holds of a refusal, or want of memory, or a failed read
or_none : (Holds : Refusal → Type 0) (refusal : Refusal) → Holds refusal → or_memory (or_io Holds) refusal
or_none Holds (Text fault) holds = holds
or_none Holds (Game fault) holds = holds
or_none Holds (Circuit fault) holds = holds
or_none Holds (Automaton fault) holds = holds
or_none Holds (Task fault) holds = holds
or_none Holds Memory holds = tt
or_none Holds Io holds = tt

module _ (Answers : ℕ → Item → Answer → Type 0) (Refuses : Item → Refusal → Type 0) (asked : Asked) where
  module _ (refusal : Refusal) (is : asked.refused ≡ Some refusal) where
    -- an item is refused
    pub flat_refusal : (source : List ℕ) → IsAsked Answers Refuses source asked → RefusesItem Answers Refuses source refusal
    flat_refusal source asks = record {
      items = asks.items;
      read = asks.read;
      refused =
          subst (λ refused. MatchOption refused (AreAnswered Answers asks.items asked.answers.text.items asked.answers.no asked.answers.automata) (IsItemRefused Answers Refuses asks.items))
          is asks.asks;
    }

    -- so the input gave the text of a stream with such an item
    pub flat_reading : (before after : Option (List ℕ)) → ReadsWhole before after (λ text. IsAsked Answers Refuses text asked)
        → ReadsText before after (λ text. RefusesItem Answers Refuses text refusal)
    flat_reading before after reads =
        whole_text before after (λ text. IsAsked Answers Refuses text asked) (λ text. RefusesItem Answers Refuses text refusal) (λ text asks. asks.read.short) flat_refusal reads

    -- and that is the refusal
    pub flat_refused : (before after : Option (List ℕ)) → ReadsWhole before after (λ text. IsAsked Answers Refuses text asked)
        → or_memory (or_io (λ refusal. ReadsText before after (λ text. IsAskingRefusal Answers Refuses text refusal))) refusal
    flat_refused before after reads =
        let given = flat_reading before after reads in
        or_none (λ refusal. ReadsText before after (λ text. IsAskingRefusal Answers Refuses text refusal)) refusal
        (record { text = given.text; read = given.read; holds = inr given.holds })
