-- Items that are asked one after the other.
use Rattle.std.proofs.Common.{◌≡◌, ℕ, ◌+◌, ◌<◌, ◌≤◌, ◌^◌, Bool, false, true, ◌||◌, List, [], ◌∷◌, ◌++◌, Option, None, Some, is_some, length, refl, sym, ap, subst, ◌∙◌, arith, append_assoc, append-nil, take, get_or}
use Rattle.std.proofs.lemmas.List.{length-take-le}
use Rattle.std.proofs.lemmas.List.Sums.{count_by-le-length, sum_by-append, sum_by_more}
use Rattle.std.specs.Prelude.{MatchOption, cond}
use Rattle.omega_text.specs.declared.refusal.Refusal.{Refusal}
use Rattle.omega_text.specs.declared.refusal.Refusal.TheVariants.{Io}
use Rattle.omega_hoa.specs.declared.item.Item.{Item}
use Rattle.omega_answers_stream.specs.Answer.{Answer, AppendsAnswer}
use Rattle.omega_answers_stream.specs.Asking.{AreAnswered, AreAnswers, IsItemRefused, answer_texts, any_no}
use Rattle.omega_answers_stream.specs.Counting.{automata_in, is_automaton}

-- the texts of answers, and one more
texts-snoc : (answers : List Answer) (answer : Answer) → answer_texts (answers ++ answer ∷ []) ≡ answer_texts answers ++ answer.text
texts-snoc [] answer = append-nil answer.text
texts-snoc (first ∷ answers) answer =
    ap (λ rest. first.text ++ rest) (texts-snoc answers answer) ∙ sym (append_assoc first.text (answer_texts answers) answer.text)

or-false : (b : Bool) → (b || false) ≡ b
or-false true = refl
or-false false = refl

or-assoc : (a b c : Bool) → (a || (b || c)) ≡ ((a || b) || c)
or-assoc true b c = refl
or-assoc false b c = refl

-- whether one of them is `no`
any-snoc : (answers : List Answer) (answer : Answer) → any_no (answers ++ answer ∷ []) ≡ (any_no answers || answer.no)
any-snoc [] answer = or-false answer.no
any-snoc (first ∷ answers) answer =
    ap (λ rest. first.no || rest) (any-snoc answers answer) ∙ or-assoc first.no (any_no answers) answer.no

-- an automaton counts one, and an aborted segment nothing
abbrev count_of : Item → ℕ
count_of item = cond (is_automaton item) 1 0

-- the automata among some items, and among more
count-append : (items more : List Item) → automata_in (items ++ more) ≡ automata_in items + automata_in more
count-append items more = sum_by-append count_of items more

-- one more of them is counted, if there are fewer than numbers
pub count-more : (items : List Item) (place : ℕ) (item : Item) (count next : ℕ) → place < length items → item ≡ get_or items place item
    → count ≡ automata_in (take place items) → (count + 1 < 2 ^ 64 → next ≡ count + automata_in (item ∷ [])) → length items < 2 ^ 64
    → next ≡ automata_in (take (place + 1) items)
count-more items place item count next below is counted more fits =
    let within = count_by-le-length is_automaton (take place items) in
    let taken = length-take-le place items (omega (arith, below)) in
    let sum = more (omega (arith, within, taken, counted, below, fits)) in
    let one : automata_in (item ∷ []) ≡ count_of item = omega arith in
    let same : count_of item ≡ count_of (get_or items place item) = ap count_of is in
    omega (arith, sum, counted, one, same, sum_by_more count_of items place item below)

module _ (Answers : ℕ → Item → Answer → Type 0) where
  -- items with answers, and one more
  answers-snoc : (number : ℕ) (items : List Item) (answers : List Answer) (item : Item) (answer : Answer) → AreAnswers Answers number items answers
      → Answers (number + length items) item answer → AreAnswers Answers number (items ++ item ∷ []) (answers ++ answer ∷ [])
  answers-snoc number [] [] item answer each holds = (subst (λ n. Answers n item answer) (omega arith) holds, tt)
  answers-snoc number [] (other ∷ answers) item answer each holds = absurd each
  answers-snoc number (first ∷ items) [] item answer each holds = absurd each
  answers-snoc number (first ∷ items) (other ∷ answers) item answer each holds =
      (each.0, answers-snoc (number + 1) items answers item answer each.1 (subst (λ n. Answers n item answer) (omega arith) holds))

  -- one more item is answered
  pub answered_then : (items : List Item) (text : List ℕ) (before : Bool) (count : ℕ) (item : Item) (next : List ℕ) (says now : Bool) (total : ℕ)
      → AreAnswered Answers items text before count → AppendsAnswer (Answers (length items) item) text next says → now ≡ (before || says)
      → total ≡ count + automata_in (item ∷ []) → AreAnswered Answers (items ++ item ∷ []) next now total
  answered_then items text before count item next says now total answered appends is sum =
      let answer : Answer = record { text = appends.text; no = says } in
      record {
        answers = answered.answers ++ answer ∷ [];
        each = answers-snoc 0 items answered.answers item answer answered.each (subst (λ n. Answers n item answer) (omega arith) appends.holds);
        texts = appends.appended ∙ ap (λ front. front ++ appends.text) answered.texts ∙ sym (texts-snoc answered.answers answer);
        any = is ∙ ap (λ first. first || says) answered.any ∙ sym (any-snoc answered.answers answer);
        counted = sum ∙ ap (λ first. first + automata_in (item ∷ [])) answered.counted ∙ sym (count-append items (item ∷ []));
      }

  module _ (Refuses : Item → Refusal → Type 0) where
    -- one more item is refused
    pub refused_then : (items : List Item) (text : List ℕ) (before : Bool) (count : ℕ) (item : Item) (refusal : Refusal) → AreAnswered Answers items text before count
        → Refuses item refusal → (refusal ≡ Io → ⊥) → IsItemRefused Answers Refuses (items ++ item ∷ []) refusal
    refused_then items text before count item refusal answered refused not_io = record {
      front = items;
      item = item;
      rest = [];
      split = refl;
      answers = answered.answers;
      each = answered.each;
      refused = refused;
      not_io = not_io;
    }

    -- one before them is refused
    pub refused_before : (items more : List Item) (refusal : Refusal) → IsItemRefused Answers Refuses items refusal → IsItemRefused Answers Refuses (items ++ more) refusal
    refused_before items more refusal before = record {
      front = before.front;
      item = before.item;
      rest = before.rest ++ more;
      split = ap (λ all. all ++ more) before.split ∙ append_assoc before.front (before.item ∷ before.rest) more;
      answers = before.answers;
      each = before.each;
      refused = before.refused;
      not_io = before.not_io;
    }

    -- ---- one more item, or more, after what was asked before

    module _ (items : List Item) (text : List ℕ) (before : Bool) (count : ℕ) where
      -- nothing more is asked after a refusal
      pub asks_none : (more : List Item) (refused : Option Refusal) → is_some refused ≡ true → MatchOption refused (AreAnswered Answers items text before count) (IsItemRefused Answers Refuses items)
          → MatchOption refused (AreAnswered Answers (items ++ more) text before count) (IsItemRefused Answers Refuses (items ++ more))
      asks_none more None is asks = cc
      asks_none more (Some refusal) is asks = refused_before items more refusal asks

      -- one more item is answered
      pub asks_one : (item : Item) (next : List ℕ) (says : Bool) (total : ℕ) (refused : Option Refusal) → is_some refused ≡ false
          → MatchOption refused (AreAnswered Answers items text before count) (IsItemRefused Answers Refuses items)
          → AppendsAnswer (Answers (length items) item) text next says
          → length items + 1 < 2 ^ 64 → (count + 1 < 2 ^ 64 → total ≡ count + automata_in (item ∷ []))
          → MatchOption refused (AreAnswered Answers (items ++ item ∷ []) next (before || says) total) (IsItemRefused Answers Refuses (items ++ item ∷ []))
      asks_one item next says total None is asks appends few sum =
          let within = count_by-le-length is_automaton items in
          answered_then items text before count item next says (before || says) total asks appends refl (sum (omega (arith, few, within, asks.counted)))
      asks_one item next says total (Some refusal) is asks appends few sum = cc
