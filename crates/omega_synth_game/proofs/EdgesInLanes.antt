-- Words of edges: one edge more, the edges of which a lane is set, and words made lane by lane.
use Rattle.std.proofs.Common.{◌≡◌, ◌↔◌, ℕ, suc, ◌+◌, ◌*◌, ◌%◌, ◌^◌, ◌<◌, ◌≤◌, inl, inr, true, false, cond, eqb, List, [], ◌∷◌, ◌++◌, length, get_or, drop, Contains, Option, Some, None, Result, Ok, Err, sym, ap, refl, ◌∙◌, subst, arith, add-one, append_assoc, drop-cons, length-append, w64}
use Rattle.std.specs.Prelude.{IfOk, IfSome, IsTrue, bit_or}
use Rattle.std.proofs.Math.Seq.{get_or-append_seam}
use Rattle.std.proofs.lemmas.Bool.{cases_Bool, cases_eq, cond-false, cond-true, false≢true}
use Rattle.std.proofs.lemmas.List.{get_or_append_left}
use Rattle.std.proofs.lemmas.Nat.Bits.{bit_at_set_other, bit_at_set_same}
use Rattle.omega_text.specs.declared.refusal.Refusal.{Refusal}
use Rattle.omega_text.specs.declared.refusal.Refusal.TheVariants.{Automaton, Circuit, Game, Io, Memory, Task, Text}
use Rattle.omega_hoa_label.specs.Label.{LabelTree}
use Rattle.omega_hoa_automaton.specs.Automaton.{BodyEdge, Description, edge_at}
use Rattle.omega_synth_controllers.specs.Controllers.{Answers}
use Rattle.omega_lang_runs.specs.Laws.{EdgesAreTakenWhereTrue}
use Rattle.omega_synth_game.specs.Answering.{AreAnswersInOrder, IsAnswerRefusal, whole_label}
use Rattle.omega_synth_game.specs.private.EdgeWords.{AreEdgeWords, IsEdgeUnanswered, IsEdgeWord, set_in_lane}
use Rattle.omega_synth_game.specs.private.Lanes.{IsAnswerWord, is_set}
use Rattle.omega_synth_game.specs.Letters.{holds_in, letter_numbered}
use Rattle.omega_synth_game.specs.private.Making.{IsSomeLetterUnanswered}
use Rattle.omega_synth_game.proofs.Whole.{answers_is}

module _ (a : Description) (controlled inputs : List ℕ) (block : ℕ) where
  -- a label's word is its edge's
  pub label_word : EdgesAreTakenWhereTrue → (number : ℕ) (edge : BodyEdge) → edge_at a number ≡ Some edge → (word : ℕ) (label : LabelTree)
      → label ≡ whole_label a number edge → IsAnswerWord controlled inputs block label word → IsEdgeWord a controlled inputs block number word
  label_word law number edge numbered word label is judged lane low within =
      let whole : IsAnswerWord controlled inputs block (whole_label a number edge) word =
      subst (λ (t : LabelTree). IsAnswerWord controlled inputs block t word) is judged in
      let both = answers_is law a controlled number (holds_in (letter_numbered inputs (block * 64 + lane))) edge numbered in
      let set = whole lane low within in
      (λ held. both.0 (set.0 held), λ answer. set.1 (both.1 answer))

  -- so where a word is found at once
  pub quick_judged : EdgesAreTakenWhereTrue → (number : ℕ) (edge : BodyEdge) → edge_at a number ≡ Some edge → (label : LabelTree)
      → label ≡ whole_label a number edge → (r : Result (Option ℕ) Refusal) → IfOk r (λ found. IfSome found (IsAnswerWord controlled inputs block label))
      → IfOk r (λ found. IfSome found (IsEdgeWord a controlled inputs block number))
  quick_judged law number edge numbered label is (Ok (Some word)) judged = label_word law number edge numbered word label is judged
  quick_judged law number edge numbered label is (Ok None) judged = tt
  quick_judged law number edge numbered label is (Err refusal) judged = tt

  -- one edge more
  pub words_more : (numbers : List ℕ) (end number word : ℕ) (words : List ℕ) → number ≡ get_or numbers end 0
      → AreEdgeWords a controlled inputs block numbers end words → IsEdgeWord a controlled inputs block number word
      → AreEdgeWords a controlled inputs block numbers (end + 1) (words ++ word ∷ [])
  words_more numbers end number word words here are is = record {
    entries = length-append words (word ∷ []) ∙ omega (arith, are.entries);
    each = λ index below. elim (cases_eq index end) [
      | inl same ↦
          let last : word ≡ get_or (words ++ word ∷ []) index 0 =
          sym (ap (λ n. get_or (words ++ word ∷ []) n 0) (same ∙ sym are.entries) ∙ get_or-append_seam words word [] 0) in
          subst (λ (w : ℕ). IsEdgeWord a controlled inputs block (get_or numbers index 0) w) last
          (subst (λ (n : ℕ). IsEdgeWord a controlled inputs block n word) (here ∙ ap (λ n. get_or numbers n 0) (sym same)) is)
      | inr apart ↦
          let early : index < end = omega (arith, below, apart) in
          subst (λ (w : ℕ). IsEdgeWord a controlled inputs block (get_or numbers index 0) w)
          (sym (get_or_append_left words (word ∷ []) 0 index (omega (arith, early, are.entries)))) (are.each index early)
    ];
  }

  -- the edges of which a lane is set are those that answer its letter
  pub lane_answers : (numbers words : List ℕ) (lane : ℕ) → lane < 64 → block * 64 + lane < 2 ^ length inputs
      → length words ≡ length numbers → ((index : ℕ) → index < length numbers → IsEdgeWord a controlled inputs block (get_or numbers index 0) (get_or words index 0))
      → AreAnswersInOrder a controlled (holds_in (letter_numbered inputs (block * 64 + lane))) numbers (set_in_lane lane numbers words)
  lane_answers [] words lane low within alike each = refl
  lane_answers (number ∷ numbers) [] lane low within alike each = absurd (omega (arith, alike))
  lane_answers (number ∷ numbers) (word ∷ words) lane low within alike each =
      let rest = lane_answers numbers words lane low within (omega (arith, alike)) (λ index below. each (suc index) (omega (arith, below))) in
      let here = each 0 (omega arith) lane low within in
      elim (cases_Bool (is_set word lane)) [
        | inl held ↦ inl (
          set_in_lane lane numbers words,
          here.0 held,
          cond-true (is_set word lane) (number ∷ set_in_lane lane numbers words) (set_in_lane lane numbers words) held,
          rest,
        )
        | inr off ↦ inr (
          λ answer. false≢true (sym off ∙ here.1 answer),
          subst (λ (list : List ℕ). AreAnswersInOrder a controlled (holds_in (letter_numbered inputs (block * 64 + lane))) numbers list)
              (sym (cond-false (is_set word lane) (number ∷ set_in_lane lane numbers words) (set_in_lane lane numbers words) off)) rest,
        )
      ]

-- one number more of which the lane is set, or not
module _ (lane : ℕ) (numbers words : List ℕ) (index number word : ℕ) (below : index < length numbers) (alike : length words ≡ length numbers)
    (number_is : number ≡ get_or numbers index 0) (word_is : word ≡ get_or words index 0) (set : List ℕ) where
  abbrev after : List ℕ
  after = set_in_lane lane (drop (index + 1) numbers) (drop (index + 1) words)

  opened : set_in_lane lane (drop index numbers) (drop index words) ≡ cond (is_set word lane) (number ∷ after) after
  opened =
      ap (λ list. set_in_lane lane list (drop index words)) (drop-cons numbers index 0 below)
      ∙ (ap (λ list. set_in_lane lane (get_or numbers index 0 ∷ drop (suc index) numbers) list) (drop-cons words index 0 (omega (arith, below, alike)))
      ∙ (ap (λ n. cond (is_set (get_or words index 0) lane) (n ∷ set_in_lane lane (drop (suc index) numbers) (drop (suc index) words)) (set_in_lane lane (drop (suc index) numbers) (drop (suc index) words))) (sym number_is)
      ∙ (ap (λ w. cond (is_set w lane) (number ∷ set_in_lane lane (drop (suc index) numbers) (drop (suc index) words)) (set_in_lane lane (drop (suc index) numbers) (drop (suc index) words))) (sym word_is)
      ∙ ap (λ k. cond (is_set word lane) (number ∷ set_in_lane lane (drop k numbers) (drop k words)) (set_in_lane lane (drop k numbers) (drop k words))) (sym (add-one index)))))

  pub lane_set : is_set word lane ≡ true → (set ++ number ∷ []) ++ after ≡ set ++ set_in_lane lane (drop index numbers) (drop index words)
  lane_set held =
      append_assoc set (number ∷ []) after
      ∙ ap (λ list. set ++ list) (sym (opened ∙ cond-true (is_set word lane) (number ∷ after) after held))

  pub lane_not_set : is_set word lane ≡ false → set ++ after ≡ set ++ set_in_lane lane (drop index numbers) (drop index words)
  lane_not_set off = ap (λ list. set ++ list) (sym (opened ∙ cond-false (is_set word lane) (number ∷ after) after off))

-- the refusal of one letter is one of the edge, and that of an edge one of the edges
pub letter_refused : (a : Description) (controlled letter : List ℕ) (number : ℕ) (e : Refusal) → IsAnswerRefusal a controlled letter number e
    → IsEdgeUnanswered a controlled number e
letter_refused a controlled letter number (Task fault) refused = (letter, refused.0, refused.1, refused.2)
letter_refused a controlled letter number Memory refused = refused
letter_refused a controlled letter number (Text fault) refused = absurd refused
letter_refused a controlled letter number (Game fault) refused = absurd refused
letter_refused a controlled letter number (Circuit fault) refused = absurd refused
letter_refused a controlled letter number (Automaton fault) refused = absurd refused
letter_refused a controlled letter number Io refused = absurd refused

pub edge_refused : (a : Description) (controlled numbers : List ℕ) (number : ℕ) (e : Refusal) → Contains numbers number → IsEdgeUnanswered a controlled number e
    → IsSomeLetterUnanswered a controlled numbers e
edge_refused a controlled numbers number (Task fault) has refused = (refused.0, number, has, refused.1, refused.2, refused.3)
edge_refused a controlled numbers number Memory has refused = refused
edge_refused a controlled numbers number (Text fault) has refused = absurd refused
edge_refused a controlled numbers number (Game fault) has refused = absurd refused
edge_refused a controlled numbers number (Circuit fault) has refused = absurd refused
edge_refused a controlled numbers number (Automaton fault) has refused = absurd refused
edge_refused a controlled numbers number Io has refused = absurd refused

-- a word made lane by lane
pub record IsMadeTo (a : Description) (controlled inputs : List ℕ) (block number end word : ℕ) : Type 0 where
  pub made : (lane : ℕ) → lane < end
      → IsTrue (is_set word lane) ↔ Answers a controlled number (holds_in (letter_numbered inputs (block * 64 + lane)))
  pub left : (lane : ℕ) → end ≤ lane → is_set word lane ≡ false

module _ (a : Description) (controlled inputs : List ℕ) (block number end word : ℕ) (low : end < 64) (are : IsMadeTo a controlled inputs block number end word) where
  -- one lane more, which is set
  pub lane_more : Answers a controlled number (holds_in (letter_numbered inputs (block * 64 + end)))
      → IsMadeTo a controlled inputs block number (end + 1) (bit_or word (1 * 2 ^ end % 2 ^ 64))
  lane_more answer = record {
    made = λ lane below. elim (cases_eq lane end) [
      | inl same ↦ (
        λ held. subst (λ (l : ℕ). Answers a controlled number (holds_in (letter_numbered inputs (block * 64 + l)))) (sym same) answer,
        λ it. ap (λ l. is_set (bit_or word (1 * 2 ^ end % 2 ^ 64)) l) same ∙ ap (λ bit. eqb bit 1) (bit_at_set_same w64 word end low),
      )
      | inr apart ↦
          let other : is_set (bit_or word (1 * 2 ^ end % 2 ^ 64)) lane ≡ is_set word lane =
          ap (λ bit. eqb bit 1) (bit_at_set_other w64 word end low lane apart) in
          let both = are.made lane (omega (arith, below, apart)) in
          (λ held. both.0 (sym other ∙ held), λ it. other ∙ both.1 it)
    ];
    left = λ lane above.
        ap (λ bit. eqb bit 1) (bit_at_set_other w64 word end low lane (λ same. absurd (omega (arith, above, same)))) ∙ are.left lane (omega (arith, above));
  }

  -- or is not
  pub lane_same : (Answers a controlled number (holds_in (letter_numbered inputs (block * 64 + end))) → ⊥) → IsMadeTo a controlled inputs block number (end + 1) word
  lane_same none = record {
    made = λ lane below. elim (cases_eq lane end) [
      | inl same ↦ (
        λ held. absurd (false≢true (sym (are.left lane (omega (arith, same))) ∙ held)),
        λ it. absurd (none (subst (λ (l : ℕ). Answers a controlled number (holds_in (letter_numbered inputs (block * 64 + l)))) same it)),
      )
      | inr apart ↦ are.made lane (omega (arith, below, apart))
    ];
    left = λ lane above. are.left lane (omega (arith, above));
  }
