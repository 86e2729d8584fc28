-- The word that `empty --word` writes is that of an accepting lasso.
use Rattle.std.proofs.Common.{◌≡◌, inl, inr, ℕ, ◌+◌, false, List, [], ◌∷◌, ◌++◌, length, sym, ap, ◌∙◌, arith, codes}
use Rattle.std.proofs.lemmas.List.{append-nil, append_cancel_left, append_cancel_right, length-append}
use Rattle.omega_hoa_automaton.specs.Automaton.{Description}
use Rattle.omega_hoa_automaton.specs.Branching.{has_universal_branching}
use Rattle.omega_answers_empty.specs.empty.Answer.{emptiness_text, lasso_lines}
use Rattle.omega_hoa.specs.Alone.{IsAutomatonText}
use Rattle.omega_lang_lasso_text.specs.Laws.{WordsArePassedOver}
use Rattle.omega_lang_lasso_text.specs.Lines.{lasso_part}
use Rattle.omega_lang_lasso_text.specs.Written.{lasso_text}
use Rattle.omega_lang_lasso_word.specs.WordText.{word_text}
use Rattle.omega_lang_runs.specs.Lasso.{IsAcceptingLasso}
use Rattle.omega_lang_runs.specs.Verdict.{IsVerdict}
use Rattle.omega_lang_runs.specs.declared.verdict.Verdict.{Verdict}
use Rattle.omega_lang_runs.specs.declared.verdict.Verdict.TheVariants.{Empty, Lasso}
use Rattle.omega_laws.specs.WrittenWords.{IsWordAnswer, IsWrittenWord, word_alone}

-- the word is that of an accepting lasso of the automaton of a text
pub record IsLassoWord (text word : List ℕ) : Type 0 where
  pub automaton : Description
  pub read : IsAutomatonText text automaton
  pub plain : has_universal_branching automaton ≡ false
  pub stem : List ℕ
  pub first : ℕ
  pub others : List ℕ
  pub lasso : IsAcceptingLasso automaton stem (first ∷ others)
  pub word_is : word ≡ word_text automaton stem (first ∷ others)

module _ (passed : WordsArePassedOver) (text word : List ℕ) where
  -- the output ends with the line of the word
  abbrev HasLine : List ℕ → Type 0
  HasLine output = output ≡ lasso_part output ++ (codes "word " ++ (word ++ codes "\n"))

  -- after the lines of a lasso that is its word
  same_word : (a : Description) (stem cycle output : List ℕ) → output ≡ lasso_lines a word_alone stem cycle → HasLine output → word ≡ word_text a stem cycle
  same_word a stem cycle output written line =
      let own : List ℕ = word_text a stem cycle in
      let alone : output ≡ lasso_text stem cycle ++ (codes "word " ++ (own ++ codes "\n")) =
      written ∙ ap (λ (more : List ℕ). lasso_text stem cycle ++ more) (append-nil (codes "word " ++ (own ++ codes "\n"))) in
      let before : lasso_part output ≡ lasso_text stem cycle = ap lasso_part alone ∙ passed stem cycle (own ++ codes "\n") in
      let both : lasso_text stem cycle ++ (codes "word " ++ (word ++ codes "\n")) ≡ lasso_text stem cycle ++ (codes "word " ++ (own ++ codes "\n")) =
      ap (λ (front : List ℕ). front ++ (codes "word " ++ (word ++ codes "\n"))) (sym before) ∙ sym line ∙ alone in
      append_cancel_right word own (codes "\n")
      (append_cancel_left (codes "word ") (word ++ codes "\n") (own ++ codes "\n")
      (append_cancel_left (lasso_text stem cycle) (codes "word " ++ (word ++ codes "\n")) (codes "word " ++ (own ++ codes "\n")) both))

  -- `empty` has none
  no_word : (output : List ℕ) → output ≡ codes "empty\n" → HasLine output → ⊥
  no_word output written line =
      let before : lasso_part output ≡ codes "empty\n" = ap lasso_part written in
      let both : codes "empty\n" ≡ codes "empty\n" ++ (codes "word " ++ (word ++ codes "\n")) =
      sym written ∙ line ∙ ap (λ (front : List ℕ). front ++ (codes "word " ++ (word ++ codes "\n"))) before in
      let long : length (codes "empty\n") ≡ length (codes "empty\n") + length (codes "word " ++ (word ++ codes "\n")) =
      ap length both ∙ length-append (codes "empty\n") (codes "word " ++ (word ++ codes "\n")) in
      let more : length (codes "word " ++ (word ++ codes "\n")) ≡ length (codes "word ") + length (word ++ codes "\n") =
      length-append (codes "word ") (word ++ codes "\n") in
      omega (arith, long, more)

  module _ (a : Description) (read : IsAutomatonText text a) (plain : has_universal_branching a ≡ false) (output : List ℕ) (line : HasLine output) where
    of_lasso : (stem cycle : List ℕ) → IsAcceptingLasso a stem cycle → output ≡ lasso_lines a word_alone stem cycle → IsLassoWord text word
    of_lasso stem [] lasso written = absurd (omega (arith, lasso.lasso.longer))
    of_lasso stem (first ∷ others) lasso written = record {
      automaton = a;
      read = read;
      plain = plain;
      stem = stem;
      first = first;
      others = others;
      lasso = lasso;
      word_is = same_word a stem (first ∷ others) output written line;
    }

    of_verdict : (verdict : Verdict) → IsVerdict a verdict → output ≡ emptiness_text a word_alone verdict → IsLassoWord text word
    of_verdict Empty right written = absurd (no_word output written line)
    of_verdict (Lasso stem cycle) right written = of_lasso stem cycle right written

  pub lasso_word : IsWrittenWord text word → IsLassoWord text word
  lasso_word is = go is.answered
    where
      go : IsWordAnswer text is.output → IsLassoWord text word
      go (inl searched) =
          let decided = searched.holds in
          of_verdict searched.automaton searched.read decided.given is.output is.line decided.verdict decided.right decided.written
      go (inr (budget, lifted)) =
          let decided = lifted.holds in
          of_verdict lifted.automaton lifted.read decided.given.plain is.output is.line decided.verdict decided.right decided.written
