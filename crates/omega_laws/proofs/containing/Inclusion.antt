-- What `contained` and `equal` answer of two texts.
use Rattle.std.proofs.Common.{◌≡◌, ◌++◌, ℕ, inl, inr, Bool, List, [], codes, sym, subst}
use Rattle.omega_hoa_automaton.specs.Automaton.{Description}
use Rattle.omega_hoa.specs.Alone.{IsAutomatonText}
use Rattle.omega_hoa_round_trips.specs.Laws.{ReadAutomataAreWritable}
use Rattle.omega_io.specs.declared.exit.Exit.{Exit}
use Rattle.omega_lang_inclusion.specs.Containing.{IsContained, IsContainment, IsCounterexample}
use Rattle.omega_lang_inclusion.specs.Equality.{IsEquality}
use Rattle.omega_lang_inclusion.specs.declared.containment.Containment.{Containment}
use Rattle.omega_lang_inclusion.specs.declared.containment.Containment.TheVariants.{Contained, NotContained}
use Rattle.omega_lang_intersection.specs.declared.answer.Example.{Example}
use Rattle.omega_lang_inclusion.specs.declared.equality.Equality.{Equality}
use Rattle.omega_lang_inclusion.specs.declared.equality.Equality.TheVariants.{Equal, OnlyFirst, OnlySecond}
use Rattle.omega_lang_lasso_text.specs.Written.{lasso_text}
use Rattle.omega_lang_lasso_word.specs.LassoWordText.{lasso_word_text}
use Rattle.omega_lang_lasso_word.specs.Laws.{HasStrings}
use Rattle.omega_io.specs.Answer.{IsReply, explained}
use Rattle.omega_answers_inclusion.specs.Contained.{containment_answer}
use Rattle.omega_answers_inclusion.specs.Equal.{equality_answer}
use Rattle.omega_answers_inclusion.specs.Example.{example_lines}
use Rattle.omega_laws.specs.Describes.{DescribedAreAlike}
use Rattle.omega_laws.specs.InclusionTexts.{ContainedTextsAreContained, EqualTextsAreEqual, SaysContained, SaysEqual, TellsOutside}
use Rattle.omega_laws.specs.TextWords.{AcceptsWordsOf}
use Rattle.omega_laws.proofs.saying.Described.{described}
use Rattle.omega_laws.proofs.containing.Parted.{seen_periodic}
use Rattle.omega_laws.proofs.containing.Texts.{of_automaton, of_text}

module _ (law : DescribedAreAlike) (writable : ReadAutomataAreWritable) where
  -- two texts and their automata
  module _ (text other : List ℕ) (one a : Description) (read : IsAutomatonText text one) (other_read : IsAutomatonText other a) where
    words_accepted : IsContained one a → AcceptsWordsOf other text
    words_accepted is = record {
      described = ((a, described other a other_read), (one, described text one read));
      periodic = λ word periodic accepts. of_automaton other a word other_read
          (is.periodic word (seen_periodic a word periodic) (of_text law text one word read accepts));
      all = λ omniscience word accepts. of_automaton other a word other_read (is.all omniscience word (of_text law text one word read accepts));
    }

    words_told : (explain : Bool) (output lines : List ℕ) (example : Example) → IsCounterexample one a example
        → output ≡ codes "no\n" ++ explained explain (lines ++ example_lines example) → TellsOutside text other lines explain output
    words_told explain output lines example is written =
        let strings : HasStrings one = (writable one (inl (text, read))).propositions in
        let other_strings : HasStrings a = (writable a (inl (other, other_read))).propositions in
        record {
          described = (a, described other a other_read);
          told = record {
            words = lasso_word_text example.word;
            fitting = is.word;
            fits = is.fits (strings, other_strings);
            wanted = λ word fits. (let outside = is.all_wanted (strings, other_strings) word fits in (
              of_automaton text one word read outside.accepted,
              λ accepts. outside.not_accepted (of_text law other a word other_read accepts),
            ));
            others = lasso_text example.stem example.cycle;
            told = written;
          };
        }

  pub contained_said : ContainedTextsAreContained
  contained_said file input explain exit output answer = go answer.holds.answer answer.holds.right answer.holds.reply
    where
      go : (said : Containment) → IsContainment answer.input answer.file said → IsReply (containment_answer explain said) exit output → SaysContained file input explain exit output
      go Contained right reply =
          subst (λ (e : Exit). SaysContained file input explain e output) (sym reply.0)
          (reply.1, words_accepted input file answer.input answer.file answer.input_read answer.file_read right)
      go (NotContained example) right reply =
          subst (λ (e : Exit). SaysContained file input explain e output) (sym reply.0)
          (words_told input file answer.input answer.file answer.input_read answer.file_read explain output [] example right reply.1)

  pub equal_said : EqualTextsAreEqual
  equal_said file input explain exit output answer = go answer.holds.answer answer.holds.right answer.holds.reply
    where
      go : (said : Equality) → IsEquality answer.input answer.file said → IsReply (equality_answer explain said) exit output → SaysEqual file input explain exit output
      go Equal right reply =
          subst (λ (e : Exit). SaysEqual file input explain e output) (sym reply.0) (
            reply.1,
            words_accepted input file answer.input answer.file answer.input_read answer.file_read right.0,
            words_accepted file input answer.file answer.input answer.file_read answer.input_read right.1,
          )
      go (OnlyFirst example) right reply =
          subst (λ (e : Exit). SaysEqual file input explain e output) (sym reply.0)
          (inl (words_told input file answer.input answer.file answer.input_read answer.file_read explain output (codes "accepted by input\n") example right reply.1))
      go (OnlySecond example) right reply =
          subst (λ (e : Exit). SaysEqual file input explain e output) (sym reply.0)
          (inr (
            words_accepted input file answer.input answer.file answer.input_read answer.file_read right.0,
            words_told file input answer.file answer.input answer.file_read answer.input_read explain output (codes "accepted by file\n") example right.1 reply.1,
          ))
