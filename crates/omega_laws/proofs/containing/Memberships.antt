-- What `accepts` answers of the text of a word and of that of an automaton.
use Rattle.std.proofs.Common.{◌≡◌, ℕ, inl, List, [], Contains, sym, subst}
use Rattle.omega_hoa_automaton.specs.Automaton.{Description}
use Rattle.omega_hoa_round_trips.specs.Laws.{ReadAutomataAreWritable}
use Rattle.omega_io.specs.declared.exit.Exit.{Exit}
use Rattle.omega_lang_lasso_word.specs.Admitted.{Admits}
use Rattle.omega_lang_lasso_word.specs.Fitting.{Fits}
use Rattle.omega_lang_lasso_word.specs.LassoWordText.{lasso_word_text}
use Rattle.omega_lang_lasso_word.specs.Laws.{HasStrings}
use Rattle.omega_lang_lasso_word.specs.declared.symbolic_word.SymbolicWord.{SymbolicWord}
use Rattle.omega_text.specs.NamedWords.{NamedWord}
use Rattle.omega_lang_word_text.specs.Laws.{FittingTextsAreRead, NamesAreStrings, WordsOfTextsAreOne}
use Rattle.omega_lang_word_text.specs.Text.{IsWordText}
use Rattle.omega_lang_intersection.specs.declared.answer.Intersection.{Intersection}
use Rattle.omega_lang_intersection.specs.declared.answer.Intersection.TheVariants.{Common, Empty}
use Rattle.omega_lang_lasso_text.specs.Written.{lasso_text}
use Rattle.omega_lang_inclusion.specs.Membership.{HasStringNames, IsMembership}
use Rattle.omega_lang_inclusion.specs.OneWord.{IsOneWordFor}
use Rattle.omega_lang_inclusion.specs.SomeWord.{IsSomeMembership}
use Rattle.omega_lang_inclusion.specs.declared.membership.Membership.{Membership}
use Rattle.omega_lang_inclusion.specs.declared.membership.Membership.TheVariants.{Accepted, Rejected}
use Rattle.omega_io.specs.Answer.{IsReply}
use Rattle.omega_answers_inclusion.specs.Accepts.{membership_answer}
use Rattle.omega_answers_inclusion.specs.AcceptsSome.{some_exit, some_text}
use Rattle.omega_laws.specs.Describes.{DescribedAreAlike}
use Rattle.omega_laws.specs.InclusionTexts.{AcceptedTextsAreAccepted, SaysAccepted, SaysSomeAccepted, SomeTextsAreAccepted}
use Rattle.omega_laws.proofs.saying.Described.{described}
use Rattle.omega_laws.proofs.containing.Parted.{seen_periodic}
use Rattle.omega_laws.proofs.containing.Texts.{of_automaton, of_text}

-- what fits the text of a word is admitted
fitting_admitted : FittingTextsAreRead → WordsOfTextsAreOne → (word : List ℕ) (symbolic : SymbolicWord) → IsWordText word symbolic → (named : NamedWord) → Fits word named → Admits symbolic named
fitting_admitted fitting words_one word symbolic read named fits =
    let own = fitting word named fits read.short in
    let same : own.0 ≡ symbolic = words_one word own.0 symbolic own.1 read in
    subst (λ (s : SymbolicWord). Admits s named) same ((own.2 named).1 fits)

pub accepted_said : DescribedAreAlike → ReadAutomataAreWritable → FittingTextsAreRead → NamesAreStrings → WordsOfTextsAreOne → AcceptedTextsAreAccepted
accepted_said law writable fitting names words_one word text explain exit output answer = go answer.holds.answer answer.holds.right answer.holds.reply
  where
    symbolic : SymbolicWord
    symbolic = answer.file

    a : Description
    a = answer.input

    admitted : (named : NamedWord) → Fits word named → Admits symbolic named
    admitted = fitting_admitted fitting words_one word symbolic answer.file_read

    go : (said : Membership) → IsMembership symbolic a said → IsReply (membership_answer explain said) exit output → SaysAccepted word text explain exit output
    go Accepted right reply =
        subst (λ (e : Exit). SaysAccepted word text explain e output) (sym reply.0) (
          reply.1,
          record {
            described = (a, described text a answer.input_read);
            read = (symbolic, answer.file_read);
            periodic = λ named periodic fits. of_automaton text a named answer.input_read (right.periodic named (seen_periodic a named periodic) (admitted named fits));
            one_word = λ other b read described_too fixed named fits.
                (let same : other ≡ symbolic = words_one word other symbolic read answer.file_read in
                let also : b.propositions ≡ a.propositions = (law text b a described_too (described text a answer.input_read)).0 in
                let own : IsOneWordFor symbolic a = λ letter name listed has.
                subst (λ (s : SymbolicWord). IsOneWordFor s b) same fixed letter name listed (subst (λ (names : List (List ℕ)). Contains names name) (sym also) has) in
                of_automaton text a named answer.input_read (right.one_word own named (admitted named fits)));
            all = λ omniscience named fits. of_automaton text a named answer.input_read (right.all omniscience named (admitted named fits));
          },
        )
    go (Rejected words) right reply =
        let strings : HasStrings a = (writable a (inl (text, answer.input_read))).propositions in
        let own = names word symbolic answer.file_read in
        subst (λ (e : Exit). SaysAccepted word text explain e output) (sym reply.0)
        (record {
          described = (a, described text a answer.input_read);
          symbolic = symbolic;
          read = answer.file_read;
          told = record {
            words = lasso_word_text words;
            fitting = right.named;
            fits = right.fits own strings;
            wanted = λ named fits. (let rejected = right.all_rejected own strings named fits in
                (rejected.admitted, λ accepts. rejected.not_accepted (of_text law text a named answer.input_read accepts)));
            others = [];
            told = reply.1;
          };
        })

pub some_said : DescribedAreAlike → ReadAutomataAreWritable → FittingTextsAreRead → NamesAreStrings → WordsOfTextsAreOne → SomeTextsAreAccepted
some_said law writable fitting names words_one word text explain exit output answer = go answer.holds.answer answer.holds.right answer.holds.ends answer.holds.written
  where
    symbolic : SymbolicWord
    symbolic = answer.file

    a : Description
    a = answer.input

    strings : HasStrings a
    strings = (writable a (inl (text, answer.input_read))).propositions

    go : (said : Intersection) → IsSomeMembership symbolic a said → exit ≡ some_exit said → output ≡ some_text explain said → SaysSomeAccepted word text explain exit output
    go Empty none ends written =
        subst (λ (e : Exit). SaysSomeAccepted word text explain e output) (sym ends) (
          written,
          record {
            described = (a, described text a answer.input_read);
            read = (symbolic, answer.file_read);
            none = λ named fits accepts. none named (record {
              admitted = fitting_admitted fitting words_one word symbolic answer.file_read named fits;
              accepted = of_text law text a named answer.input_read accepts;
            });
          },
        )
    go (Common example) is ends written =
        let both : HasStrings a × HasStringNames symbolic = (strings, names word symbolic answer.file_read) in
        subst (λ (e : Exit). SaysSomeAccepted word text explain e output) (sym ends)
        (record {
          symbolic = symbolic;
          read = answer.file_read;
          told = record {
            words = lasso_word_text example.word;
            fitting = is.word;
            fits = is.fits both;
            wanted = λ named fits. (let member = is.all_wanted both named fits in (member.admitted, of_automaton text a named answer.input_read member.accepted));
            others = lasso_text example.stem example.cycle;
            told = written;
          };
        })
