-- What containment of the automaton of a word says of the words that are admitted.
use Rattle.std.proofs.Common.{subst, sym}
use Rattle.std.specs.List.{AllByRecursion}
use Rattle.omega_hoa_automaton.specs.Automaton.{Description}
use Rattle.omega_lang_inclusion.specs.Containing.{IsContainment, IsOutside}
use Rattle.omega_lang_inclusion.specs.declared.containment.Containment.TheVariants.{Contained, NotContained}
use Rattle.omega_lang_intersection.specs.declared.answer.Example.{Example}
use Rattle.omega_lang_lasso_word.specs.declared.symbolic_word.SymbolicWord.{SymbolicWord}
use Rattle.omega_text.specs.hoa.Forms.{IsQuotable}
use Rattle.omega_text.specs.NamedWords.{NamedWord}
use Rattle.omega_lang_lasso_word.specs.Laws.{HasStrings}
use Rattle.omega_lang_inclusion.specs.Membership.{HasStringNames, IsMembership, IsRejected}
use Rattle.omega_lang_inclusion.specs.Written.{IsWordAutomaton}
use Rattle.omega_lang_inclusion.specs.declared.membership.Membership.TheVariants.{Accepted, Rejected}
use Rattle.omega_lang_inclusion.proofs.Running.{accepted_admits, admitted_accepts}
use Rattle.omega_lang_inclusion.proofs.Together.{one_word_repeats}

module _ (word : SymbolicWord) (one a : Description) (means : IsWordAutomaton word one) where
  pub contained_accepts : IsContainment one a Contained → IsMembership word a Accepted
  contained_accepts is = record {
    one_word = λ fixed named admitted. is.periodic named (one_word_repeats word a fixed named admitted) (admitted_accepts word one means named admitted);
    periodic = λ named periodic admitted. is.periodic named periodic (admitted_accepts word one means named admitted);
    all = λ omniscience named admitted. is.all omniscience named (admitted_accepts word one means named admitted);
  }

  outside_rejected : (named : NamedWord) → IsOutside one a named → IsRejected word a named
  outside_rejected named outside = record {
    admitted = accepted_admits word one means named outside.accepted;
    not_accepted = outside.not_accepted;
  }

  strings : HasStringNames word → HasStrings one
  strings names = subst (AllByRecursion IsQuotable) (sym means.propositions) names

  pub counterexample_rejects : (example : Example) → IsContainment one a (NotContained example) → IsMembership word a (Rejected example.word)
  counterexample_rejects example is = record {
    named = is.word;
    rejected = outside_rejected is.word is.wanted;
    fits = λ names others. is.fits (strings names, others);
    all_rejected = λ names others other fits. outside_rejected other (is.all_wanted (strings names, others) other fits);
  }
