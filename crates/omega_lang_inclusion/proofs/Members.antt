-- What the intersection with the automaton of a word says of the words that are admitted.
use Rattle.std.proofs.Common.{sym, subst}
use Rattle.std.specs.List.{AllByRecursion}
use Rattle.omega_text.specs.hoa.Forms.{IsQuotable}
use Rattle.omega_hoa_automaton.specs.Automaton.{Description}
use Rattle.omega_lang_intersection.specs.Intersection.{AcceptBoth, IsIntersection}
use Rattle.omega_lang_intersection.specs.declared.answer.Intersection.{Intersection}
use Rattle.omega_lang_intersection.specs.declared.answer.Intersection.TheVariants.{Common, Empty}
use Rattle.omega_lang_lasso_word.specs.Laws.{HasStrings}
use Rattle.omega_lang_lasso_word.specs.declared.symbolic_word.SymbolicWord.{SymbolicWord}
use Rattle.omega_text.specs.NamedWords.{NamedWord}
use Rattle.omega_lang_inclusion.specs.Membership.{HasStringNames}
use Rattle.omega_lang_inclusion.specs.SomeWord.{IsMember, IsSomeMembership}
use Rattle.omega_lang_inclusion.specs.Written.{IsWordAutomaton}
use Rattle.omega_lang_inclusion.proofs.Running.{accepted_admits, admitted_accepts}

module _ (word : SymbolicWord) (one a : Description) (means : IsWordAutomaton word one) where
  -- a word that both automata accept is a member, and each member is one
  member : (named : NamedWord) → AcceptBoth a one named → IsMember word a named
  member named common = record {
    admitted = accepted_admits word one means named common.second;
    accepted = common.first;
  }

  common : (named : NamedWord) → IsMember word a named → AcceptBoth a one named
  common named is = record {
    first = is.accepted;
    second = admitted_accepts word one means named is.admitted;
  }

  strings : HasStringNames word → HasStrings one
  strings names = subst (AllByRecursion IsQuotable) (sym means.propositions) names

  pub some_right : (answer : Intersection) → IsIntersection a one answer → IsSomeMembership word a answer
  some_right Empty none = λ named is. none named (common named is)
  some_right (Common example) is = record {
    word = is.word;
    wanted = member is.word is.wanted;
    fits = λ names. is.fits (names.0, strings names.1);
    all_wanted = λ names named fits. member named (is.all_wanted (names.0, strings names.1) named fits);
    lasso = is.lasso;
    goes_along = λ names named fits. is.goes_along (names.0, strings names.1) named fits;
  }
