-- What an answer for the automaton of a symbolic word says of the words that are admitted.
use Rattle.std.proofs.Common.{◌≡◌, ℕ, false, ◌||◌, List, [], ◌∷◌, length, nat_lt, refl, sym, ap}
use Rattle.std.proofs.Common.{subst, ◌∙◌, ◌+◌, true≢false}
use Rattle.std.specs.List.{AllByRecursion, AllZip, list_any}
use Rattle.omega_hoa_automaton.specs.Automaton.{Description}
use Rattle.omega_hoa_automaton.specs.Branching.{has_universal_branching, state_branches}
use Rattle.omega_hoa_automaton.specs.Meaning.{IsEdgeOf, IsStateOf}
use Rattle.omega_hoa_automaton.specs.declared.edge.Edge.{Edge}
use Rattle.omega_hoa_automaton.specs.declared.state.State.{State}
use Rattle.omega_hoa_label.specs.Raw.{RawLabelTree}
use Rattle.omega_hoa_syntax.specs.declared.raw_edge.RawEdge.{RawEdge}
use Rattle.omega_lang_inclusion.specs.Membership.{HasStringNames}
use Rattle.omega_lang_inclusion.specs.Written.{IsWordAutomaton, letter_count, letter_states}
use Rattle.omega_lang_inclusion.specs.Written.{letters_of, next_state}
use Rattle.omega_lang_inclusion.proofs.Running.{accepted_admits, admitted_accepts}
use Rattle.omega_lang_intersection.specs.declared.answer.Example.{Example}
use Rattle.omega_lang_lasso_word.specs.Laws.{HasStrings}
use Rattle.omega_lang_lasso_word.specs.declared.symbolic_word.SymbolicWord.{SymbolicWord}
use Rattle.omega_ltl_formula.specs.Table.{NumberedFormula, tree_of}
use Rattle.omega_text.specs.NamedWords.{NamedWord}
use Rattle.omega_text.specs.declared.refusal.Refusal.{Refusal}
use Rattle.omega_text.specs.hoa.Forms.{IsQuotable}
use Rattle.omega_ltl_satisfaction.specs.Refusing.{IsSatisfactionRefusal}
use Rattle.omega_ltl_satisfaction.specs.Refusing as refusing
use Rattle.omega_ltl_satisfaction.specs.WordRefusing.{IsWordSatisfactionRefusal}
use Rattle.omega_ltl_satisfaction.specs.WordRefusing as word_refusing
use Rattle.omega_ltl_satisfaction.specs.Satisfaction.{IsSatisfaction, IsUnsatisfying}
use Rattle.omega_ltl_satisfaction.specs.WordSatisfaction.{IsUnsatisfyingAdmitted, IsWordSatisfaction}
use Rattle.omega_ltl_satisfaction.specs.declared.satisfaction.Satisfaction.TheVariants as answer
use Rattle.omega_ltl_satisfaction.specs.declared.word_satisfaction.WordSatisfaction.TheVariants as word_answer

-- the one edge of a letter lists one state
one_edge : (raw : RawEdge) (next : ℕ) (edges : List Edge) → raw.targets ≡ next ∷ [] → AllZip (IsEdgeOf []) (raw ∷ []) edges
    → list_any (λ (edge : Edge). nat_lt 1 (length edge.targets)) edges ≡ false
one_edge raw next [] one all = absurd all
one_edge raw next (edge ∷ []) one all = ap (λ (targets : List ℕ). nat_lt 1 (length targets) || false) (all.0.targets ∙ one)
one_edge raw next (edge ∷ other ∷ edges) one all = absurd all.1

no_state_branches : (count back number : ℕ) (letters : List RawLabelTree) (defined : List State)
    → AllZip (IsStateOf []) (letter_states count back number letters) defined → list_any state_branches defined ≡ false
no_state_branches count back number [] [] all = refl
no_state_branches count back number [] (state ∷ states) all = absurd all
no_state_branches count back number (x ∷ xs) [] all = absurd all
no_state_branches count back number (x ∷ xs) (state ∷ states) all =
    ap (λ b. b || list_any state_branches states) (one_edge _ (next_state count back number) state.edges refl all.0.edges)
    ∙ no_state_branches count back (number + 1) xs states all.1

module _ (word : SymbolicWord) (one : Description) (means : IsWordAutomaton word one) where
  -- no start and no edge lists two states
  plain : has_universal_branching one ≡ false
  plain =
      ap (λ (starts : List (List ℕ)). list_any (λ (start : List ℕ). nat_lt 1 (length start)) starts || list_any state_branches one.defined) means.starts
      ∙ no_state_branches (letter_count word) (length word.stem) 0 (letters_of word) one.defined means.defined

  strings : HasStringNames word → HasStrings one
  strings names = subst (AllByRecursion IsQuotable) (sym means.propositions) names

  module _ (formula : NumberedFormula) where
    pub all_satisfy : IsSatisfaction one formula answer.Satisfied → IsWordSatisfaction word formula word_answer.Satisfied
    all_satisfy satisfied omniscience named admitted = satisfied omniscience named (admitted_accepts word one means named admitted)

    -- a word of the automaton is admitted
    unsatisfying : (named : NamedWord) → IsUnsatisfying one (tree_of formula) named → IsUnsatisfyingAdmitted word (tree_of formula) named
    unsatisfying named is = record {
      admitted = accepted_admits word one means named is.accepted;
      not_satisfied = is.not_satisfied;
    }

    pub some_unsatisfying : (example : Example) → IsSatisfaction one formula (answer.NotSatisfied example)
        → IsWordSatisfaction word formula (word_answer.NotSatisfied example.word)
    some_unsatisfying example unsatisfied = record {
      named = unsatisfied.word;
      unsatisfying = unsatisfying unsatisfied.word unsatisfied.wanted;
      fits = λ names others. unsatisfied.fits (strings names, others);
      all_unsatisfying = λ names others named fits. unsatisfying named (unsatisfied.all_wanted (strings names, others) named fits);
    }

    pub word_refused : (refusal : Refusal) → IsSatisfactionRefusal one formula refusal → IsWordSatisfactionRefusal word formula refusal
    word_refused refusal (refusing.branched branching is) = absurd (true≢false (sym branching ∙ plain))
    word_refused refusal (refusing.not_decided unbranched is) = word_refusing.not_decided one means is
