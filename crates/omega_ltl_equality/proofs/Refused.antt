-- Refusals for a choice are for automata that are not deterministic.
use Rattle.std.proofs.Common.{◌≡◌, inl, inr, ℕ, ◌<◌, ◌||◌, false, true, refl, sym, ap₂, ◌∙◌, arith, length, true≢false}
use Rattle.std.proofs.lemmas.Option.{slice_get_within}
use Rattle.omega_hoa_automaton.specs.Automaton.{Description}
use Rattle.omega_hoa_automaton.specs.Branching.{has_universal_branching}
use Rattle.omega_hoa_edges.specs.Determinism.{IsDeterministic}
use Rattle.omega_lang_complement.specs.Complement.{IsComplement}
use Rattle.omega_lang_complement.specs.Refusing.{IsUncomplemented}
use Rattle.omega_ltl_formula.specs.Formula.{FormulaTree}
use Rattle.omega_ltl_formula.specs.Table.{NumberedFormula, tree_of}
use Rattle.omega_ltl_satisfaction.specs.Refusing.{IsMeetingRefusal, IsSatisfactionRefusal, IsSatisfyingWordsRefusal}
use Rattle.omega_ltl_satisfaction.specs.Refusing as words
use Rattle.omega_text.specs.declared.refusal.Refusal.{Refusal}
use Rattle.omega_text.specs.declared.refusal.Refusal.TheVariants.{Automaton, Circuit, Game, Io, Memory, Task, Text}
use Rattle.omega_text.specs.declared.refusal.task.TaskFault.TheVariants.{BadSolution, Budget, Controllable, NotDeterministic, NotParity, TooLarge, TooManyPropositions, TooWide, UniversalBranch, Unjudged, UnknownNode}
use Rattle.omega_ltl_equality.specs.Judging.{IsJudgingRefusal, not_decided, not_deterministic, unjudged}
use Rattle.omega_ltl_equality.specs.Refusing.{IsFormulaEqualityRefusal, not_complemented, not_met, not_satisfied}
use Rattle.omega_ltl_equality.specs.private.Choice.{unjudged_for_choice}
use Rattle.omega_ltl_equality.proofs.PlainComplement.{complement_plain}

-- a complement is not refused for universal branching
pub complement_met : (a rest : Description) (formula : NumberedFormula) (refusal : Refusal) → has_universal_branching a ≡ false → IsComplement a rest
    → IsSatisfyingWordsRefusal rest formula refusal → IsMeetingRefusal rest (tree_of formula) refusal
complement_met a rest formula refusal plain is (words.branched branching to) = absurd (true≢false (sym branching ∙ complement_plain a plain rest is))
complement_met a rest formula refusal plain is (words.not_decided unbranched refused) = refused

-- an automaton that is met with conjuncts is refused for no choice
module _ (a : Description) (whole : FormulaTree) where
  met_choice : (state : ℕ) → IsMeetingRefusal a whole (Task (NotDeterministic state)) → ⊥
  met_choice state (words.not_translated large) = cc
  met_choice state (words.not_met one conjunct met plain automaton refused) = refused

  met_branch : IsMeetingRefusal a whole (Task UniversalBranch) → ⊥
  met_branch (words.not_translated large) = cc
  met_branch (words.not_met one conjunct met plain automaton refused) =
      true≢false (sym refused ∙ ap₂ ◌||◌ plain automaton.buchi.plain)

  words_choice : (state : ℕ) → words.IsWordsRefusal a whole (Task (NotDeterministic state)) → ⊥
  words_choice state (words.branched branching to) = cc
  words_choice state (words.not_decided unbranched refused) = met_choice state refused

  words_branch : words.IsWordsRefusal a whole (Task UniversalBranch) → has_universal_branching a ≡ true
  words_branch (words.branched branching to) = branching
  words_branch (words.not_decided unbranched refused) = absurd (met_branch refused)

module _ (a : Description) where
  -- a choice of the complement's refusal is one
  uncomplemented_choice : (state : ℕ) → IsUncomplemented a (Task (NotDeterministic state)) → IsDeterministic a → ⊥
  uncomplemented_choice state (inl second) deterministic =
      let within : 1 < length a.starts = slice_get_within a.starts 1 second.1.0 second.1.1 in
      omega (arith, within, deterministic.one_start)
  uncomplemented_choice state (inr first) deterministic =
      deterministic.apart first.1.0 first.1.1 first.1.4.1

  branches : has_universal_branching a ≡ true → IsDeterministic a → ⊥
  branches branching deterministic = true≢false (sym branching ∙ deterministic.plain)

  module _ (formula : NumberedFormula) where
    choice : (state : ℕ) → IsFormulaEqualityRefusal a formula (Task (NotDeterministic state)) → IsDeterministic a → ⊥
    choice state (not_satisfied refused) = absurd (words_choice a _ state refused)
    choice state (not_complemented satisfied refused) = uncomplemented_choice state refused
    choice state (not_met rest satisfied given is refused) = absurd (met_choice rest _ state refused)

    branch : IsFormulaEqualityRefusal a formula (Task UniversalBranch) → IsDeterministic a → ⊥
    branch (not_satisfied refused) = branches (words_branch a _ refused)
    branch (not_complemented satisfied refused) = branches refused
    branch (not_met rest satisfied given is refused) = absurd (met_branch rest _ refused)

    -- the refusal of a judge
    pub judging_refused : (refusal : Refusal) → IsFormulaEqualityRefusal a formula refusal → IsJudgingRefusal a formula (unjudged_for_choice refusal)
    judging_refused (Task (NotDeterministic state)) refused = unjudged refl (not_deterministic (choice state refused))
    judging_refused (Task UniversalBranch) refused = unjudged refl (not_deterministic (branch refused))
    judging_refused (Task BadSolution) refused = not_decided (record { no_choice = λ state e. cc; no_branch = λ e. cc }) refused
    judging_refused (Task Budget) refused = not_decided (record { no_choice = λ state e. cc; no_branch = λ e. cc }) refused
    judging_refused (Task Controllable) refused = not_decided (record { no_choice = λ state e. cc; no_branch = λ e. cc }) refused
    judging_refused (Task NotParity) refused = not_decided (record { no_choice = λ state e. cc; no_branch = λ e. cc }) refused
    judging_refused (Task TooLarge) refused = not_decided (record { no_choice = λ state e. cc; no_branch = λ e. cc }) refused
    judging_refused (Task TooManyPropositions) refused = not_decided (record { no_choice = λ state e. cc; no_branch = λ e. cc }) refused
    judging_refused (Task TooWide) refused = not_decided (record { no_choice = λ state e. cc; no_branch = λ e. cc }) refused
    judging_refused (Task Unjudged) refused = not_decided (record { no_choice = λ state e. cc; no_branch = λ e. cc }) refused
    judging_refused (Task UnknownNode) refused = not_decided (record { no_choice = λ state e. cc; no_branch = λ e. cc }) refused
    judging_refused (Text fault) refused = not_decided (record { no_choice = λ state e. cc; no_branch = λ e. cc }) refused
    judging_refused (Game fault) refused = not_decided (record { no_choice = λ state e. cc; no_branch = λ e. cc }) refused
    judging_refused (Circuit fault) refused = not_decided (record { no_choice = λ state e. cc; no_branch = λ e. cc }) refused
    judging_refused (Automaton fault) refused = not_decided (record { no_choice = λ state e. cc; no_branch = λ e. cc }) refused
    judging_refused Memory refused = not_decided (record { no_choice = λ state e. cc; no_branch = λ e. cc }) refused
    judging_refused Io refused = not_decided (record { no_choice = λ state e. cc; no_branch = λ e. cc }) refused
