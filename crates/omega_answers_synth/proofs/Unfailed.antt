-- `realize -f` is not refused because a read or a write failed.
use Rattle.std.proofs.Common.{List, ℕ, inl, inr}
use Rattle.omega_text.specs.declared.refusal.Refusal.{Refusal}
use Rattle.omega_text.specs.declared.refusal.Refusal.TheVariants.{Io}
use Rattle.omega_hoa_automaton.specs.Automaton.{Description}
use Rattle.omega_io.specs.declared.exit.Exit.{Exit}
use Rattle.omega_io.specs.declared.exit.Exit.TheVariants.{Done, No}
use Rattle.omega_ltl_formula.specs.Formula.{FormulaTree}
use Rattle.omega_ltl_formula.specs.Table.{NumberedFormula}
use Rattle.omega_ltl_satisfaction.specs.Refusing as words
use Rattle.omega_synth_formula.specs.CounterRefusing as counter
use Rattle.omega_synth_formula.specs.Following as letters
use Rattle.omega_synth_formula.specs.Refusing as controller
use Rattle.omega_answers_synth.specs.FormulaRefusing as winner
use Rattle.omega_answers_synth.specs.Outputs.{NameLists, not_parted, output_numbers, with_outputs}

-- ---- the judges

no_meeting : (a : Description) (whole : FormulaTree) → words.IsMeetingRefusal a whole Io → ⊥
no_meeting a whole (words.not_translated large) = large
no_meeting a whole (words.not_met one conjunct met plain is refused) = refused

no_words : (a : Description) (whole : FormulaTree) → words.IsWordsRefusal a whole Io → ⊥
no_words a whole (words.branched branches is) = cc
no_words a whole (words.not_decided plain refused) = no_meeting a whole refused

no_letters : (strategy : Description) (controlled : List (List ℕ)) → letters.IsLetterlessRefusal strategy controlled Io → ⊥
no_letters strategy controlled (letters.not_complemented refused) = refused
no_letters strategy controlled (letters.not_searched complement has is refused) = refused

no_controller : (formula : NumberedFormula) (a : Description) (controlled : List ℕ) → controller.IsFormulaJudgeRefusal formula a controlled Io → ⊥
no_controller formula a controlled (controller.not_read refused) = refused
no_controller formula a controlled (controller.no_memory refused) = refused
no_controller formula a controlled (controller.not_searched readable refused) = refused
no_controller formula a controlled (controller.not_decided judged refused) = no_words a _ refused

no_counter : (formula : NumberedFormula) (a : Description) (controlled : List (List ℕ)) → counter.IsFormulaCounterRefusal formula a controlled Io → ⊥
no_counter formula a controlled (counter.not_read refused) = refused
no_counter formula a controlled (counter.no_memory refused) = refused
no_counter formula a controlled (counter.no_letters readable refused) = no_letters a controlled refused
no_counter formula a controlled (counter.not_decided readable refused) = no_words a _ refused

-- ---- winners

no_own : (Refuses : Refusal → Type 0) → ¬ Refuses Io → winner.IsOwnRefusal Refuses Io → ⊥
no_own Refuses none (winner.of_form found refused form is) = cc
no_own Refuses none (winner.as_found refused other) = none refused

no_own_text : (Refuses : Refusal → Type 0) → winner.IsOwnTextRefusal Refuses Io → ⊥
no_own_text Refuses (winner.of_size found refused size is) = cc
no_own_text Refuses (winner.not_of_size found refused other is) = cc

no_unjudged : (outs : List (List ℕ)) (a : Description) (Refuses : Refusal → Type 0) (Otherwise : Type 0) → ¬ Refuses Io
    → winner.IsUnjudged outs a Refuses Otherwise Io → ⊥
no_unjudged outs a Refuses Otherwise none (winner.lacks_memory refused) = refused
no_unjudged outs a Refuses Otherwise none (winner.not_outputs other is) = cc
no_unjudged outs a Refuses Otherwise none (winner.judge_refuses refused) = no_own Refuses none refused
no_unjudged outs a Refuses Otherwise none (winner.judged_otherwise other is) = cc

no_unjudged_winner : (formula : NumberedFormula) (outs : List (List ℕ)) (exit : Exit) (a : Description)
    → winner.IsUnjudgedWinner formula outs exit a Io → ⊥
no_unjudged_winner formula outs Done a refused = no_unjudged outs a _ _ (no_controller formula a (output_numbers a outs)) refused
no_unjudged_winner formula outs No a refused = no_unjudged outs a _ _ (no_counter formula a outs) refused

no_winner : (formula : NumberedFormula) (outs : List (List ℕ)) → winner.IsNotWon formula outs Io → ⊥
no_winner formula outs (winner.no_memory refused) = refused
no_winner formula outs (winner.not_proposed large) = large
no_winner formula outs (winner.not_realized a form refused) = no_own _ (λ none. none) refused
no_winner formula outs (winner.not_read exit text proposed refused) = no_own_text _ refused
no_winner formula outs (winner.not_judged exit text a proposed read refused) = no_unjudged_winner formula outs exit a refused

no_named_winner : (formula : NumberedFormula) (lists : NameLists) → winner.RefusesWinner formula lists Io → ⊥
no_named_winner formula lists (not_parted other is) = cc
no_named_winner formula lists (with_outputs parted refused) = no_winner formula _ refused

pub no_refusal : (text : List ℕ) (lists : NameLists) → winner.IsFormulaRealizeRefusal text lists Io → ⊥
no_refusal text lists (inl refused) = refused
no_refusal text lists (inr refused) = no_named_winner refused.formula lists refused.holds
