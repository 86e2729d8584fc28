-- Which text a refusal is about, that of an automaton or that of a lasso.
use Rattle.std.proofs.Common.{◌≡◌, inl, inr, ℕ, List, refl, sym, subst}
use Rattle.omega_text.specs.declared.refusal.Refusal.{Refusal}
use Rattle.omega_text.specs.declared.refusal.Refusal.TheVariants.{Automaton, Circuit, Game, Io, Memory, Task, Text}
use Rattle.omega_text.specs.declared.refusal.task.TaskFault.TheVariants.{UniversalBranch}
use Rattle.omega_hoa_automaton.specs.Automaton.{Description}
use Rattle.omega_io.specs.Refused.{about}
use Rattle.omega_io.specs.declared.refused.Refused.{Refused}
use Rattle.omega_io.specs.declared.refused.Which.TheVariants.{File}
use Rattle.omega_lang_lasso_check.specs.Refusing.{IsJudgeRefusal}
use Rattle.omega_lang_lasso_text.specs.Lines.{IsLassoLines}
use Rattle.omega_lang_lasso_text.specs.declared.lasso.LassoText.{LassoText}
use Rattle.omega_answers.specs.OneAutomaton.{IsRefusalOfText}
use Rattle.omega_answers.proofs.Refusals.{text_is_read}
use Rattle.omega_answers_automaton.specs.Verify.{IsLassoRefused, IsPlainText, RefusesBranching}

-- no file is refused for a failed read
pub file_is_read : (file : List ℕ) → ¬ IsRefusalOfText RefusesBranching file Io
file_is_read file (inl is) = text_is_read file is
file_is_read file (inr is) = let no : Io ≡ Task UniversalBranch = is.holds.1 in cc

-- a refusal of the judge of lassos is about the file
pub judge_refused : (file input : List ℕ) (automaton : Description) (lasso : LassoText) → IsPlainText file automaton → IsLassoLines input lasso
    → (refusal : Refusal) → IsJudgeRefusal automaton lasso.stem lasso.cycle refusal → (reported : Refused) → reported ≡ about File refusal
    → IsLassoRefused file input reported
judge_refused file input automaton lasso file_read input_read refusal refused reported is =
    subst (IsLassoRefused file input) (sym is) (go refusal refused)
  where
    go : (refusal : Refusal) → IsJudgeRefusal automaton lasso.stem lasso.cycle refusal → IsLassoRefused file input (about File refusal)
    go (Task fault) h = inr (record { file = automaton; file_read = file_read; input = lasso; input_read = input_read; holds = (refl, h) })
    go Memory h = inl refl
    go (Text fault) h = absurd h
    go (Game fault) h = absurd h
    go (Circuit fault) h = absurd h
    go (Automaton fault) h = absurd h
    go Io h = absurd h
