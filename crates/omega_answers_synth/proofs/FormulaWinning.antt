-- Why no winner, or no game, is written of a formula, step by step.
use Rattle.std.proofs.Common.{◌≡◌, ◌⊎◌, ◌∙◌, inl, inr, ℕ, List, refl, sym, ap, subst}
use Rattle.omega_text.specs.Cases.{IsMemory, or_memory}
use Rattle.omega_text.specs.declared.refusal.Refusal.{Refusal}
use Rattle.omega_text.specs.declared.refusal.Refusal.TheVariants.{Automaton, Circuit, Game, Io, Memory, Task, Text}
use Rattle.omega_text.specs.declared.refusal.automaton.AutomatonFault.{AutomatonFault}
use Rattle.omega_text.specs.declared.refusal.automaton.AutomatonFault.TheVariants as automata
use Rattle.omega_text.specs.declared.refusal.task.TaskFault.{TaskFault}
use Rattle.omega_text.specs.declared.refusal.task.TaskFault.TheVariants as tasks
use Rattle.omega_text.specs.declared.refusal.text.TextFault.{TextFault}
use Rattle.omega_text.specs.declared.refusal.text.TextFault.TheVariants as texts
use Rattle.omega_hoa.specs.Alone.{IsAutomatonRefusal}
use Rattle.omega_hoa_automaton.specs.Automaton.{Description}
use Rattle.omega_io.specs.declared.exit.Exit.{Exit}
use Rattle.omega_io.specs.declared.refused.Refused.{Refused}
use Rattle.omega_ltl_deterministic.specs.Candidate.{IsCandidate}
use Rattle.omega_ltl_formula.specs.Table.{NumberedFormula}
use Rattle.omega_solve.specs.Limits.{most_lifts}
use Rattle.omega_synth_realize.specs.Gaming.{IsRealizabilityGameRefusal}
use Rattle.omega_synth_realize.specs.Refusing.{IsRealizabilityRefusal}
use Rattle.omega_answers_synth.specs.FormulaGame.{IsAutomatonOfFormula, IsNotGamed, not_made}
use Rattle.omega_answers_synth.specs.FormulaRefusing.{IsNotWon, IsOwnRefusal, IsOwnTextRefusal, IsUnjudged, as_found, lacks_memory, no_memory}
use Rattle.omega_answers_synth.specs.FormulaRefusing.{not_of_size, not_outputs, not_read, not_realized, of_form, of_size}
use Rattle.omega_answers_synth.specs.FormulaWinner.{IsProposedWinner}
use Rattle.omega_answers_synth.specs.Outputs.{AreNotOutputs, AreOutputsRefused, output_numbers}
use Rattle.omega_answers_synth.specs.private.Own.{unjudged_for_form, unread_for_size}

-- what the program found itself is refused by what is said in place of its refusal
pub own_refusal : (Refuses : Refusal → Type 0) (found : Refusal) → Refuses found → (refusal : Refusal) → refusal ≡ unjudged_for_form found → IsOwnRefusal Refuses refusal
own_refusal Refuses found h refusal is = subst (IsOwnRefusal Refuses) (sym is) (go found h)
  where
    go_task : (fault : TaskFault) → Refuses (Task fault) → IsOwnRefusal Refuses (unjudged_for_form (Task fault))
    go_task tasks.NotParity h = of_form (Task tasks.NotParity) h tt refl
    go_task tasks.UniversalBranch h = of_form (Task tasks.UniversalBranch) h tt refl
    go_task (tasks.NotDeterministic state) h = of_form (Task (tasks.NotDeterministic state)) h tt refl
    go_task tasks.TooManyPropositions h = as_found h (λ no. no)
    go_task tasks.TooWide h = as_found h (λ no. no)
    go_task tasks.Budget h = as_found h (λ no. no)
    go_task tasks.BadSolution h = as_found h (λ no. no)
    go_task tasks.UnknownNode h = as_found h (λ no. no)
    go_task tasks.TooLarge h = as_found h (λ no. no)
    go_task tasks.Controllable h = as_found h (λ no. no)
    go_task tasks.Unjudged h = as_found h (λ no. no)

    go : (found : Refusal) → Refuses found → IsOwnRefusal Refuses (unjudged_for_form found)
    go (Text fault) h = as_found h (λ no. no)
    go (Game fault) h = as_found h (λ no. no)
    go (Circuit fault) h = as_found h (λ no. no)
    go (Automaton fault) h = as_found h (λ no. no)
    go (Task fault) h = go_task fault h
    go Memory h = as_found h (λ no. no)
    go Io h = as_found h (λ no. no)

-- and a text that it wrote
own_text : (Refuses : Refusal → Type 0) (found : Refusal) → or_memory Refuses found → IsMemory (unread_for_size found) ⊎ IsOwnTextRefusal Refuses (unread_for_size found)
own_text Refuses found h = go found h
  where
    go_text : (fault : TextFault) → Refuses (Text fault) → IsOwnTextRefusal Refuses (unread_for_size (Text fault))
    go_text texts.TooLong h = of_size (Text texts.TooLong) h refl refl
    go_text (texts.Lex at) h = not_of_size (Text (texts.Lex at)) h (λ e. absurd (let same : texts.Lex at ≡ texts.TooLong = e in cc)) refl
    go_text (texts.Number at) h = not_of_size (Text (texts.Number at)) h (λ e. absurd (let same : texts.Number at ≡ texts.TooLong = e in cc)) refl
    go_text (texts.Syntax at) h = not_of_size (Text (texts.Syntax at)) h (λ e. absurd (let same : texts.Syntax at ≡ texts.TooLong = e in cc)) refl

    go_automaton : (fault : AutomatonFault) → Refuses (Automaton fault) → IsOwnTextRefusal Refuses (unread_for_size (Automaton fault))
    go_automaton automata.Expansion h = of_size (Automaton automata.Expansion) h refl refl
    go_automaton automata.Version h = not_of_size (Automaton automata.Version) h (λ e. absurd (let same : automata.Version ≡ automata.Expansion = e in cc)) refl
    go_automaton automata.RepeatedHeader h = not_of_size (Automaton automata.RepeatedHeader) h (λ e. absurd (let same : automata.RepeatedHeader ≡ automata.Expansion = e in cc)) refl
    go_automaton automata.MissingAcceptance h = not_of_size (Automaton automata.MissingAcceptance) h (λ e. absurd (let same : automata.MissingAcceptance ≡ automata.Expansion = e in cc)) refl
    go_automaton automata.UnknownHeader h = not_of_size (Automaton automata.UnknownHeader) h (λ e. absurd (let same : automata.UnknownHeader ≡ automata.Expansion = e in cc)) refl
    go_automaton automata.StateRange h = not_of_size (Automaton automata.StateRange) h (λ e. absurd (let same : automata.StateRange ≡ automata.Expansion = e in cc)) refl
    go_automaton automata.SetRange h = not_of_size (Automaton automata.SetRange) h (λ e. absurd (let same : automata.SetRange ≡ automata.Expansion = e in cc)) refl
    go_automaton automata.Proposition h = not_of_size (Automaton automata.Proposition) h (λ e. absurd (let same : automata.Proposition ≡ automata.Expansion = e in cc)) refl
    go_automaton automata.Alias h = not_of_size (Automaton automata.Alias) h (λ e. absurd (let same : automata.Alias ≡ automata.Expansion = e in cc)) refl
    go_automaton automata.StateTwice h = not_of_size (Automaton automata.StateTwice) h (λ e. absurd (let same : automata.StateTwice ≡ automata.Expansion = e in cc)) refl
    go_automaton automata.MixedLabels h = not_of_size (Automaton automata.MixedLabels) h (λ e. absurd (let same : automata.MixedLabels ≡ automata.Expansion = e in cc)) refl
    go_automaton automata.ImplicitCount h = not_of_size (Automaton automata.ImplicitCount) h (λ e. absurd (let same : automata.ImplicitCount ≡ automata.Expansion = e in cc)) refl
    go_automaton automata.AcceptanceAtom h = not_of_size (Automaton automata.AcceptanceAtom) h (λ e. absurd (let same : automata.AcceptanceAtom ≡ automata.Expansion = e in cc)) refl
    go_automaton automata.TooDeep h = not_of_size (Automaton automata.TooDeep) h (λ e. absurd (let same : automata.TooDeep ≡ automata.Expansion = e in cc)) refl

    go : (found : Refusal) → or_memory Refuses found → IsMemory (unread_for_size found) ⊎ IsOwnTextRefusal Refuses (unread_for_size found)
    go (Text fault) h = inr (go_text fault h)
    go (Game fault) h = inr (not_of_size (Game fault) h (λ no. no) refl)
    go (Circuit fault) h = inr (not_of_size (Circuit fault) h (λ no. no) refl)
    go (Automaton fault) h = inr (go_automaton fault h)
    go (Task fault) h = inr (not_of_size (Task fault) h (λ no. no) refl)
    go Memory h = inl tt
    go Io h = inr (not_of_size Io h (λ no. no) refl)

module _ (formula : NumberedFormula) (outs : List (List ℕ)) where
  -- it is not decided who wins what is proposed
  pub realize_refuses : (a : Description) → IsCandidate formula.table.names a → (numbers : List ℕ) → numbers ≡ output_numbers a outs
      → (found : Refusal) → IsRealizabilityRefusal a numbers most_lifts found → (refusal : Refusal) → refusal ≡ unjudged_for_form found → IsNotWon formula outs refusal
  realize_refuses a form numbers same found h refusal is =
      not_realized a form (own_refusal (IsRealizabilityRefusal a (output_numbers a outs) most_lifts) found
      (subst (λ (ns : List ℕ). IsRealizabilityRefusal a ns most_lifts found) same h) refusal is)

  -- the winner's text is not read
  pub text_refuses : (exit : Exit) (text given : List ℕ) → IsProposedWinner formula outs exit text → given ≡ text → (found : Refusal) → or_memory (IsAutomatonRefusal given) found
      → (refusal : Refusal) → refusal ≡ unread_for_size found → IsNotWon formula outs refusal
  text_refuses exit text given proposed same found h refusal is =
      subst (IsNotWon formula outs) (sym is)
      (elim (own_text (IsAutomatonRefusal text) found (subst (λ (bytes : List ℕ). or_memory (IsAutomatonRefusal bytes) found) same h)) [
        | inl memory ↦ no_memory memory
        | inr own ↦ not_read exit text proposed own
      ])

  -- the game of the automaton is refused
  pub game_refuses : (a : Description) → IsAutomatonOfFormula formula a → (numbers : List ℕ) → numbers ≡ output_numbers a outs
      → (found : Refusal) → IsRealizabilityGameRefusal a numbers found → (refusal : Refusal) → refusal ≡ unjudged_for_form found → IsNotGamed formula outs refusal
  game_refuses a right numbers same found h refusal is =
      not_made a right (own_refusal (IsRealizabilityGameRefusal a (output_numbers a outs)) found
      (subst (λ (ns : List ℕ). IsRealizabilityGameRefusal a ns found) same h) refusal is)

module _ (outs : List (List ℕ)) (a : Description) where
  -- its item says otherwise, or memory is wanting
  abbrev pub IsOwnItemRefused : Refusal → Type 0
  IsOwnItemRefused refusal = IsMemory refusal ⊎ (AreNotOutputs outs a × (refusal ≡ Task tasks.Unjudged))

  pub own_item : (refused : Refused) → AreOutputsRefused outs a refused → (refusal : Refusal) → refusal ≡ unread_for_size refused.refusal → IsOwnItemRefused refusal
  own_item refused (inl memory) refusal is = inl (subst IsMemory (sym (is ∙ ap (λ (r : Refused). unread_for_size r.refusal) memory)) tt)
  own_item refused (inr (why, same)) refusal is = inr (why, is ∙ ap (λ (r : Refused). unread_for_size r.refusal) same)

  pub item_unjudged : (Refuses : Refusal → Type 0) (Otherwise : Type 0) (refusal : Refusal) → IsOwnItemRefused refusal → IsUnjudged outs a Refuses Otherwise refusal
  item_unjudged Refuses Otherwise refusal (inl memory) = lacks_memory memory
  item_unjudged Refuses Otherwise refusal (inr (why, is)) = not_outputs why is
