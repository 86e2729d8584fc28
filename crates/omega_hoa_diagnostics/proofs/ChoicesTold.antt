-- The line for a text is about the refusal of its complement: there is one first state of which two edges can be taken
-- together.
use Rattle.std.proofs.Common.{◌≡◌, ℕ, ◌<◌, ◌≤◌, ◌⊎◌, inl, inr, List, refl, sym, subst, arith}
use Rattle.std.proofs.lemmas.Bool.{cases_lt}
use Rattle.std.proofs.lemmas.Option.{slice_get_within}
use Rattle.omega_text.specs.declared.refusal.task.TaskFault.{TaskFault}
use Rattle.omega_text.specs.declared.refusal.task.TaskFault.TheVariants.{NotDeterministic, TooLarge, TooManyPropositions}
use Rattle.omega_hoa_label.specs.Label.{LabelTree, conjunction}
use Rattle.omega_hoa_automaton.specs.Automaton.{Description}
use Rattle.omega_hoa_edges.specs.AutomatonLabels.{labels_at}
use Rattle.omega_hoa_edges.specs.Letters.{HasClash}
use Rattle.omega_lang_complement.specs.Refusing.{IsComplementFault, IsFirstFault}
use Rattle.omega_hoa_edges.specs.Refusing.{IsFirstClash, IsUndecidedFault}
use Rattle.omega_hoa_diagnostics.specs.ChoiceCauses.{HasNoChoiceToTell, IsChoiceLine, TellsChoice}
use Rattle.omega_hoa_diagnostics.specs.Choices.{AreAllPassedOver, MayBeUndecided}
use Rattle.omega_hoa_diagnostics.specs.ChoiceLaws.{ChoicesAreTold, IsUndecidedUpTo, TellsRefusal, TellsState}

-- if two edges can be taken together and all such are passed over, then that of some is undecided
undecided_of : (labels : List LabelTree) → HasClash labels → AreAllPassedOver labels → (fault : TaskFault) × IsUndecidedFault labels fault
undecided_of labels (one, (other, pair, letter)) passed =
    go (passed pair.first pair.second one other (record { in_order = pair.in_order; first_is = pair.first_is; second_is = pair.second_is }) letter)
  where
    go : MayBeUndecided (conjunction one other) → (fault : TaskFault) × IsUndecidedFault labels fault
    go (inl unfit) = (TooLarge, inr (refl, inr (conjunction one other, (one, (other, pair, refl)), unfit)))
    go (inr hard) = (TooManyPropositions, inl (refl, (conjunction one other, (one, (other, pair, refl)), hard)))

module _ (a : Description) (state : ℕ) (here : IsFirstClash a state) where
  same : (other : ℕ) → IsFirstClash a other → other ≡ state
  same other there = go (cases_lt other state) (cases_lt state other)
    where
      go : (other < state) ⊎ (state ≤ other) → (state < other) ⊎ (other ≤ state) → other ≡ state
      go (inl less) more = absurd (here.apart other less there.clash)
      go (inr past) (inl less) = absurd (there.apart state less here.clash)
      go (inr past) (inr up_to) = omega arith

  tells : (line : List ℕ) → TellsChoice a line → TellsState a state line
  tells line told =
      subst (λ (n : ℕ). TellsState a n line) (same told.state told.clash)
      (record { first = told.first; second = told.second; choice = told.choice; is = told.is })

  undecided : HasNoChoiceToTell a → IsUndecidedUpTo a state
  undecided (inl apart) = absurd (apart state here.below here.clash)
  undecided (inr (inl (fault, first))) = go (cases_lt state first.number)
    where
      go : (state < first.number) ⊎ (first.number ≤ state) → IsUndecidedUpTo a state
      go (inl less) = absurd (first.apart state less here.clash)
      go (inr up_to) = record { number = first.number; up_to = up_to; fault = fault; undecided = first.undecided }
  undecided (inr (inr first)) =
      let is = undecided_of (labels_at a first.state) first.clash.clash first.passed in
      record { number = first.state; up_to = omega (arith, same first.state first.clash); fault = is.0; undecided = is.1 }

clash_of : (a : Description) (state : ℕ) → IsFirstFault a (NotDeterministic state) → IsFirstClash a state
clash_of a state (number, below, apart, fitting, fault) =
    subst (IsFirstClash a) (sym fault.0) (record { below = below; apart = apart; clash = fault.1 })

refusal_told : (a : Description) (state : ℕ) (line : List ℕ) → IsComplementFault a (NotDeterministic state) → IsChoiceLine a line → TellsRefusal a state line
refusal_told a state line fault (inl starts) = inl starts
refusal_told a state line (inl (limits, second)) (inr (few, told)) = absurd (omega (arith, few, slice_get_within a.starts 1 second.0 second.1))
refusal_told a state line (inr (has, first)) (inr (few, inl told)) = inr (few, inl (tells a state (clash_of a state first) line told))
refusal_told a state line (inr (has, first)) (inr (few, inr (empty, none))) = inr (few, inr (empty, undecided a state (clash_of a state first) none))

-- the line is about the refusal
pub choices_told : ChoicesAreTold
choices_told text line a state is refused cause = refusal_told a state line refused (cause.automaton a is)
