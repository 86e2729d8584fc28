-- A refusal of membership for a choice is one where a letter leaves something open.
use Rattle.std.proofs.Common.{◌≡◌, inl, inr, ℕ, List, refl, subst}
use Rattle.omega_text.specs.declared.refusal.Refusal.{Refusal}
use Rattle.omega_text.specs.declared.refusal.Refusal.TheVariants.{Memory, Task}
use Rattle.omega_text.specs.declared.refusal.task.TaskFault.TheVariants.{NotDeterministic, TooLarge, TooManyPropositions}
use Rattle.omega_hoa_automaton.specs.Automaton.{Description}
use Rattle.omega_hoa_edges.specs.Fitting.{IsLarge, IsUnjudged}
use Rattle.omega_hoa_label.specs.Label.{LabelTree}
use Rattle.omega_lang_lasso_word.specs.declared.symbolic_word.SymbolicWord.{SymbolicWord}
use Rattle.omega_lang_inclusion.specs.OneWord.{HasOpenLetter}
use Rattle.omega_lang_inclusion.specs.Opening.{HasUnjudgedName}
use Rattle.omega_lang_inclusion.specs.WordRefusing.{HasChoice, IsMembershipRefusal, IsOneWordRefusal, has_open_letter, no_memory, not_contained, not_judged, not_met, not_one, oversized, undecided_letter}

-- the refusal for a choice in a state
abbrev choice_at : ℕ → Refusal
choice_at state = Task (NotDeterministic state)

-- it is no refusal for a size
no_large : (large : Type 0) (state : ℕ) → IsLarge large (choice_at state) → ⊥
no_large large state is = let no : NotDeterministic state ≡ TooLarge = is.0 in cc

-- nor one for a letter that is not judged
no_label : (label : LabelTree) (state : ℕ) → IsUnjudged label (choice_at state) → ⊥
no_label label state (inl is) = let no : NotDeterministic state ≡ TooLarge = is.0 in cc
no_label label state (inr is) = let no : NotDeterministic state ≡ TooManyPropositions = is.0 in cc

no_name : (one : Description) (names : List (List ℕ)) (state : ℕ) → HasUnjudgedName one names (choice_at state) → ⊥
no_name one names state is = no_label _ state is.unjudged

-- nor one for the one word
no_word : (one a : Description) (state : ℕ) → IsOneWordRefusal one a (choice_at state) → ⊥
no_word one a state (not_met is) = is
no_word one a state (undecided_letter hard e) = cc

same_state : (state other : ℕ) → choice_at state ≡ choice_at other → other ≡ state
same_state state other e = cc

pub open_choice : (word : SymbolicWord) (a : Description) (state : ℕ) → IsMembershipRefusal word a (choice_at state) → HasChoice a state × HasOpenLetter word a
open_choice word a state (oversized is) = absurd (no_large _ state is)
open_choice word a state (not_contained one means is none searched) = absurd (none state refl)
open_choice word a state (no_memory is) = absurd (let no : choice_at state ≡ Memory = is in cc)
open_choice word a state (not_judged one other means choice is) = absurd (no_name one a.propositions state is)
open_choice word a state (has_open_letter other choice letter is) = (subst (HasChoice a) (same_state state other is) choice, letter)
open_choice word a state (not_one one other means choice own is) = absurd (no_word one a state is)
