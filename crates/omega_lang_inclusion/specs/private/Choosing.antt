-- Refusals for a choice, and words that automata accept.
use Rattle.std.specs.Prelude.{ℕ, Bool, true, false, Option, None, Some}
use Rattle.omega_hoa_automaton.specs.Automaton.{Description}
use Rattle.omega_lang_intersection.specs.Intersection.{AcceptBoth}
use Rattle.omega_lang_intersection.specs.declared.answer.Intersection.{Intersection}
use Rattle.omega_lang_intersection.specs.declared.answer.Intersection.TheVariants.{Common, Empty}
use Rattle.omega_text.specs.declared.refusal.Refusal.{Refusal}
use Rattle.omega_text.specs.declared.refusal.Refusal.TheVariants.{Task}
use Rattle.omega_text.specs.declared.refusal.task.TaskFault.TheVariants.{NotDeterministic}
use Rattle.omega_text.specs.NamedWords.{NamedWord}

-- the state that a refusal for a choice names
abbrev pub choice_in : Refusal → Option ℕ
choice_in (Task (NotDeterministic state)) = Some state
choice_in refusal = None

-- both automata accept some word
abbrev pub AcceptCommon : Description → Description → Type 0
AcceptCommon one a = (named : NamedWord) × AcceptBoth one a named

-- whether an answer is words that both automata accept
abbrev pub is_common : Intersection → Bool
is_common Empty = false
is_common (Common example) = true
