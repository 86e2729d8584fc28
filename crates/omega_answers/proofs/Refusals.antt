-- Refusals and want of memory, and why a text of an automaton is refused.
use Rattle.std.proofs.Common.{inl, inr, ℕ, List}
use Rattle.omega_text.specs.Cases.{or_memory}
use Rattle.omega_text.specs.declared.refusal.Refusal.{Refusal}
use Rattle.omega_text.specs.declared.refusal.Refusal.TheVariants.{Automaton, Circuit, Game, Io, Memory, Task, Text}
use Rattle.omega_text.specs.declared.refusal.task.TaskFault.TheVariants.{Budget}
use Rattle.omega_hoa.specs.Alone.{IsAutomatonRefusal}

-- what refuses refuses so, or memory does
pub or_memory_of : (own : Refusal → Type 0) → (refusal : Refusal) → own refusal → or_memory own refusal
or_memory_of own (Text fault) is = is
or_memory_of own (Game fault) is = is
or_memory_of own (Circuit fault) is = is
or_memory_of own (Automaton fault) is = is
or_memory_of own (Task fault) is = is
or_memory_of own Memory is = tt
or_memory_of own Io is = is

-- another reason for the same refusal
pub memory_or : (own other : Refusal → Type 0) → ((refusal : Refusal) → own refusal → other refusal) → (refusal : Refusal)
    → or_memory own refusal → or_memory other refusal
memory_or own other then (Text fault) is = then (Text fault) is
memory_or own other then (Game fault) is = then (Game fault) is
memory_or own other then (Circuit fault) is = then (Circuit fault) is
memory_or own other then (Automaton fault) is = then (Automaton fault) is
memory_or own other then (Task fault) is = then (Task fault) is
memory_or own other then Memory is = is
memory_or own other then Io is = then Io is

-- no text of an automaton is refused for a failed read
pub text_is_read : (text : List ℕ) → ¬ IsAutomatonRefusal text Io
text_is_read text (inl (e, long)) = cc
text_is_read text (inr (short, inl (fault, e, is))) = cc
text_is_read text (inr (short, inr (lexemes, cut, inl (at, e, none)))) = cc
text_is_read text (inr (short, inr (lexemes, cut, inr segment))) = elim segment.refused [
  | inl (fault, first) ↦ fault
  | inr (raw, (next, more, rest, e)) ↦ cc
]

-- nor for the budget
pub text_spares : (text : List ℕ) → ¬ IsAutomatonRefusal text (Task Budget)
text_spares text (inl (e, long)) = cc
text_spares text (inr (short, inl (fault, e, is))) = cc
text_spares text (inr (short, inr (lexemes, cut, inl (at, e, none)))) = cc
text_spares text (inr (short, inr (lexemes, cut, inr segment))) = elim segment.refused [
  | inl (fault, first) ↦ fault
  | inr (raw, (next, more, rest, e)) ↦ cc
]
