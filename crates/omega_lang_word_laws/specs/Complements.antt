-- A deterministic automaton and its complement partition the words: each word is accepted by exactly one of them (HOA
-- v1, acceptance).
use Rattle.std.specs.Prelude.{◌≡◌, ◌⊎◌, ℕ, Bool, Some}
use Rattle.omega_text.specs.declared.refusal.automaton.AutomatonFault.{AutomatonFault}
use Rattle.omega_text.specs.declared.refusal.automaton.AutomatonFault.TheVariants.{Expansion, TooDeep}
use Rattle.omega_hoa_automaton.specs.Automaton.{Description, IsAutomaton}
use Rattle.omega_hoa_automaton.specs.Faults.{automaton_fault_of}
use Rattle.omega_lang_runs.specs.Words.{IsAccepted}
use Rattle.omega_hoa_syntax.specs.declared.raw_automaton.RawAutomaton.{RawAutomaton}
use Rattle.omega_lang_complement.specs.Complement.{IsComplement}
use Rattle.omega_hoa_edges.specs.Determinism.{IsDeterministic}
use Rattle.omega_lang_complement.specs.Written.{IsWrittenComplement}
use Rattle.omega_text.specs.Omniscience.{LimitedPrincipleOfOmniscience}
use Rattle.omega_text.specs.NamedWords.{NamedWord}
use Rattle.omega_lang_word_laws.specs.NamedWords.{AcceptsNamed, IsPeriodicFor}

-- no word is accepted by a deterministic automaton and by its complement
abbrev pub ComplementsAreApart : Type 0
ComplementsAreApart =
    (a complement : Description) (word : ℕ → ℕ → Bool) → IsAutomaton a → IsDeterministic a
    → IsComplement a complement → IsAccepted a word → IsAccepted complement word → ⊥

-- by the limited principle of omniscience each word is accepted by a deterministic automaton or by its
-- complement
abbrev pub ComplementsCover : Type 0
ComplementsCover = LimitedPrincipleOfOmniscience
    → (a complement : Description) (word : ℕ → ℕ → Bool) → IsAutomaton a → IsDeterministic a
    → IsComplement a complement → IsAccepted a word ⊎ IsAccepted complement word

-- an automaton and another part a word over names: they do not both accept it, and one of them does, which for a word
-- of which the first sees an ultimately periodic part needs no premise
pub record IsParted (a complement : Description) (word : NamedWord) : Type 0 where
  pub apart : AcceptsNamed a word → ¬ AcceptsNamed complement word
  pub periodic : IsPeriodicFor a word → AcceptsNamed a word ⊎ AcceptsNamed complement word
  pub all : LimitedPrincipleOfOmniscience → AcceptsNamed a word ⊎ AcceptsNamed complement word

-- so do a deterministic automaton and its complement
abbrev pub ComplementsPartByName : Type 0
ComplementsPartByName = (a complement : Description) (word : NamedWord) → IsAutomaton a
    → IsDeterministic a → IsComplement a complement → IsParted a complement word

-- the written complement of an automaton within the limits has no other fault than `TooDeep` and `Expansion`
abbrev pub ComplementsAreWritable : Type 0
ComplementsAreWritable = (a : Description) (raw : RawAutomaton) (fault : AutomatonFault)
    → IsAutomaton a → IsDeterministic a → IsWrittenComplement a raw
    → automaton_fault_of raw ≡ Some fault → (fault ≡ TooDeep) ⊎ (fault ≡ Expansion)

-- an automaton has at most one complement
abbrev pub ComplementsAreOne : Type 0
ComplementsAreOne =
    (a one other : Description) → IsComplement a one → IsComplement a other → one ≡ other
