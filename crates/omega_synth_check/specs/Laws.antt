-- Laws of judgements: what they say is exact, a controller that is made of kept edges of the specification is judged to
-- be one, and by each controller for a specification the system realizes it.
use Rattle.std.specs.Prelude.{◌≡◌, ◌↔◌, ℕ, ◌<◌, Bool, List, Contains, length}
use Rattle.omega_hoa_automaton.specs.Automaton.{Description, IsAutomaton}
use Rattle.omega_lang_runs.specs.Lasso.{IsStart, IsStep}
use Rattle.omega_lang_runs.specs.Words.{CanBeTaken}
use Rattle.omega_synth_controllers.specs.Controllers.{IsController}
use Rattle.omega_synth_controllers.specs.Strategies.{System, word_of}
use Rattle.omega_text.specs.Omniscience.{LimitedPrincipleOfOmniscience}
use Rattle.omega_text.specs.NamedWords.{NamedWord}
use Rattle.omega_lang_word_laws.specs.NamedWords.{AcceptsNamed, part_of}
use Rattle.omega_synth_check.specs.Judging.{IsControllerFor, IsJudgement, IsReached}
use Rattle.omega_synth_check.specs.Refusing.{AcceptsAll}
use Rattle.omega_synth_check.specs.declared.judgement.Judgement.{Judgement}
use Rattle.omega_synth_check.specs.declared.judgement.Judgement.TheVariants.{Controls}

-- by the limited principle of omniscience, the judgement is `Controls` exactly for a controller
abbrev pub JudgementsAreExact : Type 0
JudgementsAreExact =
    LimitedPrincipleOfOmniscience
    → (specification controller : Description) (controlled : List ℕ) (judgement : Judgement)
    → IsJudgement specification controller controlled judgement
    → (judgement ≡ Controls) ↔ IsControllerFor specification controller controlled

-- an edge of a part stands for a kept edge that leads between the states there and can be taken at the same letters
pub record IsKeptEdge (a : Description) (kept : List ℕ) (part : Description)
    (own from number to : ℕ) : Type 0 where
  pub step : IsStep a from number to
  pub is_kept : Contains kept number
  pub taken : (letter : ℕ → Bool) → CanBeTaken part own letter ↔ CanBeTaken a number letter

-- a part of an automaton, over the same propositions: its states and edges stand for states and kept edges there, and
-- each state that it reaches has all kept edges of the state that it stands for
pub record IsKeptPart (a : Description) (kept : List ℕ) (part : Description) : Type 0 where
  pub state_in : ℕ → ℕ
  pub edge_in : ℕ → ℕ
  pub propositions : part.propositions ≡ a.propositions
  pub starts : (start : ℕ) → IsStart part start → IsStart a (state_in start)
  pub has_starts : (start : ℕ) → IsStart a start → (own : ℕ) × IsStart part own
  pub steps : (from number to : ℕ) → IsStep part from number to
      → IsKeptEdge a kept part number (state_in from) (edge_in number) (state_in to)
  pub has_steps : (from number to : ℕ) → IsReached part from
      → IsStep a (state_in from) number to → Contains kept number
      → (own : ℕ) × ((next : ℕ) × IsStep part from own next × (edge_in own ≡ number))

-- a part that keeps the edges of a controller is a controller for the whole automaton, by that principle
abbrev pub KeptPartsControl : Type 0
KeptPartsControl =
    LimitedPrincipleOfOmniscience → (a part : Description) (controlled kept : List ℕ)
    → IsController a controlled kept → IsKeptPart a kept part → IsControllerFor a part controlled

-- so it is judged to be one
abbrev pub KeptPartsAreJudgedRight : Type 0
KeptPartsAreJudgedRight = LimitedPrincipleOfOmniscience
    → (a part : Description) (controlled kept : List ℕ) (judgement : Judgement)
    → IsController a controlled kept
    → IsKeptPart a kept part → IsJudgement a part controlled judgement → judgement ≡ Controls

-- a word over names is, for the propositions of an automaton, this word over their numbers
abbrev pub IsNamedOf : Description → (ℕ → ℕ → Bool) → NamedWord → Type 0
IsNamedOf a word named =
    (i p : ℕ) → p < length a.propositions → word i p ≡ part_of a.propositions named i p

-- from a controller for a specification there is a strategy of the system by whose answers the specification accepts
-- each word, whatever letters the environment gives
abbrev pub ControllersRealizeSpecifications : Type 0
ControllersRealizeSpecifications =
    (specification controller : Description) (controlled : List ℕ) → IsAutomaton controller
    → AcceptsAll controller → IsControllerFor specification controller controlled
    → (system : System) × ((given : ℕ → ℕ → Bool) (named : NamedWord)
    → IsNamedOf controller (word_of controlled system given) named → AcceptsNamed specification named)
