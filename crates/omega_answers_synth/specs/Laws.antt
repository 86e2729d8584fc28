-- Laws of the answers of `realize` and of `verify --specification`: who wins the automaton of a text, which texts are
-- called a controller or a counter-strategy, and what a letter says.
use Rattle.std.specs.Prelude.{◌≡◌, ◌⊎◌, ◌↔◌, ℕ, ◌<◌, Bool, true, List, Contains, None, codes, length}
use Rattle.omega_hoa_automaton.specs.Automaton.{Description, IsAutomaton}
use Rattle.omega_synth_controllers.specs.Controllable.{IsControlled, has_item}
use Rattle.omega_synth_controllers.specs.Strategies.{Beats, Environment, Realizes, System}
use Rattle.omega_synth_check.specs.CounterJudging.{IsCounterStrategyFor}
use Rattle.omega_synth_check.specs.Judging.{IsControllerFor}
use Rattle.omega_synth_check.specs.Laws.{IsKeptPart}
use Rattle.omega_synth_check.specs.Refusing.{AcceptsAll}
use Rattle.omega_synth_controllers.specs.Controllers.{IsCounterStrategy}
use Rattle.omega_hoa_edges.specs.Determinism.{IsDeterministic}
use Rattle.omega_hoa.specs.Alone.{IsAutomatonText}
use Rattle.omega_io.specs.declared.exit.Exit.{Exit}
use Rattle.omega_io.specs.declared.exit.Exit.TheVariants.{Done, No}
use Rattle.omega_text.specs.declared.refusal.Refusal.TheVariants.{Game}
use Rattle.omega_text.specs.declared.refusal.game.GameFault.{GameFault}
use Rattle.omega_lang_lasso_word.specs.Formulas.{HasTruth, formula}
use Rattle.omega_lang_lasso_word.specs.Laws.{HasStrings, by_number}
use Rattle.omega_synth_game.specs.RoundsOf.{holds_in}
use Rattle.omega_synth_text.specs.Reaching.{TellsReached}
use Rattle.omega_synth_text.specs.Winner.{winner}
use Rattle.omega_text.specs.Omniscience.{LimitedPrincipleOfOmniscience}
use Rattle.omega_io.specs.Answer.{IsYes}
use Rattle.omega_answers_synth.specs.Counter.{IsCounterAnswer}
use Rattle.omega_answers_synth.specs.Decide.{IsDecisionAnswer}
use Rattle.omega_answers_synth.specs.Game.{IsGameAnswer, IsGameRefusal}
use Rattle.omega_answers_synth.specs.Letter.{letter_text}
use Rattle.omega_answers_synth.specs.Parting.{AreControlledAlike, AreSystemNames}
use Rattle.omega_answers_synth.specs.Refusing.{IsRealizeRefusal}
use Rattle.omega_answers_synth.specs.Verify.{IsControllerAnswer}
use Rattle.omega_answers_synth.specs.Winner.{IsWinnerAnswer}

-- by the limited principle of omniscience, `yes` is written exactly if the one text is that of a controller for the
-- specification of the other
abbrev pub ControllerAnswersAreExact : Type 0
ControllerAnswersAreExact = LimitedPrincipleOfOmniscience → (file input output : List ℕ)
    (explain : Bool) (exit : Exit) (specification controller : Description)
    → (controlled : List ℕ)
    → IsControllerAnswer file input explain exit output → IsAutomatonText file specification
    → IsAutomatonText input controller → IsControlled controller controlled
    → IsYes exit output ↔ IsControllerFor specification controller controlled

-- some strategy of the system realizes the automaton
abbrev pub IsRealizedBySome : Description → List ℕ → Type 0
IsRealizedBySome a controlled = (system : System) × Realizes a controlled system

-- some strategy of the environment beats it
abbrev pub IsBeatenBySome : Description → List ℕ → Type 0
IsBeatenBySome a controlled = (environment : Environment) × Beats a controlled environment

-- the program ends with `Done` exactly if some strategy of the system realizes the automaton, and with `No` exactly if
-- some strategy of the environment beats it
pub record TellsWhoWins (a : Description) (controlled : List ℕ) (exit : Exit) : Type 0 where
  pub realized : (exit ≡ Done) ↔ IsRealizedBySome a controlled
  pub beaten : (exit ≡ No) ↔ IsBeatenBySome a controlled

-- by the limited principle of omniscience, `realizable` is written exactly if some strategy of the system realizes the
-- automaton of the text, and `unrealizable` exactly if some strategy of the environment beats it
abbrev pub RealizeAnswersAreExact : Type 0
RealizeAnswersAreExact = LimitedPrincipleOfOmniscience → (text output : List ℕ) (exit : Exit)
    (a : Description) (controlled : List ℕ)
    → IsDecisionAnswer text exit output → IsAutomatonText text a → IsControlled a controlled
    → TellsWhoWins a controlled exit
    × ((exit ≡ Done) ↔ (output ≡ codes "realizable\n"))
    × ((exit ≡ No) ↔ (output ≡ codes "unrealizable\n"))

-- by that principle, the exit of `realize --controller` says the same
abbrev pub WinnerAnswersAreExact : Type 0
WinnerAnswersAreExact = LimitedPrincipleOfOmniscience → (text output : List ℕ) (exit : Exit)
    (a : Description) (controlled : List ℕ)
    → IsWinnerAnswer text exit output → IsAutomatonText text a → IsControlled a controlled
    → TellsWhoWins a controlled exit

-- `realize` or `realize --game` is refused for the size of the game
abbrev pub IsRefusedForSize : (text : List ℕ) → GameFault → Type 0
IsRefusedForSize text fault =
    ((budget : ℕ) × IsRealizeRefusal text budget (Game fault)) ⊎ IsGameRefusal text (Game fault)

-- so nothing is written of the text, and it is refused for its size in one way
abbrev pub SizeRefusalsExcludeAnswers : Type 0
SizeRefusalsExcludeAnswers = (text : List ℕ) (fault : GameFault) → IsRefusedForSize text fault
    → ((exit : Exit) (output : List ℕ) → ¬ IsDecisionAnswer text exit output)
    × ((exit : Exit) (output : List ℕ) → ¬ IsWinnerAnswer text exit output)
    × ((output : List ℕ) → ¬ IsGameAnswer text output)
    × ((other : GameFault) → IsRefusedForSize text other → fault ≡ other)

-- no automaton is a controller for a deterministic specification that has a counter-strategy, if the item of the
-- specification says which propositions the system controls
abbrev pub ControllersForExcludeCounterStrategies : Type 0
ControllersForExcludeCounterStrategies =
    (specification controller : Description) (controlled stated kept : List ℕ)
    (letters : ℕ → ℕ → Bool) → IsAutomaton specification → IsDeterministic specification
    → IsAutomaton controller → AcceptsAll controller
    → AreControlledAlike specification controller controlled → has_item specification ≡ true
    → IsControllerFor specification controller controlled → IsControlled specification stated
    → IsCounterStrategy specification stated kept letters → ⊥

-- so, by the limited principle of omniscience, `yes` is written of no automaton for a specification of which
-- `unrealizable` is written
abbrev pub YesExcludesUnrealizable : Type 0
YesExcludesUnrealizable = LimitedPrincipleOfOmniscience
    → (file input output line : List ℕ) (explain : Bool) (exit other : Exit)
    (specification : Description) → IsControllerAnswer file input explain exit output
    → IsDecisionAnswer file other line → IsAutomatonText file specification
    → IsYes exit output → other ≡ No → ⊥

-- what is written of a counter-strategy is `yes` exactly if the automaton of the one text is one for the specification
-- of the other
abbrev pub CounterAnswersAreExact : Type 0
CounterAnswersAreExact = (file input output : List ℕ) (explain : Bool) (exit : Exit)
    (specification strategy : Description) (names : List (List ℕ))
    → IsCounterAnswer file input explain exit output → IsAutomatonText file specification
    → IsAutomatonText input strategy → AreSystemNames specification strategy names
    → IsYes exit output ↔ IsCounterStrategyFor specification strategy names

-- no automaton is a controller for a deterministic specification for which another is a counter-strategy, if the item
-- of the specification says which propositions the system controls
abbrev pub ControllersExcludeStrategies : Type 0
ControllersExcludeStrategies =
    (specification controller strategy : Description) (controlled stated : List ℕ)
    (names : List (List ℕ)) → IsAutomaton specification → IsDeterministic specification
    → IsAutomaton controller → AcceptsAll controller
    → AreControlledAlike specification controller controlled → has_item specification ≡ true
    → IsControllerFor specification controller controlled → IsControlled specification stated
    → IsAutomaton strategy → AcceptsAll strategy → AreSystemNames specification strategy names
    → IsCounterStrategyFor specification strategy names → ⊥

-- so, by the limited principle of omniscience, `yes` is not written of both for the same specification
abbrev pub YesExcludesYes : Type 0
YesExcludesYes = LimitedPrincipleOfOmniscience
    → (file input output : List ℕ) (explain : Bool) (exit : Exit)
    (other_input other_output : List ℕ) (also_explain : Bool) (other_exit : Exit)
    (specification : Description) → IsControllerAnswer file input explain exit output
    → IsCounterAnswer file other_input also_explain other_exit other_output
    → IsAutomatonText file specification → has_item specification ≡ true
    → IsYes exit output → IsYes other_exit other_output → ⊥

-- the environment gives a letter: its propositions hold as the letter says
abbrev pub GivesLetter : Description → (controlled letter : List ℕ) → (ℕ → Bool) → Type 0
GivesLetter a controlled letter held =
    (p : ℕ) → p < length a.propositions → ¬ Contains controlled p → held p ≡ holds_in letter p

-- a letter as it is written is a formula over names, if these are strings, and it is true exactly where the environment
-- gives the letter
abbrev pub LettersAreTrueWhereGiven : Type 0
LettersAreTrueWhereGiven =
    (a : Description) (controlled letter : List ℕ) (held : List ℕ → Bool) → HasStrings a
    → (value : Bool) × HasTruth held formula (letter_text a controlled letter) value
    × ((value ≡ true) ↔ GivesLetter a controlled letter (by_number a held))

-- the automaton of kept edges, without letters: what `realize --controller` writes as a controller
abbrev pub controller_of : Description → (controlled kept : List ℕ)
    → (reached : ℕ → Bool) → Description
controller_of a controlled kept reached = winner a controlled kept reached (λ state. None)

-- it is a part of its automaton: its states and edges stand for states that are reached and for kept edges
abbrev pub WrittenControllersAreParts : Type 0
WrittenControllersAreParts =
    (a : Description) (controlled kept : List ℕ) (reached : ℕ → Bool) → IsAutomaton a
    → TellsReached a kept reached → IsKeptPart a kept (controller_of a controlled kept reached)
