-- The answer of `verify --specification --counter-strategy` for the texts of two automata, that of a file, the
-- specification, and that of the input: whether the automaton of the input is a counter-strategy for the specification.
use Rattle.std.specs.Prelude.{◌≡◌, ◌⊎◌, ◌++◌, Bool, List, ℕ, Option, None, Some, codes, decimal}
use Rattle.omega_text.specs.declared.refusal.Refusal.{Refusal}
use Rattle.omega_text.specs.declared.refusal.Refusal.TheVariants.{Memory, Task}
use Rattle.omega_text.specs.declared.refusal.task.TaskFault.TheVariants.{Controllable, NotDeterministic}
use Rattle.omega_text.specs.declared.refusal.task.TaskFault.TheVariants.{NotParity, UniversalBranch}
use Rattle.omega_hoa_automaton.specs.Automaton.{Description}
use Rattle.omega_hoa_edges.specs.Determinism.{IsDeterministic}
use Rattle.omega_answers_inclusion.specs.Example.{example_lines}
use Rattle.omega_synth_check.specs.CounterJudging.{IsCounterJudgement}
use Rattle.omega_synth_check.specs.CounterRefusing.{AreCounterJudged, IsCounterRefusal, IsUndetermined}
use Rattle.omega_synth_check.specs.declared.counter_judgement.CounterJudgement.{CounterJudgement}
use Rattle.omega_synth_check.specs.declared.counter_judgement.CounterJudgement.TheVariants.{Beats, Common}
use Rattle.omega_synth_check.specs.declared.counter_judgement.CounterJudgement.TheVariants.{NoLetter, NoStart}
use Rattle.omega_synth_check.specs.declared.counter_judgement.LetterlessPair.{LetterlessPair}
use Rattle.omega_io.specs.Answer.{IsReply, no_for}
use Rattle.omega_io.specs.Refused.{about_none}
use Rattle.omega_io.specs.declared.answer.Answer.{Answer}
use Rattle.omega_io.specs.declared.answer.Answer.TheVariants.{Yes}
use Rattle.omega_io.specs.declared.exit.Exit.{Exit}
use Rattle.omega_io.specs.declared.refused.Refused.{Refused}
use Rattle.omega_io.specs.declared.refused.Which.{Which}
use Rattle.omega_io.specs.declared.refused.Which.TheVariants.{File, Input}
use Rattle.omega_lang_lasso_text.specs.Written.{numbers_text}
use Rattle.omega_answers.specs.TwoAutomata.{IsRefusalOfTexts, OfAutomata}
use Rattle.omega_answers_synth.specs.Parting.{AreSystemNames, IsUnparted}

-- the lines of two states in which the environment has no letter: that of the counter-strategy, that of the
-- specification, and the edges of the specification that lead there from a start
abbrev pub letterless_lines : LetterlessPair → List ℕ
letterless_lines pair =
    codes "state " ++ (decimal pair.state ++ (codes "\nspecification " ++ (decimal pair.against
    ++ (codes "\nstem" ++ (numbers_text pair.stem ++ codes "\n")))))

-- `yes`, or `no`, explained by what the automaton lacks
abbrev pub counter_answer : (explain : Bool) → CounterJudgement → Answer
counter_answer explain Beats = Yes
counter_answer explain NoStart = no_for explain (codes "no start\n")
counter_answer explain (NoLetter pair) = no_for explain (letterless_lines pair)
counter_answer explain (Common example) = no_for explain (example_lines example)

-- what is written of a specification and an automaton is right: `yes` if it is a counter-strategy for the
-- specification, where the system controls the propositions that their items list, and else `no` with the reason
pub record IsCounterVerdict (specification strategy : Description) (explain : Bool) (exit : Exit)
    (output : List ℕ) : Type 0 where
  pub names : List (List ℕ)
  pub parted : AreSystemNames specification strategy names
  pub deterministic : IsDeterministic specification
  pub judged : AreCounterJudged specification strategy
  pub judgement : CounterJudgement
  pub right : IsCounterJudgement specification strategy names judgement
  pub reply : IsReply (counter_answer explain judgement) exit output

-- the answer of `verify --specification --counter-strategy`: both texts are those of automata, and what is written of
-- the two is right
abbrev pub IsCounterAnswer : (file input : List ℕ) (explain : Bool) → Exit → List ℕ → Type 0
IsCounterAnswer file input explain exit output =
    OfAutomata (λ specification strategy.
    IsCounterVerdict specification strategy explain exit output) file input

-- the text that a refusal of the judge is about: universal branching, a choice and an acceptance that is not `all` are
-- those of the counter-strategy. All others are about neither
abbrev pub counter_text : Refusal → Option Which
counter_text (Task (NotDeterministic state)) = Some Input
counter_text (Task NotParity) = Some Input
counter_text (Task UniversalBranch) = Some Input
counter_text refusal = None

-- the refusal for two automata, and the text that it is about: that of the items, then that of the specification, which
-- is to be deterministic, then that of the judge
pub data IsCounterPairRefusal (specification strategy : Description) : Option Which
    → Refusal → Type 0 where
  not_parted : (text : Which) → IsUnparted specification strategy text
      → IsCounterPairRefusal specification strategy (Some text) (Task Controllable)
  not_deterministic : (names : List (List ℕ)) (refusal : Refusal)
      → AreSystemNames specification strategy names → IsUndetermined specification refusal
      → IsCounterPairRefusal specification strategy (Some File) refusal
  not_judged : (names : List (List ℕ)) (refusal : Refusal) → AreSystemNames specification strategy names
      → IsDeterministic specification → IsCounterRefusal specification strategy names refusal
      → IsCounterPairRefusal specification strategy (counter_text refusal) refusal

-- the two automata are refused so, or memory is
abbrev pub RefusesCounter : (specification strategy : Description) → Refused → Type 0
RefusesCounter specification strategy refused = (refused ≡ about_none Memory)
    ⊎ IsCounterPairRefusal specification strategy refused.text refused.refusal

-- the refusal of `verify --specification --counter-strategy`: that of one of the texts, or else that of the two
abbrev pub IsCounterRefused : (file input : List ℕ) → Refused → Type 0
IsCounterRefused = IsRefusalOfTexts RefusesCounter
