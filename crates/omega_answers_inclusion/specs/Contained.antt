-- The answer of `contained` for the texts of two automata, that of a file, whose automaton is deterministic, and that
-- of the input: whether each word that the automaton of the input accepts is accepted, in its part, by that of the
-- file. Propositions that have one name are the same.
use Rattle.std.specs.Prelude.{◌≡◌, Bool, false, List, ℕ}
use Rattle.omega_hoa_automaton.specs.Automaton.{Description}
use Rattle.omega_hoa_automaton.specs.Branching.{has_universal_branching}
use Rattle.omega_hoa_edges.specs.Determinism.{IsDeterministic}
use Rattle.omega_lang_inclusion.specs.Containing.{IsContainment}
use Rattle.omega_lang_inclusion.specs.Refusing.{IsContainmentRefusal}
use Rattle.omega_lang_inclusion.specs.declared.containment.Containment.{Containment}
use Rattle.omega_lang_inclusion.specs.declared.containment.Containment.TheVariants.{Contained, NotContained}
use Rattle.omega_io.specs.declared.exit.Exit.{Exit}
use Rattle.omega_io.specs.declared.refused.Refused.{Refused}
use Rattle.omega_io.specs.declared.refused.Which.TheVariants.{File}
use Rattle.omega_io.specs.Answer.{IsReply, no_for}
use Rattle.omega_answers.specs.Choice.{IsRefusedFor}
use Rattle.omega_answers.specs.TwoAutomata.{IsRefusalOfTexts, OfAutomata}
use Rattle.omega_io.specs.declared.answer.Answer.{Answer}
use Rattle.omega_io.specs.declared.answer.Answer.TheVariants.{Yes}
use Rattle.omega_answers_inclusion.specs.Example.{example_lines}

-- `yes`, or `no`, explained by the counterexample
abbrev pub containment_answer : (explain : Bool) → Containment → Answer
containment_answer explain Contained = Yes
containment_answer explain (NotContained example) = no_for explain (example_lines example)

-- what is written of two automata is right: `yes` if `other` accepts each word that `one` accepts, and else `no` with a
-- counterexample
pub record IsContainmentVerdict (one other : Description) (explain : Bool) (exit : Exit)
    (output : List ℕ) : Type 0 where
  pub plain : has_universal_branching one ≡ false
  pub deterministic : IsDeterministic other
  pub answer : Containment
  pub right : IsContainment one other answer
  pub reply : IsReply (containment_answer explain answer) exit output

-- the answer of `contained`: both texts are those of automata, and what is written of the two is right
abbrev pub IsContainedAnswer : (file input : List ℕ) (explain : Bool) → Exit → List ℕ → Type 0
IsContainedAnswer file input explain exit output =
    OfAutomata (λ second first. IsContainmentVerdict first second explain exit output) file input

-- the refusal of `contained`: that of one of the texts, or else that of containment, which for a choice is about the
-- file, and else about neither text
abbrev pub IsContainedRefused : (file input : List ℕ) → Refused → Type 0
IsContainedRefused =
    IsRefusalOfTexts (λ second first. IsRefusedFor File (IsContainmentRefusal first second))
