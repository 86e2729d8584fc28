-- The answer of `equal` for two texts of deterministic automata, that of a file and that of the input: whether both
-- accept the same words, and if not, which of the two accepts a word that the other does not.
use Rattle.std.specs.Prelude.{◌⊎◌, ◌++◌, Bool, List, ℕ, codes}
use Rattle.omega_hoa_automaton.specs.Automaton.{Description}
use Rattle.omega_hoa_edges.specs.Determinism.{IsDeterministic}
use Rattle.omega_lang_inclusion.specs.Equality.{IsEquality}
use Rattle.omega_lang_inclusion.specs.Refusing.{IsContainmentRefusal}
use Rattle.omega_lang_inclusion.specs.declared.equality.Equality.{Equality}
use Rattle.omega_lang_inclusion.specs.declared.equality.Equality.TheVariants.{Equal, OnlyFirst, OnlySecond}
use Rattle.omega_io.specs.declared.exit.Exit.{Exit}
use Rattle.omega_io.specs.declared.refused.Refused.{Refused}
use Rattle.omega_io.specs.declared.refused.Which.TheVariants.{File, Input}
use Rattle.omega_io.specs.Answer.{IsReply, no_for}
use Rattle.omega_answers.specs.Choice.{IsRefusedFor}
use Rattle.omega_answers.specs.TwoAutomata.{IsRefusalOfTexts, OfAutomata}
use Rattle.omega_io.specs.declared.answer.Answer.{Answer}
use Rattle.omega_io.specs.declared.answer.Answer.TheVariants.{Yes}
use Rattle.omega_answers_inclusion.specs.Example.{example_lines}

-- `yes`, or `no`, explained by a line that says which of the two accepts, and by the counterexample
abbrev pub equality_answer : (explain : Bool) → Equality → Answer
equality_answer explain Equal = Yes
equality_answer explain (OnlyFirst example) =
    no_for explain (codes "accepted by input\n" ++ example_lines example)
equality_answer explain (OnlySecond example) =
    no_for explain (codes "accepted by file\n" ++ example_lines example)

-- what is written of two deterministic automata is right: `yes` if both accept the same words, and else `no` with a
-- counterexample
pub record IsEqualityVerdict (first second : Description) (explain : Bool) (exit : Exit)
    (output : List ℕ) : Type 0 where
  pub first_deterministic : IsDeterministic first
  pub second_deterministic : IsDeterministic second
  pub answer : Equality
  pub right : IsEquality first second answer
  pub reply : IsReply (equality_answer explain answer) exit output

-- the answer of `equal`: both texts are those of automata, and what is written of the two is right
abbrev pub IsEqualAnswer : (file input : List ℕ) (explain : Bool) → Exit → List ℕ → Type 0
IsEqualAnswer file input explain exit output =
    OfAutomata (λ second first. IsEqualityVerdict first second explain exit output) file input

-- a refusal of containment of `first` in `second`, which for a choice is about the file, or of `second` in `first`,
-- which for a choice is about the input
abbrev pub IsEqualityRefused : (first second : Description) → Refused → Type 0
IsEqualityRefused first second refused =
    IsRefusedFor File (IsContainmentRefusal first second) refused
    ⊎ IsRefusedFor Input (IsContainmentRefusal second first) refused

-- the refusal of `equal`: that of one of the texts, or else that of containment the one way or the other
abbrev pub IsEqualRefused : (file input : List ℕ) → Refused → Type 0
IsEqualRefused = IsRefusalOfTexts (λ second first. IsEqualityRefused first second)
