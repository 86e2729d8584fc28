-- What is written of a judgement on a controller.
use Rattle.std.specs.Prelude.{Bool, List, ℕ, ◌++◌, codes, decimal}
use Rattle.omega_hoa_automaton.specs.Automaton.{Description}
use Rattle.omega_answers_inclusion.specs.Example.{example_lines}
use Rattle.omega_synth_check.specs.declared.judgement.Judgement.{Judgement}
use Rattle.omega_synth_check.specs.declared.judgement.Judgement.TheVariants.{Controls, NoStart, NotAccepted}
use Rattle.omega_synth_check.specs.declared.judgement.Judgement.TheVariants.{Unanswered}
use Rattle.omega_synth_check.specs.declared.judgement.Lack.{Lack}
use Rattle.omega_io.specs.Answer.{no_for}
use Rattle.omega_io.specs.declared.answer.Answer.{Answer}
use Rattle.omega_io.specs.declared.answer.Answer.TheVariants.{Yes}
use Rattle.omega_lang_lasso_text.specs.Written.{numbers_text}
use Rattle.omega_answers_synth.specs.Letter.{letter_text}

-- the lines of a state that does not answer a letter: its number, the letter, and the edges that lead there from a
-- start
abbrev pub lack_lines : (controller : Description) → (controlled : List ℕ) → Lack → List ℕ
lack_lines controller controlled lack =
    codes "state " ++ (decimal lack.state
    ++ (codes "\nletter " ++ (letter_text controller controlled lack.letter
    ++ (codes "\nstem" ++ (numbers_text lack.stem ++ codes "\n")))))

-- `yes`, or `no`, explained by what the automaton lacks
abbrev pub judgement_answer : (explain : Bool) → (controller : Description)
    → (controlled : List ℕ) → Judgement → Answer
judgement_answer explain controller controlled Controls = Yes
judgement_answer explain controller controlled NoStart = no_for explain (codes "no start\n")
judgement_answer explain controller controlled (Unanswered lack) =
    no_for explain (lack_lines controller controlled lack)
judgement_answer explain controller controlled (NotAccepted example) =
    no_for explain (example_lines example)
