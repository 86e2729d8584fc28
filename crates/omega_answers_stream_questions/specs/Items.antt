-- What is answered for an item of a stream: the answer to its automaton, or what an aborted segment is answered.
use Rattle.std.specs.Prelude.{◌≡◌, ℕ, Bool, false, true, [], codes}
use Rattle.omega_text.specs.declared.refusal.Refusal.{Refusal}
use Rattle.omega_hoa_automaton.specs.Automaton.{Description}
use Rattle.omega_hoa.specs.declared.item.Item.{Item}
use Rattle.omega_hoa.specs.declared.item.Item.TheVariants.{Aborted, Automaton}
use Rattle.omega_io.specs.declared.exit.Exit.{Exit}
use Rattle.omega_io.specs.declared.exit.Exit.TheVariants.{Done, No}
use Rattle.omega_answers_stream.specs.Answer.{Answer}

-- an automaton has such an answer, and an aborted segment this one
abbrev pub AnswersItem : (Description → Answer → Type 0) → Answer → ℕ → Item → Answer → Type 0
AnswersItem Answers aborted number (Automaton automaton) answer = Answers automaton answer
AnswersItem Answers aborted number Aborted answer = answer ≡ aborted

-- an automaton may be refused so, and an aborted segment is not refused
abbrev pub RefusesAutomaton : (Description → Refusal → Type 0) → Item → Refusal → Type 0
RefusesAutomaton Refuses (Automaton automaton) refusal = Refuses automaton refusal
RefusesAutomaton Refuses Aborted refusal = ⊥

-- how `contained` or `empty` ends for one automaton, if its answer is `no` or is not
abbrev pub exit_for : (no : Bool) → Exit
exit_for false = Done
exit_for true = No

-- the line `aborted`
abbrev pub aborted_line : Answer
aborted_line = record { text = codes "aborted\n"; no = false }

-- nothing is written
abbrev pub nothing_written : Answer
nothing_written = record { text = []; no = false }
