-- What each command answers to the automata of a stream, and why it refuses it.
use Rattle.std.specs.Prelude.{◌≡◌, ◌&&◌, Bool, false, List, Result, cond, nat_lt, ℕ}
use Rattle.omega_text.specs.declared.refusal.Refusal.{Refusal}
use Rattle.omega_cli_command.specs.declared.stream.Stream.{Stream}
use Rattle.omega_cli_command.specs.declared.stream.Stream.TheVariants.{Canon, Check, Complement, Empty}
use Rattle.omega_cli_command.specs.declared.stream.Stream.TheVariants.{EmptySearch, Show, ShowJson, Trim}
use Rattle.omega_io.specs.declared.exit.Exit.{Exit}
use Rattle.omega_io.specs.declared.exit.Exit.TheVariants.{No}
use Rattle.omega_answers_stream.specs.Canon.{IsStreamCanonAnswer}
use Rattle.omega_answers_stream.specs.Check.{IsStreamCheckAnswer}
use Rattle.omega_answers_stream.specs.Show.{IsStreamShowAnswer}
use Rattle.omega_answers_stream.specs.ShowJson.{IsStreamShowJsonAnswer}
use Rattle.omega_answers_stream_questions.specs.Complement.{AreComplementAnswers, IsComplementStreamRefusal}
use Rattle.omega_answers_stream_questions.specs.Items.{exit_for}
use Rattle.omega_answers_stream_questions.specs.Empty.{AreLiftingAnswers, AreSearchAnswers}
use Rattle.omega_answers_stream_questions.specs.Empty.{IsLiftingStreamRefusal, IsSearchStreamRefusal}
use Rattle.omega_answers_stream_questions.specs.Trim.{AreTrimAnswers, IsTrimStreamRefusal}
use Rattle.omega_answers_stream.specs.Stream.{IsStreamRefusal}
use Rattle.omega_run.specs.OneText.{Concludes, Replies, lines_for}

-- how the command ends that would end so, after so many automata: as `No` if there are to be more
abbrev pub counted_exit : (at_least automata : ℕ) → Exit → Exit
counted_exit at_least automata exit = cond (nat_lt automata at_least) No exit

-- the answers to the automata of a stream, and how they end: as `No` if there are too few of them, and, if that is to
-- tell, if one of the answers is `no`
abbrev pub EndsEach : (tells : Bool) → (at_least : ℕ) → (List ℕ → (no : Bool) → (automata : ℕ) → Type 0)
    → Exit → List ℕ → Type 0
EndsEach tells at_least AreAnswers exit output = (no : Bool) × (automata : ℕ)
    × AreAnswers output no automata
    × (exit ≡ counted_exit at_least automata (exit_for (tells && no)))

-- what the command makes of the stream that the text is, with this budget: how it ends and its output, or the refusal
abbrev pub AnswersStream : Stream → ℕ → List ℕ → Result (Exit × List ℕ) Refusal → Type 0
AnswersStream Show budget text = Replies (IsStreamShowAnswer text) (IsStreamRefusal text)
AnswersStream ShowJson budget text = Replies (IsStreamShowJsonAnswer text) (IsStreamRefusal text)
AnswersStream (Check at_least) budget text =
    Concludes (EndsEach false at_least (λ output no. IsStreamCheckAnswer text output))
    (IsStreamRefusal text)
AnswersStream Canon budget text = Replies (IsStreamCanonAnswer text) (IsStreamRefusal text)
AnswersStream (Empty word names status at_least) budget text =
    Concludes (EndsEach status at_least (AreLiftingAnswers text budget (lines_for word names)))
    (IsLiftingStreamRefusal text budget (lines_for word names))
AnswersStream (EmptySearch word names status at_least) budget text =
    Concludes (EndsEach status at_least (AreSearchAnswers text (lines_for word names)))
    (IsSearchStreamRefusal text (lines_for word names))
AnswersStream (Complement at_least) budget text =
    Concludes (EndsEach false at_least (AreComplementAnswers text)) (IsComplementStreamRefusal text)
AnswersStream (Trim at_least) budget text =
    Concludes (EndsEach false at_least (AreTrimAnswers text)) (IsTrimStreamRefusal text)
