-- What each command makes of two texts, another and that of the input: its answer, what the texts are called, and which
-- of them a refusal is about.
use Rattle.std.specs.Prelude.{◌≡◌, ◌⊎◌, Bool, true, false, List, ℕ, codes}
use Rattle.omega_cli_command.specs.declared.two_texts.TwoTexts.{TwoTexts}
use Rattle.omega_cli_command.specs.declared.two_texts.TwoTexts.TheVariants.{Accepts, AcceptsSome, Contained}
use Rattle.omega_cli_command.specs.declared.two_texts.TwoTexts.TheVariants.{ContainedStream, DrawSolution}
use Rattle.omega_cli_command.specs.declared.two_texts.TwoTexts.TheVariants.{DrawWalk, Equal, Join, Meet}
use Rattle.omega_cli_command.specs.declared.two_texts.TwoTexts.TheVariants.{Verify, VerifyController}
use Rattle.omega_cli_command.specs.declared.two_texts.TwoTexts.TheVariants.{VerifyCounterStrategy}
use Rattle.omega_cli_command.specs.declared.two_texts.TwoTexts.TheVariants.{VerifyLasso, VerifyNamed}
use Rattle.omega_cli_command.specs.declared.two_texts.TwoTexts.TheVariants.{VerifyWinners}
use Rattle.omega_io.specs.declared.exit.Exit.{Exit}
use Rattle.omega_io.specs.declared.exit.Exit.TheVariants.{Done}
use Rattle.omega_io.specs.declared.refused.Which.{Which}
use Rattle.omega_io.specs.declared.refused.Which.TheVariants.{File, Input}
use Rattle.omega_io.specs.declared.refused.Refused.{Refused}
use Rattle.omega_io.specs.Refused.{IsRefusedOf}
use Rattle.omega_aiger.specs.Beginnings.{begins_as_circuit}
use Rattle.omega_answers_automaton.specs.Join.{IsJoinAnswer, IsJoinRefused}
use Rattle.omega_answers_automaton.specs.Meet.{IsMeetAnswer, IsMeetRefused}
use Rattle.omega_answers_automaton.specs.TrimmedMeet.{IsMeetTrimmedAnswer, IsMeetTrimmedRefused}
use Rattle.omega_answers_automaton.specs.Verify.{IsLassoAnswer, IsLassoRefused}
use Rattle.omega_answers_game.specs.Draw.{IsSolutionDrawingAnswer}
use Rattle.omega_answers_game.specs.Verify.{IsJudgedGameRefusal, IsVerifyAnswer, RefusesSolution}
use Rattle.omega_answers_game.specs.Winners.{IsWinnersAnswer, IsWinnersGameRefusal, RefusesWinners}
use Rattle.omega_answers_inclusion.specs.Accepts.{IsAcceptsAnswer, IsAcceptsRefused}
use Rattle.omega_answers_inclusion.specs.AcceptsSome.{IsAcceptsSomeAnswer, IsAcceptsSomeRefused}
use Rattle.omega_answers_inclusion.specs.Contained.{IsContainedAnswer, IsContainedRefused}
use Rattle.omega_answers_inclusion.specs.Equal.{IsEqualAnswer, IsEqualRefused}
use Rattle.omega_answers_stream_questions.specs.Contained as stream
use Rattle.omega_answers_synth.specs.Counter.{IsCounterAnswer, IsCounterRefused}
use Rattle.omega_answers_walk.specs.Draw.{IsWalkDrawingAnswer, RefusesWalk}
use Rattle.omega_answers_walk.specs.Verify.{IsNamedVerifyAnswer}
use Rattle.omega_answers.specs.Alone.{IsAutomatonRefusal}
use Rattle.omega_run.specs.Systems.{IsSystemAnswer, IsSystemRefused}
use Rattle.omega_run.specs.Streams.{EndsEach}

-- the text of the file is refused, or else that of the stream, or else an automaton of the stream with that of the file
abbrev pub RefusesContainedStream : (other input : List ℕ) → (explain : Bool) → Refused → Type 0
RefusesContainedStream other input explain refused =
    IsRefusedOf (IsAutomatonRefusal other) (stream.IsStreamRefused other input) refused
    ⊎ stream.RefusesPair other input explain refused

-- the command is done with such an output
abbrev pub IsDoneWith : (List ℕ → Type 0) → Exit → List ℕ → Type 0
IsDoneWith IsOutput exit output = (exit ≡ Done) × IsOutput output

-- what the command makes of the other text and that of the input: how it ends and its output
abbrev pub AnswersTwoTexts : TwoTexts → (other input : List ℕ) → Exit → List ℕ → Type 0
AnswersTwoTexts (Verify from explain) other input = IsVerifyAnswer other from input explain
AnswersTwoTexts (VerifyNamed from) other input = IsNamedVerifyAnswer other from input
AnswersTwoTexts (VerifyWinners from explain) other input = IsWinnersAnswer other from input explain
AnswersTwoTexts (VerifyLasso explain) other input = IsLassoAnswer other input explain
AnswersTwoTexts (VerifyController explain) other input =
    IsSystemAnswer (begins_as_circuit input) other input explain
AnswersTwoTexts (VerifyCounterStrategy explain) other input = IsCounterAnswer other input explain
AnswersTwoTexts (Accepts explain) other input = IsAcceptsAnswer other input explain
AnswersTwoTexts (AcceptsSome explain) other input = IsAcceptsSomeAnswer other input explain
AnswersTwoTexts (Meet false) other input = IsDoneWith (IsMeetAnswer other input)
AnswersTwoTexts (Meet true) other input = IsDoneWith (IsMeetTrimmedAnswer other input)
AnswersTwoTexts Join other input = IsDoneWith (IsJoinAnswer other input)
AnswersTwoTexts (Contained explain) other input = IsContainedAnswer other input explain
AnswersTwoTexts (ContainedStream explain at_least) other input =
    EndsEach true at_least (stream.AreContainedAnswers other input explain)
AnswersTwoTexts (Equal explain) other input = IsEqualAnswer other input explain
AnswersTwoTexts (DrawSolution from depth legend) other input =
    IsDoneWith (IsSolutionDrawingAnswer input other from depth legend)
AnswersTwoTexts (DrawWalk from depth legend) other input =
    IsDoneWith (IsWalkDrawingAnswer input other from depth legend)

-- what each of the two texts is called
abbrev pub name_of : TwoTexts → Which → List ℕ
name_of (Verify from explain) File = codes "game"
name_of (Verify from explain) Input = codes "solution"
name_of (VerifyNamed from) File = codes "game"
name_of (VerifyNamed from) Input = codes "solution"
name_of (VerifyWinners from explain) File = codes "game"
name_of (VerifyWinners from explain) Input = codes "solution"
name_of (VerifyLasso explain) File = codes "automaton"
name_of (VerifyLasso explain) Input = codes "lasso"
name_of (VerifyController explain) File = codes "specification"
name_of (VerifyController explain) Input = codes "controller"
name_of (VerifyCounterStrategy explain) File = codes "specification"
name_of (VerifyCounterStrategy explain) Input = codes "counter-strategy"
name_of (Accepts explain) File = codes "word"
name_of (Accepts explain) Input = codes "automaton"
name_of (AcceptsSome explain) File = codes "word"
name_of (AcceptsSome explain) Input = codes "automaton"
name_of (Meet trim) File = codes "other automaton"
name_of (Meet trim) Input = codes "automaton"
name_of Join File = codes "other automaton"
name_of Join Input = codes "automaton"
name_of (Contained explain) File = codes "other automaton"
name_of (Contained explain) Input = codes "automaton"
name_of (ContainedStream explain at_least) File = codes "other automaton"
name_of (ContainedStream explain at_least) Input = codes "automaton"
name_of (Equal explain) File = codes "other automaton"
name_of (Equal explain) Input = codes "automaton"
name_of (DrawSolution from depth legend) File = codes "solution"
name_of (DrawSolution from depth legend) Input = codes "game"
name_of (DrawWalk from depth legend) File = codes "walk"
name_of (DrawWalk from depth legend) Input = codes "game"

-- why the two texts are refused, and which of them that is about
abbrev pub RefusesTwoTexts : TwoTexts → (other input : List ℕ) → Refused → Type 0
RefusesTwoTexts (Verify from explain) other input =
    IsRefusedOf (IsJudgedGameRefusal other from) (RefusesSolution other from input)
RefusesTwoTexts (VerifyNamed from) other input =
    IsRefusedOf (IsJudgedGameRefusal other from) (RefusesSolution other from input)
RefusesTwoTexts (VerifyWinners from explain) other input =
    IsRefusedOf (IsWinnersGameRefusal other from input) (RefusesWinners other from input)
RefusesTwoTexts (VerifyLasso explain) other input = IsLassoRefused other input
RefusesTwoTexts (VerifyController explain) other input =
    IsSystemRefused (begins_as_circuit input) other input
RefusesTwoTexts (VerifyCounterStrategy explain) other input = IsCounterRefused other input
RefusesTwoTexts (Accepts explain) other input = IsAcceptsRefused other input
RefusesTwoTexts (AcceptsSome explain) other input = IsAcceptsSomeRefused other input
RefusesTwoTexts (Meet false) other input = IsMeetRefused other input
RefusesTwoTexts (Meet true) other input = IsMeetTrimmedRefused other input
RefusesTwoTexts Join other input = IsJoinRefused other input
RefusesTwoTexts (Contained explain) other input = IsContainedRefused other input
RefusesTwoTexts (ContainedStream explain at_least) other input =
    RefusesContainedStream other input explain
RefusesTwoTexts (Equal explain) other input = IsEqualRefused other input
RefusesTwoTexts (DrawSolution from depth legend) other input =
    IsRefusedOf (RefusesSolution input from other) (IsJudgedGameRefusal input from)
RefusesTwoTexts (DrawWalk from depth legend) other input =
    IsRefusedOf (RefusesWalk input from other) (IsJudgedGameRefusal input from)
