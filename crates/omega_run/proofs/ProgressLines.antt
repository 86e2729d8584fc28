-- What standard error took of runs is a text of progress lines.
use Rattle.std.proofs.Common.{◌≡◌, ◌++◌, ◌+◌, ◌*◌, ◌-◌, ◌^◌, ◌<◌, ◌∙◌, ℕ, zero, suc, List, [], ◌∷◌, Option, Some, None, length, take, arith, inl, inr, refl, subst, sym}
use Rattle.std.proofs.KnownBytes.{Appends-trans}
use Rattle.std.proofs.lemmas.List.{append-nil, length-append, take-append-le}
use Rattle.std.proofs.Math.Nat.{eq-or-lt_of_le}
use Rattle.std.proofs.Math.Seq.{take-append-add}
use Rattle.std.specs.Io.KnownBytes.{Appends}
use Rattle.omega_text.specs.declared.refusal.Refusal.{Refusal}
use Rattle.omega_game_values.specs.declared.player.Player.{Player}
use Rattle.omega_game_values.specs.Game.{Node}
use Rattle.omega_solve.specs.budget.Observing.{IsObserved, ReportsEach, ReportsRun, ReportsRuns, most_of, progress}
use Rattle.omega_solve.specs.declared.budget.observing.Progress.{Progress}
use Rattle.omega_io.specs.Writing.{Tells, WritesBeginning}
use Rattle.omega_run.specs.Progress.{GoesOnByLine, progress_line}
use Rattle.omega_run.specs.private.steps.Telling.{HasReported, TellsOn}

-- ---- one text after another

-- a beginning of the text that follows is, after the whole of the first, a beginning of both
begins_after : (start before after : Option (List ℕ)) (text more : List ℕ) → Appends start before text → WritesBeginning before after more
    → WritesBeginning start after (text ++ more)
begins_after start before after text more whole begun = record {
  count = length text + begun.count;
  less = omega (arith, length-append text more, begun.less);
  taken = rw (take-append-add text more begun.count) (Appends-trans start before after text (take begun.count more) whole begun.taken);
}

-- a beginning of the first is one of both
begins_before : (start before : Option (List ℕ)) (text more : List ℕ) → WritesBeginning start before text → WritesBeginning start before (text ++ more)
begins_before start before text more begun = record {
  count = begun.count;
  less = omega (arith, length-append text more, begun.less);
  taken = rw (take-append-le begun.count text more (omega (arith, begun.less))) begun.taken;
}

-- if none failed before, the text goes on
tells_after : (start before after : Option (List ℕ)) (sound failed later : ℕ) (text more : List ℕ) → failed ≡ sound
    → Tells start before sound failed text → Tells before after failed later more → Tells start after sound later (text ++ more)
tells_after start before after sound failed later text more none reported then = record {
  whole = λ same.
      Appends-trans start before after text more (reported.whole none) (then.whole (omega (arith, same, none)));
  beginning = λ less. begins_after start before after text more (reported.whole none) (then.beginning (omega (arith, less, none)));
}

-- if one failed before, nothing more is written
tells_nothing : (start before after : Option (List ℕ)) (sound failed later : ℕ) (text more : List ℕ) → sound < failed
    → Tells start before sound failed text → after ≡ before → later ≡ failed → Tells start after sound later (text ++ more)
tells_nothing start before after sound failed later text more some reported same counted = record {
  whole = λ none. absurd (omega (arith, some, none, counted));
  beginning = λ less. rw same (begins_before start before text more (reported.beginning some));
}

-- a part that is written later follows what was written
pub reported_on : (start before after : Option (List ℕ)) (sound failed later : ℕ) (text more : List ℕ) → sound < 2 ^ 64 - 1
    → HasReported start before sound failed text → TellsOn sound before after failed later more → HasReported start after sound later (text ++ more)
reported_on start before after sound failed later text more fits reported on = record {
  counted = omega (arith, reported.counted, on.counted);
  reported = elim (eq-or-lt_of_le reported.counted) [
    | inl none ↦ tells_after start before after sound failed later text more (sym none) reported.reported (on.reported (sym none) fits)
    | inr some ↦ tells_nothing start before after sound failed later text more some reported.reported (on.silent some).0 (on.silent some).1
  ];
}

-- and so does what is written after the last
pub told_after : (start before after : Option (List ℕ)) (sound failed later : ℕ) (text more : List ℕ) → HasReported start before sound failed text
    → failed ≡ sound → Tells before after failed later more → Tells start after sound later (text ++ more)
told_after start before after sound failed later text more reported none then =
    tells_after start before after sound failed later text more none reported.reported then

-- if a write failed, nothing is
pub broken_off : (start before : Option (List ℕ)) (sound failed : ℕ) (text more : List ℕ) → HasReported start before sound failed text
    → sound < failed → Tells start before sound failed (text ++ more)
broken_off start before sound failed text more reported some =
    tells_nothing start before before sound failed failed text more some reported.reported refl refl

-- two parts written one after another are one text
pub on_and_on : (before between after : Option (List ℕ)) (sound failed more later : ℕ) (text then : List ℕ)
    → TellsOn sound before between failed more text → TellsOn sound between after more later then
    → TellsOn sound before after failed later (text ++ then)
on_and_on before between after sound failed more later text then first second = record {
  counted = omega (arith, first.counted, second.counted);
  reported = λ none fits.
      (reported_on before between after failed more later text then (omega (arith, none, fits))
      (record { counted = first.counted; reported = first.reported none fits })
      (subst (λ (n : ℕ). TellsOn n between after more later then) (sym none) second)).reported;
  silent = λ some.
      let was = first.silent some in
      let is = second.silent (omega (arith, some, was.1)) in
      (is.0 ∙ was.0, is.1 ∙ was.1);
}

-- nothing was written
nothing_appended : (held : Option (List ℕ)) → Appends held held []
nothing_appended None = tt
nothing_appended (Some bytes) = sym (append-nil bytes)

pub nothing_reported : (held : Option (List ℕ)) (failed : ℕ) → HasReported held held failed failed []
nothing_reported held failed = record {
  counted = omega arith;
  reported = record { whole = λ same. nothing_appended held; beginning = λ less. absurd (omega (arith, less)) };
}

-- ---- lines of progress

-- what reports to an observer that holds a text and counts failures, in lines
abbrev pub TellsLines : {L : Type 0} → (L → Option (List ℕ)) → (L → ℕ) → ℕ → Progress → L → L → Type 0
TellsLines held failed sound = λ progress before after.
    TellsOn sound (held before) (held after) (failed before) (failed after) (progress_line progress)

-- a text that was reported to the observer and satisfies this
pub record HasLines (Holds : List ℕ → Type 0) (start now : Option (List ℕ)) (sound failed : ℕ) : Type 0 where
  pub text : List ℕ
  pub reported : HasReported start now sound failed text
  pub holds : Holds text

each_lines : {L : Type 0} (held : L → Option (List ℕ)) (failed : L → ℕ) (sound : ℕ) (start : Option (List ℕ)) (player : Player) (every most times : ℕ)
    (before after : L) (text : List ℕ) → sound < 2 ^ 64 - 1 → HasReported start (held before) sound (failed before) text
    → ReportsEach (TellsLines held failed sound) player every most times before after
    → HasLines (ReportsEach GoesOnByLine player every most times text) start (held after) sound (failed after)
each_lines {L} held failed sound start player every most zero before after text fits reported same = record {
  text = text;
  reported = subst (λ (l : L). HasReported start (held l) sound (failed l) text) (sym same) reported;
  holds = refl;
}
each_lines {L} held failed sound start player every most (suc times) before after text fits reported (between, earlier, last) =
    let so_far = each_lines held failed sound start player every most times before between text fits reported earlier in
    record {
      text = so_far.text ++ progress_line (progress player (suc times * every) most);
      reported = reported_on start (held between) (held after) sound (failed between) (failed after) so_far.text _ fits so_far.reported last;
      holds = (so_far.text, so_far.holds, refl);
    }

pub run_lines : {L : Type 0} (held : L → Option (List ℕ)) (failed : L → ℕ) (sound : ℕ) (start : Option (List ℕ)) (every : ℕ) (nodes : List Node)
    (player : Player) (budget lifts : ℕ) (refusal : Option Refusal) (before after : L) (text : List ℕ) → sound < 2 ^ 64 - 1
    → HasReported start (held before) sound (failed before) text → ReportsRun (TellsLines held failed sound) every nodes player budget lifts refusal before after
    → HasLines (ReportsRun GoesOnByLine every nodes player budget lifts refusal text) start (held after) sound (failed after)
run_lines held failed sound start every nodes player budget lifts refusal before after text fits reported run =
    let lines = each_lines held failed sound start player every (most_of nodes player budget) run.reported.times before after text fits reported run.reported.reported in
    record {
      text = lines.text;
      reported = lines.reported;
      holds = record {
        outcome = run.outcome;
        spent = run.spent;
        ended = run.ended;
        reported = record { times = run.reported.times; reports = run.reported.reports; reported = lines.holds };
      };
    }

runs_lines : {L : Type 0} (held : L → Option (List ℕ)) (failed : L → ℕ) (sound : ℕ) (start : Option (List ℕ)) (every : ℕ) (nodes : List Node)
    (players : List Player) (budget : ℕ) (refusal : Option Refusal) (before after : L) (text : List ℕ) → sound < 2 ^ 64 - 1
    → HasReported start (held before) sound (failed before) text
    → ReportsRuns (TellsLines held failed sound) every nodes players budget refusal before after
    → HasLines (ReportsRuns GoesOnByLine every nodes players budget refusal text) start (held after) sound (failed after)
runs_lines {L} held failed sound start every nodes [] budget refusal before after text fits reported same = record {
  text = text;
  reported = subst (λ (l : L). HasReported start (held l) sound (failed l) text) (sym same) reported;
  holds = refl;
}
runs_lines held failed sound start every nodes (player ∷ []) budget refusal before after text fits reported (lifts, run) =
    let lines = run_lines held failed sound start every nodes player budget lifts refusal before after text fits reported run in
    record { text = lines.text; reported = lines.reported; holds = (lifts, lines.holds) }
runs_lines held failed sound start every nodes (player ∷ other ∷ players) budget refusal before after text fits reported (lifts, between, run, runs) =
    let first = run_lines held failed sound start every nodes player budget lifts None before between text fits reported run in
    let rest = runs_lines held failed sound start every nodes (other ∷ players) budget refusal between after first.text fits first.reported runs in
    record { text = rest.text; reported = rest.reported; holds = (lifts, first.text, first.holds, rest.holds) }

-- what was reported to an observer about runs in lines is a text of these
pub observed_lines : {L : Type 0} (held : L → Option (List ℕ)) (failed : L → ℕ) (Runs : Option Refusal → List Node → List Player → Type 0) (refusal : Option Refusal)
    (every budget sound : ℕ) (before after : L) → failed before < 2 ^ 64 - 1 → sound ≡ failed before
    → IsObserved Runs refusal (TellsLines held failed sound) every budget before after
    → HasLines (IsObserved Runs refusal GoesOnByLine every budget []) (held before) (held after) (failed before) (failed after)
observed_lines {L} held failed Runs refusal every budget sound before after fits same observed =
    let reported = subst (λ (n : ℕ). ReportsRuns (TellsLines held failed n) every observed.nodes observed.players budget refusal before after) same observed.reported in
    let lines = runs_lines held failed (failed before) (held before) every observed.nodes observed.players budget refusal before after [] fits
    (nothing_reported (held before) (failed before)) reported in
    record {
      text = lines.text;
      reported = lines.reported;
      holds = record { nodes = observed.nodes; players = observed.players; runs = observed.runs; reported = lines.holds };
    }
