-- By a counter-strategy for a formula the environment has a strategy that beats it: it keeps track of the state to
-- which the counter-strategy has come, and gives the letter that it has there.
use Rattle.std.proofs.Common.{ℕ, suc, inl, inr, Bool, if◌then◌else◌, List, [], ◌∷◌, get_or, sym, ap, ◌∙◌}
use Rattle.std.proofs.lemmas.Bool.{cases_Bool}
use Rattle.omega_hoa_automaton.specs.Automaton.{Description, IsAutomaton}
use Rattle.omega_text.specs.NamedWords.{NamedWord}
use Rattle.omega_lang_word_laws.specs.NamedWords.{AcceptsNamed, part_of}
use Rattle.omega_lang_word_laws.proofs.naming.Named.{accepted_same}
use Rattle.omega_ltl_formula.specs.Formula.{FormulaTree}
use Rattle.omega_synth_controllers.specs.Strategies.{Environment, is_controlled, joined, so_far, word_against}
use Rattle.omega_synth_controllers.proofs.Letters.{found_listed}
use Rattle.omega_synth_check.specs.CounterJudging.{GoesAt, GoesOn, IsGiven, NamedLetter}
use Rattle.omega_synth_check.specs.CounterLaws.{AreNumbersOfNames}
use Rattle.omega_synth_check.specs.Judging.{IsReached}
use Rattle.omega_synth_check.specs.Laws.{IsNamedOf}
use Rattle.omega_synth_check.specs.Refusing.{AcceptsAll}
use Rattle.omega_synth_check.proofs.Coming.{reached_on}
use Rattle.omega_synth_formula.specs.CounterJudging.{IsCounterStrategyForFormula}
use Rattle.omega_synth_formula.specs.Following.{HasFollowedLetter}
use Rattle.omega_synth_formula.specs.CounterLaws.{CounterStrategiesBeatFormulas}
use Rattle.omega_synth_formula.proofs.Accepting.{goes_accepts}
use Rattle.omega_synth_formula.proofs.Coming.{reached_start}
use Rattle.omega_synth_formula.proofs.Merging.{merged, merged_given, merged_seen}

module _ (formula : FormulaTree) (own : Description) (controlled : List (List ℕ)) (stated : List ℕ) (is_own : IsAutomaton own) (all : AcceptsAll own)
    (numbers : AreNumbersOfNames own stated controlled) (for : IsCounterStrategyForFormula formula own controlled) where
  abbrev names : List (List ℕ)
  names = own.propositions

  -- what the environment gives by numbers, and the whole letter by names
  abbrev given_by : NamedLetter → ℕ → Bool
  given_by given p = given (get_or names p [])

  abbrev whole : NamedLetter → (ℕ → Bool) → NamedLetter
  whole given answer = merged own is_own given (joined stated answer (given_by given))

  pub whole_given : (given : NamedLetter) (answer : ℕ → Bool) → IsGiven controlled given (whole given answer)
  whole_given given answer =
      merged_given own is_own given (joined stated answer (given_by given)) controlled
      (λ p low free. elim (cases_Bool (is_controlled stated p)) [
        | inl is ↦ absurd (free ((numbers p low).0 (found_listed stated p is)))
        | inr not ↦ sym (ap (λ b. if b then answer p else given_by given p) not)
      ])

  -- the state to which the counter-strategy has come
  abbrev Track : Type 0
  Track = (t : ℕ) × IsReached own t

  abbrev letter_in : (track : Track) → HasFollowedLetter own controlled track.0
  letter_in track = for.follows track.0 track.1

  abbrev goes : (track : Track) (answer : ℕ → Bool) → GoesOn own (whole (letter_in track).given answer) track.0
  goes track answer = (letter_in track).follows (whole (letter_in track).given answer) (whole_given (letter_in track).given answer)

  abbrev next : Track → (ℕ → Bool) → Track
  next track answer =
      let on = goes track answer in (on.0, reached_on own track.0 on.1.number on.0 track.1 on.1.step)

  -- after letters of the system, the last first
  abbrev track_after : List (ℕ → Bool) → Track
  track_after [] = (for.begins.0, reached_start own for.begins.0 for.begins.1)
  track_after (answer ∷ before) = next (track_after before) answer

  abbrev pub environment : Environment
  environment before = given_by (letter_in (track_after before)).given

  module _ (answers : ℕ → ℕ → Bool) (named : NamedWord) where
    abbrev track : ℕ → Track
    track i = track_after (so_far answers i)

    abbrev held : ℕ → NamedLetter
    held i = whole (letter_in (track i)).given (answers i)

    on : (i : ℕ) → GoesAt own (held i) (track i).0 (track (suc i)).0
    on i = (goes (track i) (answers i)).1

    -- so it accepts the word, by names
    own_accepts : AcceptsNamed own held
    own_accepts = goes_accepts own all held (λ i. (track i).0) for.begins.1 on

    pub own_accepts_named : IsNamedOf own (word_against stated environment answers) named → AcceptsNamed own named
    own_accepts_named same =
        accepted_same own is_own (part_of names held) (part_of names named)
        (λ i p low. merged_seen own is_own (letter_in (track i)).given (joined stated (answers i) (given_by (letter_in (track i)).given)) p low ∙ same i p low) own_accepts

pub counter_strategies_beat_formulas : CounterStrategiesBeatFormulas
counter_strategies_beat_formulas formula strategy controlled stated is_strategy all numbers for = (
  environment formula strategy controlled stated is_strategy all numbers for,
  λ answers named same.
      for.refused named (own_accepts_named formula strategy controlled stated is_strategy all numbers for answers named same),
)
