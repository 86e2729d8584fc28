-- No formula has both a controller and a counter-strategy: played against each other they make one word, which would
-- satisfy the formula and would not.
use Rattle.std.proofs.Common.{ℕ, zero, suc, List, sym}
use Rattle.omega_hoa_automaton.specs.Automaton.{Description, IsAutomaton}
use Rattle.omega_lang_runs.specs.Words.{CanBeTaken}
use Rattle.omega_text.specs.NamedWords.{NamedWord}
use Rattle.omega_lang_word_laws.specs.NamedWords.{AcceptsNamed}
use Rattle.omega_lang_word_laws.proofs.naming.Named.{allowed_same}
use Rattle.omega_ltl_formula.specs.Formula.{FormulaTree}
use Rattle.omega_synth_check.specs.CounterJudging.{GoesAt, GoesOn, IsGiven, NamedLetter}
use Rattle.omega_synth_check.specs.CounterLaws.{AreNumbersOfNames}
use Rattle.omega_synth_check.specs.Judging.{IsAnswered, IsReached}
use Rattle.omega_synth_check.specs.Refusing.{AcceptsAll}
use Rattle.omega_synth_check.proofs.Coming.{reached_on}
use Rattle.omega_synth_check.proofs.Sides.{seen}
use Rattle.omega_synth_formula.specs.CounterJudging.{IsCounterStrategyForFormula}
use Rattle.omega_synth_formula.specs.Following.{HasFollowedLetter}
use Rattle.omega_synth_formula.specs.CounterLaws.{FormulaControllersExcludeCounterStrategies}
use Rattle.omega_synth_formula.specs.Judging.{IsControllerForFormula}
use Rattle.omega_synth_formula.proofs.Accepting.{goes_accepts}
use Rattle.omega_synth_formula.proofs.Coming.{reached_start}
use Rattle.omega_synth_formula.proofs.Merging.{merged, merged_given, merged_seen}

module _ (formula : FormulaTree) (one own : Description) (controlled : List ℕ) (outs : List (List ℕ)) (is_one : IsAutomaton one)
    (numbers : AreNumbersOfNames one controlled outs) (for : IsControllerForFormula formula one controlled) (against : IsCounterStrategyForFormula formula own outs) where
  abbrev names : List (List ℕ)
  names = one.propositions

  -- a state of each that is reached
  abbrev Track : Type 0
  Track = ((q : ℕ) × IsReached one q) × ((t : ℕ) × IsReached own t)

  -- what the environment gives there, and how the system answers
  abbrev letter_in : (track : Track) → HasFollowedLetter own outs track.1.0
  letter_in track = against.follows track.1.0 track.1.1

  abbrev answer_in : (track : Track) → IsAnswered one controlled track.0.0 (seen names (letter_in track).given)
  answer_in track = for.answers.answered track.0.0 (seen names (letter_in track).given) track.0.1

  -- the letter of both
  abbrev held_in : Track → NamedLetter
  held_in track = merged one is_one (letter_in track).given (answer_in track).answers.letter

  pub given_in : (track : Track) → IsGiven outs (letter_in track).given (held_in track)
  given_in track =
      merged_given one is_one (letter_in track).given (answer_in track).answers.letter outs
      (λ p low free. (answer_in track).answers.agrees p (λ listed. free ((numbers p low).0 listed)))

  one_goes : (track : Track) → GoesAt one (held_in track) track.0.0 (answer_in track).next
  one_goes track = record {
    number = (answer_in track).number;
    step = (answer_in track).step;
    taken = (let taken : CanBeTaken one (answer_in track).number (answer_in track).answers.letter = (answer_in track).answers.taken in
        record {
          edge = taken.edge;
          numbered = taken.numbered;
          allowed = allowed_same one is_one (λ i. (answer_in track).answers.letter) (λ i. seen names (held_in track))
              (λ i p low. sym (merged_seen one is_one (letter_in track).given (answer_in track).answers.letter p low)) (answer_in track).number 0 taken.edge taken.numbered taken.allowed;
        });
  }

  abbrev own_goes : (track : Track) → GoesOn own (held_in track) track.1.0
  own_goes track = (letter_in track).follows (held_in track) (given_in track)

  abbrev next : Track → Track
  next track = (
    ((answer_in track).next, reached_on one track.0.0 (answer_in track).number (answer_in track).next track.0.1 (answer_in track).step),
    ((own_goes track).0, reached_on own track.1.0 (own_goes track).1.number (own_goes track).0 track.1.1 (own_goes track).1.step),
  )

  abbrev track : ℕ → Track
  track zero = (
    (for.answers.begins.0, reached_start one for.answers.begins.0 for.answers.begins.1),
    (against.begins.0, reached_start own against.begins.0 against.begins.1),
  )
  track (suc i) = next (track i)

  abbrev word : NamedWord
  word i = held_in (track i)

  pub both_accept : AcceptsAll one → AcceptsAll own → AcceptsNamed one word × AcceptsNamed own word
  both_accept all also = (
    goes_accepts one all word (λ i. (track i).0.0) for.answers.begins.1 (λ i. one_goes (track i)),
    goes_accepts own also word (λ i. (track i).1.0) against.begins.1 (λ i. (own_goes (track i)).1),
  )

pub controllers_exclude_counter_strategies : FormulaControllersExcludeCounterStrategies
controllers_exclude_counter_strategies formula controller strategy controlled outs is_controller all also numbers for against =
    let played : NamedWord = word formula controller strategy controlled outs is_controller numbers for against in
    let accepts = both_accept formula controller strategy controlled outs is_controller numbers for against all also in
    against.refused played accepts.1 (for.satisfying played accepts.0)
