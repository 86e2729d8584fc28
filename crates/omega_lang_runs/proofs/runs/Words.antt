-- The word of a run: at each index, propositions that make the label of the run's edge true, or its valuation.
use Rattle.std.proofs.Common.{ℕ, Bool, Option, None, Some, refl}
use Rattle.std.specs.Option.{IfSome}
use Rattle.omega_hoa_label.specs.Label.{LabelTree}
use Rattle.omega_hoa_satisfiable.specs.Satisfiable.{IsSatisfiable}
use Rattle.omega_hoa_automaton.specs.Automaton.{Description}
use Rattle.omega_lang_runs.specs.Lasso.{label_of}
use Rattle.omega_lang_runs.specs.Runs.{IsAcceptingRun}
use Rattle.omega_lang_runs.specs.Words.{AcceptedWordsHaveLassos, AcceptingRunsHaveWords, Allows, IsAccepted, LassosHaveAcceptedWords, has_bit, index_in}
use Rattle.omega_lang_runs.proofs.runs.Steps.{accepting_runs_have_lassos, lassos_are_accepting_runs}

-- propositions that make a satisfiable label true, or without a label the valuation of the edge
pub held_by : (a : Description) (number : ℕ) (label : Option LabelTree) → IfSome label IsSatisfiable → (held : ℕ → Bool) × Allows a number label held
held_by a number None usable = (has_bit (index_in a.defined number), λ p below. refl)
held_by a number (Some label) usable = usable

pub accepted_words_have_lassos : AcceptedWordsHaveLassos
accepted_words_have_lassos a word plain accepted = accepting_runs_have_lassos a accepted.states accepted.edges plain accepted.accepting

-- the word of a run
module _ (a : Description) (states edges : ℕ → ℕ) (run : IsAcceptingRun a states edges) where
  abbrev letter : (i : ℕ) → (held : ℕ → Bool) × Allows a (edges i) (label_of (run.run.steps i).edge) held
  letter i = held_by a (edges i) (label_of (run.run.steps i).edge) (run.run.steps i).usable

  abbrev pub word_is_accepted : IsAccepted a (λ i. (letter i).0)
  word_is_accepted = record {
    states = states;
    edges = edges;
    accepting = run;
    taken = λ i. (record { edge = (run.run.steps i).edge; numbered = (run.run.steps i).numbered; allowed = (letter i).1 });
  }

pub accepting_runs_have_words : AcceptingRunsHaveWords
accepting_runs_have_words a states edges plain run = (λ i. (letter a states edges run i).0, (word_is_accepted a states edges run, refl, refl))

pub lassos_have_accepted_words : LassosHaveAcceptedWords
lassos_have_accepted_words a stem cycle plain lasso =
    let run = lassos_are_accepting_runs a stem cycle plain lasso in
    (λ i. (letter a run.0 run.1.0 run.1.1 i).0, word_is_accepted a run.0 run.1.0 run.1.1)
