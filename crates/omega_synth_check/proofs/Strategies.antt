-- By the answers of a controller for a specification the system realizes it.
use Rattle.std.proofs.Common.{ℕ, ◌<◌, Bool, List, map, Contains, sym, refl, subst, ◌∙◌, arith}
use Rattle.std.specs.Prelude.{IsTrue}
use Rattle.std.specs.List.{range_with_len}
use Rattle.std.proofs.lemmas.List.FromFn.{get_or-range_with_len, length-range_with_len}
use Rattle.std.proofs.lemmas.Option.{slice_get_within}
use Rattle.omega_hoa_acceptance.specs.Acceptance.{AccTree, accepts}
use Rattle.omega_hoa_automaton.specs.Automaton.{Description, edge_count, edges_of}
use Rattle.omega_lang_runs.specs.Lasso.{IsStep, marks_at}
use Rattle.omega_lang_runs.specs.Runs.{Satisfies}
use Rattle.omega_lang_runs.specs.Words.{IsAccepted}
use Rattle.omega_synth_controllers.specs.Controllers.{IsController, IsMet}
use Rattle.omega_synth_controllers.specs.Strategies.{HasKeptRun, System, word_of}
use Rattle.omega_synth_controllers.proofs.Realizing.{controllers_answer}
use Rattle.omega_lang_word_laws.specs.NamedWords.{part_of}
use Rattle.omega_lang_word_laws.proofs.naming.Named.{accepted_same}
use Rattle.omega_synth_check.specs.Judging.{AnswersAll, IsAnswered, IsReached}
use Rattle.omega_synth_check.specs.Laws.{ControllersRealizeSpecifications}
use Rattle.omega_synth_check.specs.Refusing.{AcceptsAll}

module _ (a : Description) (controlled : List ℕ) (all : AcceptsAll a) (answers : AnswersAll a controlled) where
  -- all edges are kept
  abbrev kept : List ℕ
  kept = range_with_len 0 (edge_count a)

  reached : (state : ℕ) → IsMet a kept state → IsReached a state
  reached state met = record { start = met.start; begins = met.begins; numbers = met.numbers; leads = met.leads }

  in_kept : (from number to : ℕ) → IsStep a from number to → Contains kept number
  in_kept from number to step =
      let below : number < edge_count a = slice_get_within (edges_of a) number step.edge step.numbered in (
        number,
        omega (arith, below, length-range_with_len 0 (edge_count a)),
        get_or-range_with_len 0 (edge_count a) number number below ∙ omega arith,
      )

  controller : IsController a controlled kept
  controller = record {
    begins = answers.begins;
    answered = λ state given met.
        let answer : IsAnswered a controlled state given = answers.answered state given (reached state met) in
        record {
          number = answer.number;
          next = answer.next;
          is_kept = in_kept state answer.number answer.next answer.step;
          step = answer.step;
          answers = answer.answers;
        };
    accepted = λ state cycle is. subst (λ (formula : AccTree). IsTrue (accepts (map (marks_at a) cycle) formula)) (sym all.1) refl;
  }

  run_accepted : (word : ℕ → ℕ → Bool) → HasKeptRun a kept word → IsAccepted a word
  run_accepted word (states, (edges, kept_run)) = record {
    states = states;
    edges = edges;
    accepting = record {
      run = kept_run.run;
      accepted = subst (λ (formula : AccTree). Satisfies (λ i. marks_at a (edges i)) formula) (sym all.1) refl;
    };
    taken = kept_run.taken;
  }

  pub own_strategy : (system : System) × ((given : ℕ → ℕ → Bool) → IsAccepted a (word_of controlled system given))
  own_strategy =
      let found = controllers_answer a controlled kept controller in
      (found.0, λ given. run_accepted (word_of controlled found.0 given) (found.1 given))

pub controllers_realize_specifications : ControllersRealizeSpecifications
controllers_realize_specifications specification a controlled automaton all for =
    let own = own_strategy a controlled all for.answers in (
      own.0,
      λ given named same.
          for.accepted named (accepted_same a automaton (word_of controlled own.0 given) (part_of a.propositions named) same (own.1 given)),
    )
