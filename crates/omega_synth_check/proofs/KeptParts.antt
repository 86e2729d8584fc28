-- A part that keeps the edges of a controller answers each letter, and its words are accepted.
use Rattle.std.proofs.Common.{ℕ, ◌+◌, Bool, List, [], ◌∷◌, map, All, Contains, sym, ap, subst}
use Rattle.std.proofs.lemmas.List.Elements.{All-cons, All-nil}
use Rattle.omega_hoa_automaton.specs.Automaton.{Description}
use Rattle.omega_lang_runs.specs.Lasso.{Leads}
use Rattle.omega_lang_runs.specs.Runs.{IsRun}
use Rattle.omega_lang_runs.specs.Words.{CanBeTaken, IsAccepted}
use Rattle.omega_synth_controllers.specs.Controllers.{HasAnswer, IsController, IsMet}
use Rattle.omega_synth_controllers.proofs.Accepting.{kept_runs_are_accepting}
use Rattle.omega_text.specs.Omniscience.{LimitedPrincipleOfOmniscience}
use Rattle.omega_text.specs.NamedWords.{NamedWord}
use Rattle.omega_lang_word_laws.specs.NamedWords.{AcceptsNamed, part_of}
use Rattle.omega_synth_check.specs.Judging.{IsAnswered, IsReached}
use Rattle.omega_synth_check.specs.Laws.{IsKeptPart, KeptPartsAreJudgedRight, KeptPartsControl}
use Rattle.omega_synth_check.proofs.Judgements.{judgements_are_exact}

module _ (a part : Description) (controlled kept : List ℕ) (controller : IsController a controlled kept) (is : IsKeptPart a kept part) where
  leads_in : (from : ℕ) (numbers : List ℕ) (to : ℕ) → Leads part from numbers to → Leads a (is.state_in from) (map is.edge_in numbers) (is.state_in to)
  leads_in from [] to leads = ap is.state_in leads
  leads_in from (number ∷ numbers) to leads =
      (is.state_in leads.0, (is.steps from number leads.0 leads.1).step, leads_in leads.0 numbers to leads.2)

  all_kept : (from : ℕ) (numbers : List ℕ) (to : ℕ) → Leads part from numbers to → All (Contains kept) (map is.edge_in numbers)
  all_kept from [] to leads = All-nil (Contains kept)
  all_kept from (number ∷ numbers) to leads =
      All-cons (Contains kept) (is.edge_in number) (map is.edge_in numbers) (is.steps from number leads.0 leads.1).is_kept (all_kept leads.0 numbers to leads.2)

  -- a state that is reached stands for one that is met
  met_in : (state : ℕ) → IsReached part state → IsMet a kept (is.state_in state)
  met_in state reached = record {
    start = is.state_in reached.start;
    begins = is.starts reached.start reached.begins;
    numbers = map is.edge_in reached.numbers;
    all_kept = all_kept reached.start reached.numbers state reached.leads;
    leads = leads_in reached.start reached.numbers state reached.leads;
  }

  pub answered : (state : ℕ) (given : ℕ → Bool) → IsReached part state → IsAnswered part controlled state given
  answered state given reached =
      let answer : HasAnswer a controlled kept (is.state_in state) given = controller.answered (is.state_in state) given (met_in state reached) in
      let own = is.has_steps state answer.number answer.next reached answer.step answer.is_kept in
      let kept_edge = is.steps state own.0 own.1.0 own.1.1 in
      record {
        number = own.0;
        next = own.1.0;
        step = own.1.1;
        answers = record {
          letter = answer.answers.letter;
          agrees = answer.answers.agrees;
          taken = (kept_edge.taken answer.answers.letter).1
              (subst (λ (number : ℕ). CanBeTaken a number answer.answers.letter) (sym own.1.2) answer.answers.taken);
        };
      }

  module _ (decided : LimitedPrincipleOfOmniscience) (word : ℕ → ℕ → Bool) (accepted : IsAccepted part word) where
    run_in : IsRun a (λ i. is.state_in (accepted.states i)) (λ i. is.edge_in (accepted.edges i))
    run_in = record {
      begins = is.starts (accepted.states 0) accepted.accepting.run.begins;
      steps = λ i. (is.steps (accepted.states i) (accepted.edges i) (accepted.states (i + 1)) (accepted.accepting.run.steps i)).step;
    }

    pub accepted_in : IsAccepted a word
    accepted_in = record {
      states = λ i. is.state_in (accepted.states i);
      edges = λ i. is.edge_in (accepted.edges i);
      accepting = record {
        run = run_in;
        accepted = kept_runs_are_accepting decided a controlled kept (λ i. is.state_in (accepted.states i)) (λ i. is.edge_in (accepted.edges i)) controller run_in
            (λ i. (is.steps (accepted.states i) (accepted.edges i) (accepted.states (i + 1)) (accepted.accepting.run.steps i)).is_kept);
      };
      taken = λ i. ((is.steps (accepted.states i) (accepted.edges i) (accepted.states (i + 1)) (accepted.accepting.run.steps i)).taken (word i)).0 (accepted.taken i);
    }

  pub accepted_named : LimitedPrincipleOfOmniscience → (word : NamedWord) → AcceptsNamed part word → AcceptsNamed a word
  accepted_named decided word accepts =
      let here : IsAccepted part (part_of a.propositions word) = subst (λ (names : List (List ℕ)). IsAccepted part (part_of names word)) is.propositions accepts in
      accepted_in decided (part_of a.propositions word) here

pub kept_parts_control : KeptPartsControl
kept_parts_control decided a part controlled kept controller is = record {
  answers = record {
    begins = is.has_starts controller.begins.0 controller.begins.1;
    answered = answered a part controlled kept controller is;
  };
  accepted = accepted_named a part controlled kept controller is decided;
}

pub kept_parts_are_judged_right : KeptPartsAreJudgedRight
kept_parts_are_judged_right decided a part controlled kept judgement controller is right =
    (judgements_are_exact decided a part controlled judgement right).1 (kept_parts_control decided a part controlled kept controller is)
