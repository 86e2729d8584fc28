-- Automata with the same parts are the same controllers and counter-strategies for a formula, and have the same sides.
use Rattle.std.proofs.Common.{◌≡◌, ℕ, ◌≤◌, Bool, true, if◌then◌else◌, List, [], ◌∷◌, ◌++◌, length, filter, Contains, sym, ap, ap₂, subst, ◌∙◌}
use Rattle.std.specs.List.{flat_map, list_any}
use Rattle.std.specs.Prelude.{slice_index_or}
use Rattle.omega_circuit.specs.Circuit.{CircuitValue}
use Rattle.omega_circuit_encoder.specs.Names.{names_of}
use Rattle.omega_hoa_automaton.specs.Automaton.{Description}
use Rattle.omega_hoa_automaton.specs.declared.header.Header.{Header}
use Rattle.omega_lang_runs.specs.Lasso.{IsStart, Leads}
use Rattle.omega_lang_runs.specs.Words.{CanBeTaken}
use Rattle.omega_ltl_formula.specs.Formula.{FormulaTree}
use Rattle.omega_synth_check.specs.CounterJudging.{ComeTo, GoesAt, GoesOn, HasLetter, IsCounterStrategyFor, NamedLetter}
use Rattle.omega_synth_check.specs.CounterJudging.ComeTo.{begin, go_on}
use Rattle.omega_synth_check.specs.CounterRefusing.{system_numbers}
use Rattle.omega_synth_check.specs.Judging.{AnswersAll, IsAnswered, IsControllerFor, IsReached}
use Rattle.omega_synth_controllers.specs.Controllable.{AreNumbersOf, IsControlled, has_item, is_controllable_item}
use Rattle.omega_synth_controllers.specs.Controllers.{Answers}
use Rattle.omega_synth_controllers.specs.Strategies.{word_against, word_of}
use Rattle.omega_synth_formula.specs.CounterJudging.{IsCounterStrategyForFormula}
use Rattle.omega_synth_formula.specs.Following.{HasFollowedLetter}
use Rattle.omega_synth_formula.specs.Judging.{IsControllerForFormula}
use Rattle.omega_io.specs.declared.exit.Exit.{Exit}
use Rattle.omega_answers_synth.specs.Laws.{TellsWhoWins}
use Rattle.omega_answers_synth.specs.Parting.{AreAlike, AreControlledAlike, AreSystemNames, names_at}
use Rattle.omega_answers_circuit.specs.Sides.{IsSided}
use Rattle.omega_answers_circuit.specs.Verify.{IsSidedBy}
use Rattle.omega_laws.specs.Describes.{Describes}
use Rattle.omega_laws.proofs.saying.Described.{HaveSameParts, accepted_alike, named_alike, same_step, same_taken}

-- automata that one text describes have the same parts
abbrev pub PartsAreOne : Type 0
PartsAreOne = (text : List ℕ) (one other : Description) → Describes text one → Describes text other → HaveSameParts one other

pub turned : (a b : Description) → HaveSameParts a b → HaveSameParts b a
turned a b same = record {
  starts = sym same.starts;
  propositions = sym same.propositions;
  acceptance = sym same.acceptance;
  unknown = sym same.unknown;
  defined = sym same.defined;
}

module _ (a b : Description) (same : HaveSameParts a b) where
  same_start : (state : ℕ) → IsStart a state → IsStart b state
  same_start state is = subst (λ (starts : List (List ℕ)). Contains starts (state ∷ [])) same.starts is

  same_leads : (from : ℕ) (numbers : List ℕ) (to : ℕ) → Leads a from numbers to → Leads b from numbers to
  same_leads from [] to leads = leads
  same_leads from (number ∷ numbers) to leads =
      (leads.0, same_step a b same from number leads.0 leads.1, same_leads leads.0 numbers to leads.2)

  same_reached : (state : ℕ) → IsReached a state → IsReached b state
  same_reached state is = record {
    start = is.start;
    begins = same_start is.start is.begins;
    numbers = is.numbers;
    leads = same_leads is.start is.numbers state is.leads;
  }

  same_answers : (controlled : List ℕ) (number : ℕ) (given : ℕ → Bool) → Answers a controlled number given → Answers b controlled number given
  same_answers controlled number given is = record { letter = is.letter; agrees = is.agrees; taken = same_taken a b same number is.letter is.taken }

  same_answered : (controlled : List ℕ) (state : ℕ) (given : ℕ → Bool) → IsAnswered a controlled state given → IsAnswered b controlled state given
  same_answered controlled state given is = record {
    number = is.number;
    next = is.next;
    step = same_step a b same state is.number is.next is.step;
    answers = same_answers controlled is.number given is.answers;
  }

  same_goes_at : (letter : NamedLetter) (from to : ℕ) → GoesAt a letter from to → GoesAt b letter from to
  same_goes_at letter from to goes = record {
    number = goes.number;
    step = same_step a b same from goes.number to goes.step;
    taken = same_taken a b same goes.number (λ p. letter (slice_index_or b.propositions p []))
        (subst (λ (names : List (List ℕ)). CanBeTaken a goes.number (λ p. letter (slice_index_or names p []))) same.propositions goes.taken);
  }

  same_goes : (letter : NamedLetter) (from : ℕ) → GoesOn a letter from → GoesOn b letter from
  same_goes letter from goes = (goes.0, same_goes_at letter from goes.0 goes.1)

pub same_all : (a b : Description) → HaveSameParts a b → (controlled : List ℕ) → AnswersAll a controlled → AnswersAll b controlled
same_all a b same controlled all = record {
  begins = (all.begins.0, same_start a b same all.begins.0 all.begins.1);
  answered = λ state given reached.
      same_answered a b same controlled state given (all.answered state given (same_reached b a (turned a b same) state reached));
}

-- a controller for a formula
pub same_controller : (a b : Description) → HaveSameParts a b → (formula : FormulaTree) (outs : List (List ℕ))
    → IsControllerForFormula formula a (system_numbers a.propositions outs) → IsControllerForFormula formula b (system_numbers b.propositions outs)
same_controller a b same formula outs is =
    let own : AnswersAll b (system_numbers a.propositions outs) = same_all a b same (system_numbers a.propositions outs) is.answers in
    record {
      answers = subst (λ (names : List (List ℕ)). AnswersAll b (system_numbers names outs)) same.propositions own;
      satisfying = λ word accepts. is.satisfying word (named_alike b a (turned a b same) word accepts);
    }

-- a counter-strategy for a formula
pub same_counter_strategy : (a b : Description) → HaveSameParts a b → (formula : FormulaTree) (outs : List (List ℕ))
    → IsCounterStrategyForFormula formula a outs → IsCounterStrategyForFormula formula b outs
same_counter_strategy a b same formula outs is = record {
  begins = (is.begins.0, same_start a b same is.begins.0 is.begins.1);
  follows = λ state reached.
      (let letter : HasFollowedLetter a outs state = is.follows state (same_reached b a (turned a b same) state reached) in
      record { given = letter.given; follows = λ other given. same_goes a b same other state (letter.follows other given) });
  refused = λ word accepts. is.refused word (named_alike b a (turned a b same) word accepts);
}

-- the propositions that the system controls
pub same_controlled : (a b : Description) → HaveSameParts a b → (numbers : List ℕ) → IsControlled a numbers → IsControlled b numbers
same_controlled a b same numbers is =
    let items : List Header → List Header = filter is_controllable_item in
    record {
      once = subst (λ (unknown : List Header). length (items unknown) ≤ 1) same.unknown is.once;
      stated = subst (λ (names : List (List ℕ)). AreNumbersOf (length names) (flat_map (λ item. item.values) (items b.unknown)) numbers) same.propositions
          (subst (λ (unknown : List Header). AreNumbersOf (length a.propositions) (flat_map (λ item. item.values) (items unknown)) numbers) same.unknown is.stated);
    }

-- what the items of two say
module _ (a b c d : Description) (same : HaveSameParts a b) (also : HaveSameParts c d) where
  same_alike : (ones others : List ℕ) → (has_item a ≡ true → AreAlike a.propositions c.propositions ones others)
      → has_item b ≡ true → AreAlike b.propositions d.propositions ones others
  same_alike ones others alike item =
      let here : has_item a ≡ true = ap (list_any is_controllable_item) same.unknown ∙ item in
      subst (λ (names : List (List ℕ)). AreAlike names d.propositions ones others) same.propositions
      (subst (λ (names : List (List ℕ)). AreAlike a.propositions names ones others) also.propositions (alike here))

  pub same_parted : (controlled : List ℕ) → AreControlledAlike a c controlled → AreControlledAlike b d controlled
  same_parted controlled is = record {
    own = same_controlled c d also controlled is.own;
    stated = is.stated;
    other = same_controlled a b same is.stated is.other;
    alike = same_alike is.stated controlled is.alike;
  }

  pub same_system : (names : List (List ℕ)) → AreSystemNames a c names → AreSystemNames b d names
  same_system names is = record {
    stated = is.stated;
    specified = same_controlled a b same is.stated is.specified;
    controlled = is.controlled;
    own = same_controlled c d also is.controlled is.own;
    alike = same_alike is.stated is.controlled is.alike;
    are = is.are ∙ ap₂ (λ ones others. names_at ones is.stated ++ names_at others is.controlled) same.propositions also.propositions;
  }

  -- a controller for a specification
  pub same_specified : (controlled : List ℕ) → IsControllerFor a c controlled → IsControllerFor b d controlled
  same_specified controlled is = record {
    answers = same_all c d also controlled is.answers;
    accepted = λ word accepts. named_alike a b same word (is.accepted word (named_alike d c (turned c d also) word accepts));
  }

  -- and a counter-strategy
  came : (s t : ℕ) → ComeTo b d s t → ComeTo a c s t
  came _ _ (begin s t one other) = begin s t (same_start b a (turned a b same) s one) (same_start d c (turned c d also) t other)
  came _ _ (go_on letter s t to on before one other) =
      go_on letter s t to on (came s t before) (same_goes_at b a (turned a b same) letter s to one) (same_goes_at d c (turned c d also) letter t on other)

  pub same_countered : (names : List (List ℕ)) → IsCounterStrategyFor a c names → IsCounterStrategyFor b d names
  same_countered names is = record {
    begins = λ start starts.
        (let own = is.begins start (same_start b a (turned a b same) start starts) in (own.0, same_start c d also own.0 own.1));
    follows = λ s t come.
        (let letter : HasLetter a c names s t = is.follows s t (came s t come) in
        record {
          given = letter.given;
          follows = λ other given goes. same_goes c d also other t (letter.follows other given (same_goes b a (turned a b same) other s goes));
        });
    refused = λ word accepts also_accepts.
        is.refused word (named_alike d c (turned c d also) word accepts) (named_alike b a (turned a b same) word also_accepts);
  }

-- who wins
pub same_winner : (a b : Description) → HaveSameParts a b → (controlled : List ℕ) (exit : Exit) → TellsWhoWins a controlled exit → TellsWhoWins b controlled exit
same_winner a b same controlled exit is = record {
  realized = (
    λ done. (let some = is.realized.0 done in (some.0, λ given. accepted_alike a b same (word_of controlled some.0 given) (some.1 given))),
    λ some. is.realized.1 (some.0, λ given. accepted_alike b a (turned a b same) (word_of controlled some.0 given) (some.1 given)),
  );
  beaten = (
    λ no. (let some = is.beaten.0 no in (some.0, λ own accepted. some.1 own (accepted_alike b a (turned a b same) (word_against controlled some.0 own) accepted))),
    λ some. is.beaten.1 (some.0, λ own accepted. some.1 own (accepted_alike a b same (word_against controlled some.0 own) accepted)),
  );
}

-- the sides of a circuit
pub same_sides : (a b : Description) → HaveSameParts a b → (c : CircuitValue) → IsSidedBy a c → IsSidedBy b c
same_sides a b same c is =
    let Sided : List Header → List (List ℕ) → Type 0 =
    λ unknown names. IsSided (if list_any is_controllable_item unknown then names else []) (names_of true names is.stated) c in
    record {
      stated = is.stated;
      specified = same_controlled a b same is.stated is.specified;
      sided = subst (λ (unknown : List Header). Sided unknown b.propositions) same.unknown
          (subst (λ (names : List (List ℕ)). Sided a.unknown names) same.propositions is.sided);
    }
