-- The refusals of the parts.
use Rattle.std.proofs.Common.{◌≡◌, ◌≢◌, inl, inr, false, true, ℕ, List, [], Result, Ok, Err, None, Some, Option, sym, subst, ap, ◌∙◌, refl, true≢false}
use Rattle.std.specs.Prelude.{IfErr, IfOk, OnOk}
use Rattle.omega_text.specs.declared.refusal.Refusal.{Refusal}
use Rattle.omega_text.specs.declared.refusal.Refusal.TheVariants.{Automaton, Circuit, Game, Io, Memory, Task, Text}
use Rattle.omega_text.specs.declared.refusal.task.TaskFault.{TaskFault}
use Rattle.omega_text.specs.declared.refusal.task.TaskFault.TheVariants.{Budget}
use Rattle.omega_hoa_parity_kind.specs.declared.kind.ParityKind.{ParityKind}
use Rattle.omega_hoa_acceptance.specs.Names.{IsNotParity}
use Rattle.omega_hoa_acceptance.specs.declared.kind.AccKind.TheVariants as kinds
use Rattle.omega_hoa_automaton.specs.AcceptanceKind.{HasKind}
use Rattle.omega_hoa_automaton.specs.Automaton.{Description}
use Rattle.omega_hoa_automaton.specs.Branching.{has_universal_branching}
use Rattle.omega_game_values.specs.Game.{Node}
use Rattle.omega_game_values.specs.declared.player.Player.{Player}
use Rattle.omega_solve.specs.budget.Observing.{IsObserved}
use Rattle.omega_hoa_edges.specs.Determinism.{IsDeterministic}
use Rattle.omega_hoa_edges.specs.Refusing.{AreUnjudged, IsFirstUndecided, IsStartRefusal, IsStatesFault}
use Rattle.omega_synth_rounds.specs.declared.rounds.Rounds.{Rounds}
use Rattle.omega_synth_realize.specs.Solving.{IsOutcomeRefusal, LiftsRounds}
use Rattle.omega_synth_realize.proofs.Sized.{large, many_nodes}
use Rattle.omega_synth_realize.proofs.Strategies.{lifted_refused}
use Rattle.omega_synth_game.specs.Laws.{IsParted}
use Rattle.omega_synth_game.specs.Making.{IsMakingFault, IsRoundsOfRefusal}
use Rattle.omega_synth_game.specs.Sizes.{IsSizeFault}
use Rattle.omega_synth_realize.specs.Lifting.{LiftsAutomaton, LiftsParted}
use Rattle.omega_synth_realize.specs.Refusing.{HasNoClashBeforeUndecided, HasParityKind, IsJudgeable, IsJudgingFault, IsPartingFault, IsPosed, IsSingle, IsOutcomeRefusalOf, IsPosingRefusal, IsPartingRefusal, IsRealizabilityRefusal, branches, clash, no_kind, second_start, undecided, unjudged, unmade}
use Rattle.omega_synth_realize.specs.private.Undecided.{is_undecided}

-- what holds, holds where there is an answer
pub on_ok_of : {X : Type 0} (r : Result X Refusal) (P : Type 0) → P → OnOk r P
on_ok_of (Ok x) P p = p
on_ok_of (Err e) P p = tt

module _ (a : Description) where
  pub starts_unjudgeable : has_universal_branching a ≡ false → (e : Refusal) → IsStartRefusal a e → IsPosingRefusal a e
  starts_unjudgeable plain (Task fault) refused = subst (IsJudgingFault a) (sym refused.1) (second_start refused.0 plain refused.2)
  starts_unjudgeable plain Memory refused = absurd refused
  starts_unjudgeable plain (Text fault) refused = absurd refused
  starts_unjudgeable plain (Game fault) refused = absurd refused
  starts_unjudgeable plain (Circuit fault) refused = absurd refused
  starts_unjudgeable plain (Automaton fault) refused = absurd refused
  starts_unjudgeable plain Io refused = absurd refused

  pub kind_unjudgeable : IsSingle a → HasNoClashBeforeUndecided a → (e : Refusal) → IsNotParity (HasParityKind a → ⊥) e → IsPosingRefusal a e
  kind_unjudgeable single none (Task fault) refused = subst (IsJudgingFault a) (sym refused.0) (no_kind single none refused.1)
  kind_unjudgeable single none Memory refused = absurd refused
  kind_unjudgeable single none (Text fault) refused = absurd refused
  kind_unjudgeable single none (Game fault) refused = absurd refused
  kind_unjudgeable single none (Circuit fault) refused = absurd refused
  kind_unjudgeable single none (Automaton fault) refused = absurd refused
  kind_unjudgeable single none Io refused = absurd refused

  -- two edges at one letter, or want of memory
  pub decided_unjudgeable : IsSingle a → (e : Refusal) → AreUnjudged a e → is_undecided e ≡ false → IsPosingRefusal a e
  decided_unjudgeable single (Task fault) refused decided = go refused
    where
      go : IsStatesFault a fault → IsJudgingFault a fault
      go (inl (state, is, first)) = subst (IsJudgingFault a) (sym is) (clash state single first)
      go (inr first) = elim first.undecided [
        | inl wide ↦ absurd (true≢false (sym (ap (λ (f : TaskFault). is_undecided (Task f)) wide.0) ∙ decided))
        | inr large ↦ absurd (true≢false (sym (ap (λ (f : TaskFault). is_undecided (Task f)) large.0) ∙ decided))
      ]
  decided_unjudgeable single Memory refused decided = tt
  decided_unjudgeable single (Text fault) refused decided = absurd refused
  decided_unjudgeable single (Game fault) refused decided = absurd refused
  decided_unjudgeable single (Circuit fault) refused decided = absurd refused
  decided_unjudgeable single (Automaton fault) refused decided = absurd refused
  decided_unjudgeable single Io refused decided = absurd refused

  -- labels that are not judged
  pub is_first_undecided : (e : Refusal) → AreUnjudged a e → is_undecided e ≡ true → (fault : TaskFault) × (e ≡ Task fault) × IsFirstUndecided a fault
  is_first_undecided (Task fault) refused told = go refused
    where
      go : IsStatesFault a fault → (other : TaskFault) × (Task fault ≡ Task other) × IsFirstUndecided a other
      go (inl (state, is, first)) = absurd (true≢false (sym told ∙ ap (λ (f : TaskFault). is_undecided (Task f)) is))
      go (inr first) = (fault, refl, first)
  is_first_undecided Memory refused told = absurd (true≢false (sym told))
  is_first_undecided (Text fault) refused told = absurd refused
  is_first_undecided (Game fault) refused told = absurd refused
  is_first_undecided (Circuit fault) refused told = absurd refused
  is_first_undecided (Automaton fault) refused told = absurd refused
  is_first_undecided Io refused told = absurd refused

  pub kind_judgeable : (r : Result ParityKind Refusal) → IsDeterministic a → IfOk r (λ kind. HasKind a (kinds.Parity kind)) → OnOk r (IsJudgeable a)
  kind_judgeable (Ok kind) deterministic has = record { deterministic = deterministic; parity = (kind, has) }
  kind_judgeable (Err e) deterministic has = tt

module _ (a : Description) (controlled : List ℕ) where
  pub unjudgeable_unparted : (e : Refusal) → IsPosingRefusal a e → IsPartingRefusal a controlled e
  unjudgeable_unparted (Task fault) refused = unjudged fault refused
  unjudgeable_unparted Memory refused = refused
  unjudgeable_unparted (Text fault) refused = absurd refused
  unjudgeable_unparted (Game fault) refused = absurd refused
  unjudgeable_unparted (Circuit fault) refused = absurd refused
  unjudgeable_unparted (Automaton fault) refused = absurd refused
  unjudgeable_unparted Io refused = absurd refused

  pub unmade_unparted : IsPosed a → (e : Refusal) → IsRoundsOfRefusal a controlled e → IsPartingRefusal a controlled e
  unmade_unparted posed (Game fault) refused = (posed, subst (IsSizeFault a controlled) (sym refused.0) (many_nodes a controlled refused.1))
  unmade_unparted posed (Circuit fault) refused = absurd refused
  unmade_unparted posed (Task fault) refused = unmade fault posed refused
  unmade_unparted posed Memory refused = refused
  unmade_unparted posed (Text fault) refused = absurd refused
  unmade_unparted posed (Automaton fault) refused = absurd refused
  unmade_unparted posed Io refused = absurd refused

  pub unparted_unrealized : (budget : ℕ) (e : Refusal) → IsPartingRefusal a controlled e → IsRealizabilityRefusal a controlled budget e
  unparted_unrealized budget (Game fault) refused = refused
  unparted_unrealized budget (Circuit fault) refused = refused
  unparted_unrealized budget (Task fault) refused = inl refused
  unparted_unrealized budget Memory refused = refused
  unparted_unrealized budget (Text fault) refused = absurd refused
  unparted_unrealized budget (Automaton fault) refused = absurd refused
  unparted_unrealized budget Io refused = absurd refused

  pub undecided_unrealized : {X : Type 0} (budget : ℕ) (r : Result X Refusal) → IfErr r (IsOutcomeRefusalOf a controlled budget)
      → IfErr r (IsRealizabilityRefusal a controlled budget)
  undecided_unrealized budget (Ok x) refused = tt
  undecided_unrealized budget (Err (Game fault)) refused = refused
  undecided_unrealized budget (Err (Circuit fault)) refused = refused
  undecided_unrealized budget (Err (Task fault)) refused = inr refused
  undecided_unrealized budget (Err Memory) refused = refused
  undecided_unrealized budget (Err (Text fault)) refused = absurd refused
  undecided_unrealized budget (Err (Automaton fault)) refused = absurd refused
  undecided_unrealized budget (Err Io) refused = absurd refused

  module _ (rounds : Rounds) (letters : List (List ℕ)) (start budget : ℕ) where
    pub rounds_undecided : (e : Refusal) → IsParted a controlled rounds letters start → IsJudgeable a → IsOutcomeRefusal rounds start budget e
        → IsOutcomeRefusalOf a controlled budget e
    rounds_undecided (Game fault) parted judgeable hard = large a controlled rounds letters start parted judgeable fault hard
    rounds_undecided (Circuit fault) parted judgeable hard = absurd hard
    rounds_undecided (Task fault) parted judgeable hard = record { rounds = rounds; letters = letters; start = start; parted = parted; is = hard }
    rounds_undecided Memory parted judgeable hard = hard
    rounds_undecided (Text fault) parted judgeable hard = absurd hard
    rounds_undecided (Automaton fault) parted judgeable hard = absurd hard
    rounds_undecided Io parted judgeable hard = absurd hard

    -- runs in the game of the rounds are runs in a game of rounds of the automaton
    pub lifts_parted : IsParted a controlled rounds letters start → (refusal : Option Refusal) (nodes : List Node) (players : List Player)
        → LiftsRounds rounds refusal nodes players → LiftsParted a controlled refusal nodes players
    lifts_parted parted refusal nodes players lifted =
        record { rounds = rounds; letters = letters; start = start; parted = parted; is = lifted }

  pub parted_refused : (refusal : Refusal) → refusal ≢ Task Budget → (nodes : List Node) (players : List Player)
      → LiftsParted a controlled None nodes players → LiftsParted a controlled (Some refusal) nodes players
  parted_refused refusal other nodes players lifted = record {
    rounds = lifted.rounds;
    letters = lifted.letters;
    start = lifted.start;
    parted = lifted.parted;
    is = (lifted.is.0, lifted_refused refusal other players lifted.is.1);
  }

  pub lifts_refused : (refusal : Refusal) → refusal ≢ Task Budget → (nodes : List Node) (players : List Player)
      → LiftsAutomaton a controlled None nodes players → LiftsAutomaton a controlled (Some refusal) nodes players
  lifts_refused refusal other nodes players (inl none) = inl none
  lifts_refused refusal other nodes players (inr lifted) = inr (parted_refused refusal other nodes players lifted)

  -- before there are rounds no budget is used up
  judging_spares : (fault : TaskFault) → IsJudgingFault a fault → fault ≡ Budget → ⊥
  judging_spares fault (branches is) e = cc
  judging_spares fault (second_start state plain second) e = cc
  judging_spares fault (clash state single first) e = cc
  judging_spares fault (no_kind single none nothing) e = cc
  judging_spares fault (undecided other single first kind) e = elim first.undecided [
    | inl wide ↦ (let is = wide.0 in cc)
    | inr large ↦ (let is = large.0 in cc)
  ]

  making_spares : (fault : TaskFault) → IsMakingFault a controlled fault → fault ≡ Budget → ⊥
  making_spares fault making e = elim making.asking [
    | inl wide ↦ (let is = wide.0 in cc)
    | inr some ↦ elim some.1.5 [
      | inl deep ↦ (let is = deep.0 in cc)
      | inr hard ↦ (let is = hard.0 in cc)
    ]
  ]

  parting_spares : (fault : TaskFault) → IsPartingFault a controlled fault → fault ≡ Budget → ⊥
  parting_spares fault (unjudged other is) e = judging_spares other is e
  parting_spares fault (unmade other posed is) e = making_spares other is e

  pub unparted_spares : IsPartingRefusal a controlled (Task Budget) → ⊥
  unparted_spares refused = parting_spares Budget refused refl

  -- without a start no run is made
  pub unlifted : {L : Type 0} (tells : _) (every budget : ℕ) (observer : L) → a.starts ≡ []
      → IsObserved (LiftsAutomaton a controlled) None tells every budget observer observer
  unlifted tells every budget observer none = record {
    nodes = [];
    players = [];
    runs = inr (inl (none, refl));
    reported = refl;
  }
