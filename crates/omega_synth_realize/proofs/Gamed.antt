-- Games of rounds: how many nodes they have, and their refusals.
use Rattle.std.proofs.Common.{◌≡◌, ℕ, List, length, map, Result, Ok, Err, sym, subst, arith}
use Rattle.std.specs.Prelude.{IfErr, IsOkUnless}
use Rattle.std.proofs.lemmas.List.{length-map}
use Rattle.std.proofs.lemmas.List.FromFn.{length-map-range_with_len}
use Rattle.std.proofs.lemmas.List.Sorted.{length_permutation}
use Rattle.omega_text.specs.declared.refusal.Refusal.{Refusal}
use Rattle.omega_text.specs.declared.refusal.Refusal.TheVariants.{Automaton, Circuit, Game, Io, Memory, Task, Text}
use Rattle.omega_text.specs.declared.refusal.game.GameFault.{GameFault}
use Rattle.omega_text.specs.declared.refusal.game.GameFault.TheVariants.{DuplicateNode, HeaderTooSmall, TooManyEdges, TooManyNodes, UndefinedSuccessor}
use Rattle.omega_hoa_automaton.specs.Automaton.{Description}
use Rattle.omega_game_values.specs.Building.{specified, with_name}
use Rattle.omega_game_values.specs.Game.{Node}
use Rattle.omega_synth_rounds.specs.Naming.{IsNamedGame, named_table}
use Rattle.omega_synth_rounds.specs.Rounds.{IsRounds}
use Rattle.omega_synth_rounds.specs.RoundsGame.{IsRoundsFault, IsRoundsRefusal, node_count, node_for}
use Rattle.omega_synth_rounds.specs.declared.rounds.Rounds.{Rounds}
use Rattle.omega_synth_game.specs.Laws.{IsParted}
use Rattle.omega_synth_realize.specs.Gaming.{IsRealizabilityGameRefusal, no_rounds}
use Rattle.omega_synth_realize.specs.Refusing.{IsJudgeable, IsPartingRefusal}
use Rattle.omega_synth_realize.proofs.Sized.{large}

-- the game has a node for each place
pub named_count : (rounds : Rounds) (game : List Node) → IsNamedGame rounds game → length game ≡ node_count rounds
named_count rounds game named =
    omega (
      arith,
      length_permutation (named_table named.names rounds) (map (specified game) game) named.game_is.rearranged,
      length-map game (specified game),
      length-map-range_with_len (λ place. with_name (named.names place) (node_for rounds place)) 0 (node_count rounds),
    )

module _ (a : Description) (controlled : List ℕ) where
  pub unparted_ungamed : (e : Refusal) → IsPartingRefusal a controlled e → IsRealizabilityGameRefusal a controlled e
  unparted_ungamed (Game fault) refused = refused
  unparted_ungamed (Circuit fault) refused = refused
  unparted_ungamed (Task fault) refused = refused
  unparted_ungamed Memory refused = refused
  unparted_ungamed (Text fault) refused = absurd refused
  unparted_ungamed (Automaton fault) refused = absurd refused
  unparted_ungamed Io refused = absurd refused

  pub rounds_ungamed : (rounds : Rounds) (letters : List (List ℕ)) (start : ℕ) → IsParted a controlled rounds letters start → IsJudgeable a
      → (e : Refusal) → IsRoundsRefusal rounds e → IsRealizabilityGameRefusal a controlled e
  rounds_ungamed rounds letters start parted judgeable (Game fault) refused = large a controlled rounds letters start parted judgeable fault refused
  rounds_ungamed rounds letters start parted judgeable (Circuit fault) refused = absurd refused
  rounds_ungamed rounds letters start parted judgeable Memory refused = refused
  rounds_ungamed rounds letters start parted judgeable (Text fault) refused = absurd refused
  rounds_ungamed rounds letters start parted judgeable (Automaton fault) refused = absurd refused
  rounds_ungamed rounds letters start parted judgeable (Task fault) refused = absurd refused
  rounds_ungamed rounds letters start parted judgeable Io refused = absurd refused

  none_faultless : (fault : GameFault) → IsRoundsFault no_rounds fault → ⊥
  none_faultless TooManyNodes many = omega (arith, many)
  none_faultless TooManyEdges many = omega (arith, many.1)
  none_faultless DuplicateNode is = is
  none_faultless UndefinedSuccessor is = is
  none_faultless HeaderTooSmall is = is

  pub none_ungamed : {X : Type 0} (r : Result X Refusal) → IfErr r (IsRoundsRefusal no_rounds) → IfErr r (IsRealizabilityGameRefusal a controlled)
  none_ungamed (Ok x) refused = tt
  none_ungamed (Err (Game fault)) refused = absurd (none_faultless fault refused)
  none_ungamed (Err (Circuit fault)) refused = absurd refused
  none_ungamed (Err Memory) refused = refused
  none_ungamed (Err (Text fault)) refused = absurd refused
  none_ungamed (Err (Automaton fault)) refused = absurd refused
  none_ungamed (Err (Task fault)) refused = absurd refused
  none_ungamed (Err Io) refused = absurd refused

pub memory_ungamed : {X : Type 0} (r : Result X Refusal) (a : Description) (controlled : List ℕ) → IsOkUnless r Memory
    → IfErr r (IsRealizabilityGameRefusal a controlled)
memory_ungamed (Ok x) a controlled memory = tt
memory_ungamed (Err e) a controlled memory = subst (IsRealizabilityGameRefusal a controlled) (sym memory) tt

pub no_rounds_are : IsRounds no_rounds
no_rounds_are = record {
  some = λ state below. absurd (omega (arith, below));
  within = λ state below. absurd (omega (arith, below));
  owned = λ question below. absurd (omega (arith, below));
  answers = λ state question number asked contains. absurd (omega (arith, asked.below));
  targets = λ number below. absurd (omega (arith, below));
  priorities = λ number below. absurd (omega (arith, below));
}
