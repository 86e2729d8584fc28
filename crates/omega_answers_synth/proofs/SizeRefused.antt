-- What is refused for the size of its game is not answered.
use Rattle.std.proofs.Common.{◌≡◌, ◌⊎◌, ℕ, List, inl, inr, subst}
use Rattle.omega_text.specs.declared.refusal.Refusal.TheVariants.{Game}
use Rattle.omega_text.specs.declared.refusal.game.GameFault.{GameFault}
use Rattle.omega_hoa_automaton.specs.Automaton.{Description}
use Rattle.omega_synth_controllers.specs.Controllable.{IsControlled, IsStated}
use Rattle.omega_hoa.specs.Alone.{IsAutomatonRefusal, IsAutomatonText}
use Rattle.omega_hoa.specs.Laws.{AutomataAreOne, AutomataAreUnrefused, RefusalsAreOne}
use Rattle.omega_synth_realize.specs.Laws.{LargeGamesAreNotDecided}
use Rattle.omega_synth_realize.specs.Refusing.{HasNoLargeGame, IsLargeFault}
use Rattle.omega_answers_synth.specs.Game.{IsUngamedAutomaton}
use Rattle.omega_answers_synth.specs.Laws.{IsRefusedForSize, SizeRefusalsExcludeAnswers}
use Rattle.omega_answers_synth.specs.Refusing.{IsRefusalOfAutomaton}
use Rattle.omega_answers_synth.proofs.ControllerStated.{controlled_one}

-- the game of the automaton of the text is too large
record IsLargeText (text : List ℕ) (fault : GameFault) : Type 0 where
  a : Description
  read : IsAutomatonText text a
  controlled : List ℕ
  stated : IsStated a controlled
  large : IsLargeFault a controlled fault

module _ (one : AutomataAreOne) (unrefused : AutomataAreUnrefused) (refusals : RefusalsAreOne) (undecided : LargeGamesAreNotDecided) (text : List ℕ) where
  of_realizing : (fault : GameFault) (budget : ℕ) (a : Description) → IsAutomatonText text a → IsRefusalOfAutomaton a budget (Game fault) → IsLargeText text fault
  of_realizing fault budget a read (inl item) = absurd item
  of_realizing fault budget a read (inr asked) =
      record { a = a; read = read; controlled = asked.controlled; stated = asked.stated; large = asked.refused }

  of_game : (fault : GameFault) (a : Description) → IsAutomatonText text a → IsUngamedAutomaton a (Game fault) → IsLargeText text fault
  of_game fault a read (inl item) = absurd item
  of_game fault a read (inr asked) =
      record { a = a; read = read; controlled = asked.controlled; stated = asked.stated; large = asked.refused }

  -- a text that is refused for its size has no automaton, or a game that is too large
  refused_so : (fault : GameFault) → IsRefusedForSize text fault → IsAutomatonRefusal text (Game fault) ⊎ IsLargeText text fault
  refused_so fault (inl (budget, inl unread)) = inl unread
  refused_so fault (inl (budget, inr item)) = inr (of_realizing fault budget item.automaton item.read item.holds)
  refused_so fault (inr (inl unread)) = inl unread
  refused_so fault (inr (inr item)) = inr (of_game fault item.automaton item.read item.holds)

  -- that of its automaton, with the propositions that this states
  large_here : (fault : GameFault) (a : Description) (controlled : List ℕ) → IsAutomatonText text a → IsStated a controlled → IsRefusedForSize text fault
      → IsLargeFault a controlled fault
  large_here fault a controlled read stated refused = elim (refused_so fault refused) [
    | inl unread ↦ absurd (unrefused text a (Game fault) read unread)
    | inr of_text ↦
        let same : of_text.a ≡ a = one text of_text.a a of_text.read read in
        let numbers : of_text.controlled ≡ controlled =
        controlled_one a of_text.controlled controlled (subst (λ (d : Description). IsControlled d of_text.controlled) same of_text.stated.controlled) stated.controlled in
        subst (λ (n : List ℕ). IsLargeFault a n fault) numbers (subst (λ (d : Description). IsLargeFault d of_text.controlled fault) same of_text.large)
  ]

  none_small : (fault : GameFault) (a : Description) (controlled : List ℕ) → IsAutomatonText text a → IsStated a controlled → IsRefusedForSize text fault
      → HasNoLargeGame a controlled → ⊥
  none_small fault a controlled read stated refused small =
      (undecided a controlled fault (large_here fault a controlled read stated refused)).unanswered small

  only_one : (fault other : GameFault) → IsRefusedForSize text fault → IsRefusedForSize text other → fault ≡ other
  only_one fault other refused also = elim (refused_so fault refused) [
    | inl unread ↦ elim (refused_so other also) [
      | inl too ↦ (let same : Game fault ≡ Game other = refusals text (Game fault) (Game other) unread too in cc)
      | inr of_text ↦ absurd (unrefused text of_text.a (Game fault) of_text.read unread)
    ]
    | inr of_text ↦
        (undecided of_text.a of_text.controlled fault of_text.large).only other
        (large_here other of_text.a of_text.controlled of_text.read of_text.stated also)
  ]

pub size_refusals_exclude_answers : AutomataAreOne → AutomataAreUnrefused → RefusalsAreOne → LargeGamesAreNotDecided → SizeRefusalsExcludeAnswers
size_refusals_exclude_answers one unrefused refusals undecided text fault refused =
    let nothing = none_small one unrefused refusals undecided text fault in (
      λ exit output answer. nothing answer.automaton answer.holds.controlled answer.read answer.holds.stated refused answer.holds.small,
      λ exit output answer. nothing answer.automaton answer.holds.controlled answer.read answer.holds.stated refused answer.holds.small,
      λ output answer.
          (let game = answer.holds.game in nothing answer.automaton game.controlled answer.read game.stated refused game.small),
      λ other also. only_one one unrefused refusals undecided text fault other refused also,
    )
