-- Refusals of the steps are refusals of the search for a state in which the environment has no letter.
use Rattle.std.proofs.Common.{◌≡◌, ◌<◌, ℕ, List, Option, length, sym, subst}
use Rattle.omega_text.specs.declared.refusal.Refusal.{Refusal}
use Rattle.omega_text.specs.declared.refusal.task.TaskFault.{TaskFault}
use Rattle.omega_text.specs.declared.refusal.task.TaskFault.TheVariants.{TooLarge, TooManyPropositions}
use Rattle.omega_hoa_automaton.specs.Automaton.{Description}
use Rattle.omega_hoa_edges.specs.Limits.{most_states}
use Rattle.omega_lang_runs.specs.Judging.{GivesUpOn}
use Rattle.omega_synth_game.specs.Making.{AllLeave, IsAskingFault, IsQuestionsOfRefusal}
use Rattle.omega_hoa_edges.proofs.Refusals.{task_weaker}
use Rattle.omega_synth_check.specs.Judging.{IsReached}
use Rattle.omega_synth_check.specs.Refusing.{IsLetterFault, IsLetterRefusal, hard_label, many_states, not_asked}
use Rattle.omega_synth_check.specs.WaysOut.{IsWayFault, IsWayRefusal, hard_reached, many_reached, ways_not_asked}
use Rattle.omega_synth_check.specs.declared.meeting.StateEntry.{StateEntry}
use Rattle.omega_synth_check.specs.private.Meeting.{AreMet}
use Rattle.omega_synth_check.specs.private.Searching.{HaveHardEdge}
use Rattle.omega_synth_check.proofs.Reached.{all_reached}

module _ (a other : Description) (controlled : List ℕ) where
  -- a label of an edge of a state that is reached is given up
  pub hard_way_refused : (state : ℕ) (numbers : List ℕ) → IsReached a state → AllLeave a state numbers → (refusal : Refusal)
      → GivesUpOn (HaveHardEdge a numbers) refusal → IsWayRefusal a other controlled refusal
  hard_way_refused state numbers reached leave refusal refused =
      task_weaker (λ fault. (fault ≡ TooManyPropositions) × HaveHardEdge a numbers) (IsWayFault a other controlled)
      (λ fault hard. subst (IsWayFault a other controlled) (sym hard.0)
      (hard_reached (record { state = state; number = hard.1.0; reached = reached; leaving = leave hard.1.0 hard.1.1; hard = hard.1.2 }))) refusal refused

  -- the letters of the ways out of a state that is reached
  pub unasked_way_refused : (state : ℕ) (numbers : List ℕ) → IsReached a state → AllLeave other state numbers → (refusal : Refusal)
      → IsQuestionsOfRefusal other controlled numbers refusal → IsWayRefusal a other controlled refusal
  unasked_way_refused state numbers reached leave refusal refused =
      task_weaker (IsAskingFault other controlled numbers) (IsWayFault a other controlled) (λ fault asking. ways_not_asked fault state numbers reached leave asking) refusal refused

  -- too many states
  pub many_ways_refused : (states : List ℕ) (entries : List (Option StateEntry)) → AreMet a states entries → most_states < length states → IsWayFault a other controlled TooLarge
  many_ways_refused states entries met many =
      many_reached (record { states = states; distinct = met.distinct; reached = all_reached a states entries met; many = many })

-- if the ways out are edges of the automaton itself, it is a refusal of the search for a letter that is not answered
pub way_letter_refused : (a : Description) (controlled : List ℕ) (refusal : Refusal) → IsWayRefusal a a controlled refusal → IsLetterRefusal a controlled refusal
way_letter_refused a controlled refusal refused = task_weaker (IsWayFault a a controlled) (IsLetterFault a controlled) go refusal refused
  where
    go : (fault : TaskFault) → IsWayFault a a controlled fault → IsLetterFault a controlled fault
    go fault (many_reached many) = many_states many
    go fault (hard_reached hard) = hard_label hard
    go fault (ways_not_asked f state numbers reached leave asking) = not_asked f state numbers reached leave asking
