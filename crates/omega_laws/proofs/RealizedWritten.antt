-- What is written as a controller: the text of the automaton of a controller's edges, which is read back.
use Rattle.std.proofs.Common.{◌≡◌, ◌≤◌, ℕ, Bool, List, length, sym, subst}
use Rattle.omega_text.specs.Limits.{most_text}
use Rattle.omega_hoa_automaton.specs.Automaton.{Description}
use Rattle.omega_canon.specs.Canonical.{canonical_automaton}
use Rattle.omega_synth_controllers.specs.Controllers.{IsController}
use Rattle.omega_answers_synth.specs.Laws.{controller_of}
use Rattle.omega_hoa.specs.Alone.{IsAutomatonText}
use Rattle.omega_answers_synth.specs.Winner.{IsControllerWritten}
use Rattle.omega_synth_text.specs.Reaching.{TellsReached}
use Rattle.omega_laws.specs.ControllerTexts.{ControllersAreReadBack}
use Rattle.omega_laws.specs.WrittenControllers.{IsWrittenController}

module _ (back : ControllersAreReadBack) (specification controller : List ℕ) (is : IsWrittenController specification controller) where
  -- the specification
  abbrev pub given : Description
  given = is.answer.automaton

  abbrev pub controlled : List ℕ
  controlled = is.answer.holds.controlled

  abbrev pub winner : IsControllerWritten given controlled controller
  winner = is.answer.holds.winner

  -- the edges of the controller
  abbrev pub kept : List ℕ
  kept = winner.kept

  pub controls : IsController given controlled kept
  controls = winner.controller

  abbrev pub reached : ℕ → Bool
  reached = winner.written.0

  pub tells : TellsReached given kept reached
  tells = winner.written.1

  -- its automaton
  abbrev pub part : Description
  part = controller_of given controlled kept reached

  pub part_read : IsAutomatonText controller part
  part_read =
      let text : controller ≡ canonical_automaton part = winner.written.2 in
      subst (λ (bytes : List ℕ). IsAutomatonText bytes part) (sym text)
      (back specification given controlled kept reached is.answer.read is.answer.holds.judgeable.deterministic.plain is.answer.holds.stated.controlled tells
      (subst (λ (bytes : List ℕ). length bytes ≤ most_text) text is.short))
