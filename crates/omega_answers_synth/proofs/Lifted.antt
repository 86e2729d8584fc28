-- What lifting found of the automaton of a text.
use Rattle.std.proofs.Common.{◌≡◌, ℕ, List, Result, Ok, Err, IfOk, sym, subst}
use Rattle.omega_text.specs.declared.refusal.Refusal.{Refusal}
use Rattle.omega_game_values.specs.declared.player.Player.{Player}
use Rattle.omega_io.specs.declared.exit.Exit.{Exit}
use Rattle.omega_synth_realize.specs.Lifting.{IsAnswerLifted, LiftingFinds}
use Rattle.omega_synth_realize.specs.Realizing.{winner_in}
use Rattle.omega_answers_synth.specs.Observing.{IsTextLifted, winner_told}
use Rattle.omega_answers_synth.specs.private.Decided.{IsDecidedText}
use Rattle.omega_answers_synth.specs.declared.decided.Decided.{Decided}

-- two properties of a value together
pub IfOk-weaker-2 : {X : Type 0} (r : Result X Refusal) (P Q R : X → Type 0) → ((x : X) → P x → Q x → R x) → IfOk r P → IfOk r Q → IfOk r R
IfOk-weaker-2 (Ok x) P Q R both p q = both x p q
IfOk-weaker-2 (Err e) P Q R both p q = tt

pub lifted_text : (text : List ℕ) (decided : Decided) (budget : ℕ) (exit : Exit) → IsDecidedText text decided
    → IsAnswerLifted decided.question.automaton decided.question.controlled budget decided.realizability
    → winner_told exit ≡ winner_in decided.realizability → IsTextLifted text budget exit
lifted_text text decided budget exit of_text lifted told = record {
  automaton = decided.question.automaton;
  read = of_text.read;
  holds = record {
    controlled = decided.question.controlled;
    stated = of_text.decided.stated;
    found = subst (λ (player : Player). LiftingFinds decided.question.automaton decided.question.controlled budget player) (sym told) lifted;
  };
}
