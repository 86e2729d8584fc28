-- A judgement is `Controls` exactly for a controller.
use Rattle.std.proofs.Common.{◌≡◌, refl}
use Rattle.omega_synth_game.specs.RoundsOf.{holds_in}
use Rattle.omega_lang_intersection.specs.declared.answer.Example.{Example}
use Rattle.omega_synth_check.specs.declared.judgement.Lack.{Lack}
use Rattle.omega_synth_formula.specs.Laws.{FormulaJudgementsAreExact}
use Rattle.omega_synth_formula.specs.declared.judgement.FormulaJudgement.TheVariants.{Controls, NoStart, NotSatisfied, Unanswered}

none_controls : NoStart ≡ Controls → ⊥
none_controls is = cc

lack_controls : (lack : Lack) → Unanswered lack ≡ Controls → ⊥
lack_controls lack is = cc

word_controls : (example : Example) → NotSatisfied example ≡ Controls → ⊥
word_controls example is = cc

pub judgements_are_exact : FormulaJudgementsAreExact
judgements_are_exact omniscience formula controller controlled Controls right =
    (λ is. record { answers = right.0; satisfying = right.1 omniscience }, λ for. refl)
judgements_are_exact omniscience formula controller controlled NoStart right =
    (λ is. absurd (none_controls is), λ for. absurd (right for.answers.begins.0 for.answers.begins.1))
judgements_are_exact omniscience formula controller controlled (Unanswered lack) right = (
  λ is. absurd (lack_controls lack is),
  λ for. absurd (right.unanswered (for.answers.answered lack.state (holds_in lack.letter)
      (record { start = right.start; begins = right.begins; numbers = lack.stem; leads = right.leads }))),
)
judgements_are_exact omniscience formula controller controlled (NotSatisfied example) right = (
  λ is. absurd (word_controls example is),
  λ for. absurd (right.1.wanted.not_satisfied (for.satisfying right.1.word right.1.wanted.accepted)),
)
