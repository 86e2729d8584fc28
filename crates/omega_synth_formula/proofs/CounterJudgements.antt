-- A judgement is `Beats` exactly for a counter-strategy.
use Rattle.std.proofs.Common.{◌≡◌, refl}
use Rattle.omega_lang_intersection.specs.declared.answer.Example.{Example}
use Rattle.omega_synth_formula.specs.CounterLaws.{FormulaCounterJudgementsAreExact}
use Rattle.omega_synth_formula.specs.declared.counter.FormulaCounterJudgement.TheVariants.{Beats, NoLetter, NoStart, Satisfying}
use Rattle.omega_synth_formula.specs.declared.counter.LetterlessState.{LetterlessState}

none_beats : NoStart ≡ Beats → ⊥
none_beats is = cc

state_beats : (letterless : LetterlessState) → NoLetter letterless ≡ Beats → ⊥
state_beats letterless is = cc

word_beats : (example : Example) → Satisfying example ≡ Beats → ⊥
word_beats example is = cc

pub counter_judgements_are_exact : FormulaCounterJudgementsAreExact
counter_judgements_are_exact omniscience formula strategy controlled Beats right =
    (λ is. record { begins = right.0; follows = right.1; refused = right.2 omniscience }, λ for. refl)
counter_judgements_are_exact omniscience formula strategy controlled NoStart right =
    (λ is. absurd (none_beats is), λ for. absurd (right for.begins.0 for.begins.1))
counter_judgements_are_exact omniscience formula strategy controlled (NoLetter letterless) right = (
  λ is. absurd (state_beats letterless is),
  λ for. absurd (right.none (for.follows letterless.state (record { start = right.start; begins = right.begins; numbers = letterless.stem; leads = right.leads }))),
)
counter_judgements_are_exact omniscience formula strategy controlled (Satisfying example) right = (
  λ is. absurd (word_beats example is),
  λ for. absurd (for.refused right.2.word right.2.wanted.accepted right.2.wanted.satisfied),
)
