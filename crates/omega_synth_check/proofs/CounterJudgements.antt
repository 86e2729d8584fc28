-- A judgement is `Beats` exactly for a counter-strategy.
use Rattle.std.proofs.Common.{◌≡◌, refl}
use Rattle.omega_lang_intersection.specs.declared.answer.Example.{Example}
use Rattle.omega_synth_check.specs.CounterLaws.{CounterJudgementsAreExact}
use Rattle.omega_synth_check.specs.declared.counter_judgement.CounterJudgement.TheVariants.{Beats, Common, NoLetter, NoStart}
use Rattle.omega_synth_check.specs.declared.counter_judgement.LetterlessPair.{LetterlessPair}

none_beats : NoStart ≡ Beats → ⊥
none_beats is = cc

pair_beats : (pair : LetterlessPair) → NoLetter pair ≡ Beats → ⊥
pair_beats pair is = cc

word_beats : (example : Example) → Common example ≡ Beats → ⊥
word_beats example is = cc

pub counter_judgements_are_exact : CounterJudgementsAreExact
counter_judgements_are_exact specification strategy controlled Beats right = (λ is. right, λ for. refl)
counter_judgements_are_exact specification strategy controlled NoStart right = (
  λ is. absurd (none_beats is),
  λ for. (let own = for.begins right.0.0 right.0.1 in absurd (right.1 own.0 own.1)),
)
counter_judgements_are_exact specification strategy controlled (NoLetter pair) right =
    (λ is. absurd (pair_beats pair is), λ for. absurd (right.1.none (for.follows pair.against pair.state right.1.come)))
counter_judgements_are_exact specification strategy controlled (Common example) right = (
  λ is. absurd (word_beats example is),
  λ for. absurd (for.refused right.2.word right.2.wanted.first right.2.wanted.second),
)
