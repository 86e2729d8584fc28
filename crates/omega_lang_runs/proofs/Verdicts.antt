-- Verdicts that are right of one automaton, and what `Empty` says of words.
use Rattle.std.proofs.Common.{◌≡◌, ◌↔◌, refl}
use Rattle.omega_hoa_automaton.specs.Automaton.{Description}
use Rattle.omega_lang_runs.specs.Laws.{EmptyAcceptsNoWord, VerdictsAgree}
use Rattle.omega_lang_runs.specs.Verdict.{IsVerdict}
use Rattle.omega_lang_runs.specs.declared.verdict.Verdict.{Verdict}
use Rattle.omega_lang_runs.specs.declared.verdict.Verdict.TheVariants.{Empty, Lasso}
use Rattle.omega_lang_runs.proofs.runs.Words.{accepted_words_have_lassos}

-- if one is `Empty`, so is the other
empty_too : (a : Description) (one other : Verdict) → IsVerdict a one → IsVerdict a other → one ≡ Empty → other ≡ Empty
empty_too a one Empty is other_is same = refl
empty_too a Empty (Lasso stem cycle) is other_is same = absurd (is stem cycle other_is)
empty_too a (Lasso stem cycle) (Lasso stem' cycle') is other_is same = absurd (apart same)
  where
    apart : Lasso stem cycle ≡ Empty → ⊥
    apart e = cc

pub verdicts_agree : VerdictsAgree
verdicts_agree a one other is other_is = (empty_too a one other is other_is, empty_too a other one other_is is)

pub empty_accepts_no_word : EmptyAcceptsNoWord
empty_accepts_no_word a word plain empty accepted =
    let found = accepted_words_have_lassos a word plain accepted in empty found.0 found.1.0 found.1.1
