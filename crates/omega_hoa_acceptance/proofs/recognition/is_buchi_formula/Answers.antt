-- An end that differs shows another formula; without both ends the rest is compared.
use Rattle.std.proofs.Common.{◌≡◌, ◌-◌, suc, arith}
use Rattle.std.proofs.lemmas.Bool.{false≢true}
use Rattle.omega_hoa_acceptance.proofs.ChainLemmas.{buchi-front, buchi-unended, buchi-unmarked}
use Rattle.omega_hoa_acceptance.proofs.recognition.is_buchi_formula.Goals as goal

pub returns-in_default : goal.returns-in_default
returns-in_default c =
    let fewer : suc (c.loop-set.set - 1) ≡ c.loop-set.set = omega arith in (
      λ holds. absurd (false≢true holds),
      λ same. absurd (buchi-unended c.loop-set.set _ _ fewer c.in_default.ensures.none (c.loop-set.invariant.same.0 same)),
    )

pub returns-in_default-without_last : goal.returns-in_default-without_last
returns-in_default-without_last c =
    let fewer : suc (c.loop-set.set - 1) ≡ c.loop-set.set = omega arith in (
      λ holds. absurd (false≢true holds),
      λ same. absurd (buchi-unmarked c.loop-set.set _ _ _ fewer c.in-Some.ensures.some c.in_default-without_last.ensures.none (c.loop-set.invariant.same.0 same)),
    )

pub loop-set-preserved : goal.loop-set-preserved
loop-set-preserved c =
    let fewer : suc (c.loop-set.set - 1) ≡ c.loop-set.set = omega arith in
    let step = buchi-front c.loop-set.set _ _ _ _ fewer c.in-Some.ensures.some c.in-Some-without_last.ensures.some in
    record {
      within = omega (arith, c.loop-set.invariant.within);
      same = (λ same. step.0 (c.loop-set.invariant.same.0 same), λ same. c.loop-set.invariant.same.1 (step.1 same));
    }
