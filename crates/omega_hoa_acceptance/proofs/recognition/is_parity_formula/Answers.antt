-- An end that differs shows another formula; without both ends the rest is compared.
use Rattle.std.proofs.Common.{◌≡◌, ◌-◌, suc, arith}
use Rattle.std.proofs.lemmas.Bool.{false≢true}
use Rattle.omega_hoa_acceptance.proofs.ChainLemmas.{chain-middle, chain-unended}
use Rattle.omega_hoa_acceptance.proofs.recognition.is_parity_formula.Goals as goal

pub returns-in_default-without_last : goal.returns-in_default-without_last
returns-in_default-without_last c =
    let fewer : suc (c.loop-following.following - 1) ≡ c.loop-following.following = omega arith in (
      λ holds. absurd (false≢true holds),
      λ same. absurd (chain-unended c.args.kind.order c.args.kind.parity c.args.kind.count c.loop-following.following _ _ _ _ _ fewer c.in-Some.ensures.some c.in_default-without_last.ensures.none c.joining_of.ensures (c.loop-following.invariant.same.0 same)),
    )

pub loop-following-preserved : goal.loop-following-preserved
loop-following-preserved c =
    let fewer : suc (c.loop-following.following - 1) ≡ c.loop-following.following = omega arith in
    let step = chain-middle c.args.kind.order c.args.kind.parity c.args.kind.count c.loop-following.following _ _ _ _ _ _ fewer c.in-Some.ensures.some c.in-Some-without_last.ensures.some c.atom_of.ensures c.joining_of.ensures in
    record {
      within = omega (arith, c.loop-following.invariant.within);
      same = (λ same. step.0 (c.loop-following.invariant.same.0 same), λ same. c.loop-following.invariant.same.1 (step.1 same));
    }
