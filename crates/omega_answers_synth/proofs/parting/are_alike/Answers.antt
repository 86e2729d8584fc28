-- the propositions of the next name, and all of them
use Rattle.std.proofs.Common.{refl, sym, ◌∙◌, arith}
use Rattle.std.proofs.lemmas.Bool.{false≢true}
use Rattle.omega_answers_synth.proofs.Alike.{names_all, names_broken, names_next}
use Rattle.omega_answers_synth.proofs.parting.are_alike.Goals as goal

pub returns-then-not-is_alike : goal.returns-then-not-is_alike
returns-then-not-is_alike c = (
  λ no. absurd (false≢true no),
  λ alike.
      absurd (names_broken c.args.ones.now c.args.others.now c.args.controlled.now c.args.also_controlled.now c.loop-p.p c.index-ones-p.result c.as_slice.result.now c.is_listed.result
      (omega (arith, c.loop-p-test.true)) c.index-ones-p.is c.as_slice.ensures c.is_listed.ensures
      (λ same. false≢true (sym c.if-not-is_alike.true ∙ c.is_alike.ensures.1 same)) alike),
)

pub loop-p-preserved : goal.loop-p-preserved
loop-p-preserved c =
    names_next c.args.ones.now c.args.others.now c.args.controlled.now c.args.also_controlled.now c.loop-p.p c.index-ones-p.result c.as_slice.result.now c.is_listed.result
    (omega (arith, c.loop-p-test.true)) c.index-ones-p.is c.as_slice.ensures c.is_listed.ensures (c.is_alike.ensures.0 c.if-not-is_alike.false) c.loop-p.invariant

pub returns : goal.returns
returns c = (
  λ yes. names_all c.args.ones.now c.args.others.now c.args.controlled.now c.args.also_controlled.now c.loop-p.p (omega (arith, c.loop-p-test.false)) c.loop-p.invariant,
  λ alike. refl,
)
