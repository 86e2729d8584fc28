-- the next proposition, and all of them
use Rattle.std.proofs.Common.{refl, sym, ◌∙◌, arith}
use Rattle.std.proofs.lemmas.Bool.{false≢true}
use Rattle.omega_answers_synth.proofs.Alike.{alike_all, alike_broken, alike_next}
use Rattle.omega_answers_synth.proofs.parting.is_alike.Goals as goal

pub returns-then-is_unlike : goal.returns-then-is_unlike
returns-then-is_unlike c = (
  λ no. absurd (false≢true no),
  λ alike.
      absurd (alike_broken c.args.name.now c.args.others.now c.args.controlled c.args.also_controlled.now c.loop-q.q c.index-others-q.result c.as_slice.result.now c.is_listed.result
      (omega (arith, c.loop-q-test.true)) c.index-others-q.is c.as_slice.ensures c.is_listed.ensures (sym c.is_unlike.ensures ∙ c.if-is_unlike.true) alike),
)

pub loop-q-preserved : goal.loop-q-preserved
loop-q-preserved c =
    alike_next c.args.name.now c.args.others.now c.args.controlled c.args.also_controlled.now c.loop-q.q c.index-others-q.result c.as_slice.result.now c.is_listed.result
    (omega (arith, c.loop-q-test.true)) c.index-others-q.is c.as_slice.ensures c.is_listed.ensures (sym c.is_unlike.ensures ∙ c.if-is_unlike.false) c.loop-q.invariant

pub returns : goal.returns
returns c = (
  λ yes. alike_all c.args.name.now c.args.others.now c.args.controlled c.args.also_controlled.now c.loop-q.q (omega (arith, c.loop-q-test.false)) c.loop-q.invariant,
  λ alike. refl,
)
