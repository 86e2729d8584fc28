-- one literal more
use Rattle.std.proofs.Common.{Bool, ◌++◌, ap, ◌∙◌, arith}
use Rattle.omega_synth_text.specs.private.Texts.{literal_bytes}
use Rattle.omega_synth_text.proofs.Literals.{valuation_step}
use Rattle.omega_synth_text.proofs.labels.write_valuation.Goals as goal

pub loop-p-preserved : goal.loop-p-preserved
loop-p-preserved c =
    valuation_step c.args.index c.loop-p.p c.args.out.now.items c.loop-p.out.items c.push-in-loop-p.new.self.items c.write_literal-in-loop-p.new.out.items
    (omega (arith, c.loop-p.auto.p)) c.loop-p.invariant c.in_ok-push-2.ensures.items
    (c.in_ok-write_literal-2.ensures.text
    ∙ ap (λ (holds : Bool). c.push-in-loop-p.new.self.items ++ literal_bytes holds c.loop-p.p) c.has_bit-in-loop-p.ensures)
