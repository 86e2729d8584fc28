-- one proposition more
use Rattle.std.proofs.Common.{Bool, cond, not, [], ◌∷◌, ◌++◌, ap, ◌∙◌}
use Rattle.omega_graph.specs.Graph.{listed}
use Rattle.omega_synth_text.proofs.Ranges.{push_range}
use Rattle.omega_synth_text.proofs.letters.inputs_of.Goals as goal

pub loop-p-preserved : goal.loop-p-preserved
loop-p-preserved c =
    c.in_ok-push_if.ensures.numbers
    ∙ ap (λ (flag : Bool). c.loop-p.inputs.items ++ cond (not flag) (c.loop-p.p ∷ []) []) c.is_listed.ensures
    ∙ push_range (λ p. not (listed c.args.controlled.now p)) c.loop-p.p c.loop-p.inputs.items c.loop-p.invariant
