-- one proposition more
use Rattle.std.proofs.Common.{Bool, ℕ, cond, not, [], ◌∷◌, ◌++◌, ap, ◌∙◌}
use Rattle.omega_circuit_encoder.specs.Names.{is_controlled}
use Rattle.omega_circuit_encoder.proofs.Ranges.{push_range}
use Rattle.omega_circuit_encoder.proofs.parting.propositions_of.Goals as goal

pub loop-p-preserved : goal.loop-p-preserved
loop-p-preserved c =
    let controlled : ℕ → Bool = is_controlled c.args.controlled.now in
    let test : ℕ → Bool = λ p. cond c.args.system (controlled p) (not (controlled p)) in
    c.in_ok-push_if.ensures
    ∙ ap (λ (flag : Bool). c.loop-p.numbers.items ++ cond flag (c.loop-p.p ∷ []) []) c.is_wanted.ensures
    ∙ push_range test c.loop-p.p c.loop-p.numbers.items c.loop-p.invariant
