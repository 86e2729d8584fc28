-- one name more, and all of them
use Rattle.std.proofs.Common.{◌<◌, [], ℕ, List, length, ap, ◌∙◌, arith}
use Rattle.std.specs.List.{list_any}
use Rattle.std.specs.Str.{bytes_eq}
use Rattle.std.proofs.lemmas.List.{get_or_read, take_all}
use Rattle.omega_answers_synth.specs.Outputs.{names_without}
use Rattle.omega_answers_synth.proofs.GivenOutputs.{left_more}
use Rattle.omega_answers_synth.proofs.outputs.names_without.Goals as goal

pub loop-name-preserved : goal.loop-name-preserved
loop-name-preserved c =
    let names : List (List ℕ) = c.args.names.now in
    let k : ℕ = c.loop-name.name-index in
    let below : k < length names = omega (arith, c.loop-name-test.true) in
    left_more c.args.others.now names k c.name-item.result c.loop-name.left.items _ c.is_name_among.result below (get_or_read names k c.name-item.result below c.name-item.is [])
    (c.is_name_among.ensures ∙ ap (λ (n : List ℕ). list_any (bytes_eq n) c.args.others.now) c.as_slice.ensures) c.loop-name.invariant c.in_ok-push_unless.ensures.names

pub returns-clause-names : goal.returns-clause-names
returns-clause-names c =
    c.loop-name.invariant ∙ ap (names_without c.args.others.now) (take_all c.loop-name.name-index c.args.names.now (omega (arith, c.loop-name-test.false)))
