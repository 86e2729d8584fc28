-- its parts are the line
use Rattle.std.proofs.Common.{◌≡◌, ◌++◌, ℕ, List, codes, map, ap, ◌∙◌, arith}
use Rattle.std.specs.List.{flat_map}
use Rattle.std.proofs.lemmas.List.{take_all}
use Rattle.omega_canon.proofs.Lines.{following}
use Rattle.omega_canon.specs.HeaderText.{value_part}
use Rattle.omega_hoa_syntax.specs.declared.header_value.HeaderValue.TheVariants as value
use Rattle.omega_synth_text.proofs.header.write_controllable.Goals as goal

pub returns-clause-text : goal.returns-clause-text
returns-clause-text c =
    let values : List ℕ = flat_map value_part (map value.Number c.args.controlled.now) in
    let written : c.loop-number.out.items ≡ c.extend_from_slice.new.self.items ++ values =
    c.loop-number.invariant
    ∙ ap (λ (numbers : List ℕ). c.extend_from_slice.new.self.items ++ flat_map value_part (map value.Number numbers))
    (take_all c.loop-number.number-index c.args.controlled.now (omega (arith, c.loop-number-test.false))) in
    following c.args.out.now.items (codes "controllable-AP:") _ c.in_ok-extend_from_slice.ensures.items
    (following c.extend_from_slice.new.self.items values (codes "\n") written c.in_ok-push-2.ensures.items)
