-- The digits that are counted are digits.
use Rattle.std.proofs.Common.{◌-◌, ℕ, List, length, take, drop, sym, subst}
use Rattle.std.specs.List.{AllPass}
use Rattle.omega_aiger.proofs.Splits.{front_passes}
use Rattle.omega_text.specs.Bytes.{is_digit}
use Rattle.omega_aiger.proofs.number.number_at.Goals as goal

pub number_of-requires-clause-digits : goal.number_of-requires-clause-digits
number_of-requires-clause-digits c =
    let rest : List ℕ = take (length c.args.text.now - c.args.at) (drop c.args.at c.args.text.now) in
    subst (λ n. AllPass is_digit (take n rest)) (sym c.digit_count-count.ensures) (front_passes is_digit rest)
