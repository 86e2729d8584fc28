-- The digits that were counted, judged.
use Rattle.std.proofs.Common.{take, refl, sym, ◌∙◌, arith, Some, length-take-le}
use Rattle.omega_text.specs.declared.hoa.kind.HoaKind.TheVariants.{Int}
use Rattle.omega_text.specs.declared.hoa.mode.Mode.TheVariants.{Digits}
use Rattle.omega_text.specs.declared.pg.kind.PgKind.TheVariants.{Number}
use Rattle.omega_text.proofs.hoa_texts.Numbers.{IsNoNumber}
use Rattle.omega_text.proofs.hoa_texts.Units.{digits_scanned, first_digits, first_fault, first_read}
use Rattle.omega_text.proofs.pg_texts.Longest.{head-take}
use Rattle.omega_text.proofs.pg_texts.Numbers.{front_value, needless_zero, too_great}
use Rattle.omega_text.proofs.hoa.unit.first_number.Goals as goal
use Rattle.omega_text.proofs.hoa.unit.first_number.Goals.{then-has_needless_zero-via-then-has_needless_zero, then-has_needless_zero-via-else-has_needless_zero+then-value}

pub returns-then-has_needless_zero-clause-fault : goal.returns-then-has_needless_zero-clause-fault
returns-then-has_needless_zero-clause-fault c =
    let bytes = c.args.bytes.now in
    let count = c.front_digits-count.result.0 in
    let is = c.front_digits-count.ensures.count in
    let text = take count bytes in
    let digits = first_digits bytes c.requires.some c.requires.digit count is in
    let scanned = digits_scanned bytes c.requires.some c.requires.digit count is in
    let long = length-take-le count bytes scanned.within in
    let wrong : IsNoNumber text = elim c.then-has_needless_zero.branch [
      | then-has_needless_zero-via-then-has_needless_zero w ↦
          needless_zero text digits (head-take count bytes (omega (arith, digits.0, long)) ∙ w.if-has_needless_zero.ensures.0) (omega (arith, long, w.if-has_needless_zero.ensures.1)) Number
      | then-has_needless_zero-via-else-has_needless_zero+then-value w ↦ too_great text digits (c.front_digits-count.ensures.great (omega (arith, w.if-value.true))) Number
    ] in
    (refl, first_fault bytes count Digits scanned digits wrong)

pub returns-clause-unit : goal.returns-clause-unit
returns-clause-unit c =
    let bytes = c.args.bytes.now in
    let count = c.front_digits-count.result.0 in
    let is = c.front_digits-count.ensures.count in
    let text = take count bytes in
    let digits = first_digits bytes c.requires.some c.requires.digit count is in
    let scanned = digits_scanned bytes c.requires.some c.requires.digit count is in
    let long = length-take-le count bytes scanned.within in
    let small = c.if-value.false in
    first_read bytes count Digits scanned (Some Int) c.front_digits-count.result.1 refl (
      omega (arith, small),
      front_value text c.front_digits-count.result.1 digits
          (λ zero_first. omega (arith, long, c.if-has_needless_zero.ensures (sym (head-take count bytes (omega (arith, digits.0, long))) ∙ zero_first)))
          (c.front_digits-count.ensures.value (omega (arith, small))) (omega (arith, small)),
    )
