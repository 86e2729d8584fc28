-- The whole run of digits is the longest form, and is a number or none.
use Rattle.std.proofs.Common.{◌≡◌, length, get_or, take, refl, sym, subst, ◌∙◌, arith, length-take-le}
use Rattle.std.proofs.lemmas.List.{get_or-take}
use Rattle.omega_text.specs.Forms.{IsDigits}
use Rattle.omega_text.specs.pg.Forms.{IsLongest, IsNoToken}
use Rattle.omega_text.proofs.pg_texts.Longest.{longest_digits}
use Rattle.omega_text.proofs.pg_texts.Numbers.{front_value, needless_zero, too_great}
use Rattle.omega_text.proofs.pg.token.first_number.Goals as goal
use Rattle.omega_text.proofs.pg.token.first_number.Goals.{After-front_digits-count, then-has_needless_zero-via-then-has_needless_zero, then-has_needless_zero-via-else-has_needless_zero+then-value}

-- the digits that were counted are the longest form
counted : (c : After-front_digits-count) → IsLongest c.args.bytes.now c.front_digits-count.result.0 × IsDigits (take c.front_digits-count.result.0 c.args.bytes.now)
counted c = subst (λ count. IsLongest c.args.bytes.now count × IsDigits (take count c.args.bytes.now)) (sym c.front_digits-count.ensures.count) (longest_digits c.args.bytes.now c.requires.some c.requires.digit)

-- as many as were counted
long : (c : After-front_digits-count) → length (take c.front_digits-count.result.0 c.args.bytes.now) ≡ c.front_digits-count.result.0
long c = length-take-le c.front_digits-count.result.0 c.args.bytes.now (counted c).0.within

-- and they begin as the bytes do
first : (c : After-front_digits-count) → get_or (take c.front_digits-count.result.0 c.args.bytes.now) 0 0 ≡ get_or c.args.bytes.now 0 0
first c = let some = (counted c).1.0 in let count = long c in get_or-take c.front_digits-count.result.0 c.args.bytes.now 0 0 (omega (arith, some, count))

pub returns-then-has_needless_zero-clause-fault : goal.returns-then-has_needless_zero-clause-fault
returns-then-has_needless_zero-clause-fault c =
    let after = (goal.at.returns-then-has_needless_zero-clause-fault c).After-front_digits-count in
    let front = counted after in
    let count = c.front_digits-count.result.0 in
    let text = take count c.args.bytes.now in
    let wrong : IsNoToken text = elim c.then-has_needless_zero.branch [
      | then-has_needless_zero-via-then-has_needless_zero w ↦
          needless_zero text front.1 (first after ∙ w.if-has_needless_zero.ensures.0) (omega (arith, long after, w.if-has_needless_zero.ensures.1))
      | then-has_needless_zero-via-else-has_needless_zero+then-value w ↦ too_great text front.1 (c.front_digits-count.ensures.great (omega (arith, w.if-value.true)))
    ] in
    (refl, record { count = count; longest = front.0; digits = front.1; wrong = wrong })

pub returns-clause-form : goal.returns-clause-form
returns-clause-form c =
    let after = (goal.at.returns-clause-form c).After-front_digits-count in
    let front = counted after in
    record {
      longest = front.0;
      spells = (
        omega (arith, c.if-value.false),
        front_value (take c.front_digits-count.result.0 c.args.bytes.now) c.front_digits-count.result.1 front.1
            (λ zero_first. omega (arith, long after, c.if-has_needless_zero.ensures (sym (first after) ∙ zero_first)))
            (c.front_digits-count.ensures.value (omega (arith, c.if-value.false))) (omega (arith, c.if-value.false)),
      );
    }
