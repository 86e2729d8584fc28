-- one number more, and why a value is refused
use Rattle.std.proofs.Common.{◌≡◌, ℕ, ◌<◌, ◌≤◌, false, true, List, length, get_or, nat_eq, refl, ap, sym, ◌∙◌, arith}
use Rattle.std.specs.List.{list_any}
use Rattle.omega_hoa_syntax.specs.declared.header_value.HeaderValue.{HeaderValue}
use Rattle.omega_hoa_syntax.specs.declared.header_value.HeaderValue.TheVariants as value
use Rattle.omega_synth_controllers.proofs.Stated.{none_again, none_beyond, none_stated, stated_more}
use Rattle.omega_synth_controllers.proofs.controllable.numbers_in.Goals as goal
use Rattle.omega_synth_controllers.proofs.controllable.numbers_in.Goals.{then-number-count-via-then-number-count, then-number-count-via-else-number-count+then-contains}

pub loop-value-preserved : goal.loop-value-preserved
loop-value-preserved c =
    let values : List HeaderValue = c.args.values.now in
    let index : ℕ = c.loop-value.value-index in
    let n : ℕ = c.in-Number.number in
    let below : index < length values = omega (arith, c.loop-value-test.true) in
    let here : get_or values index c.value-item.result ≡ value.Number n = cc in
    let low : n < c.args.count = omega (arith, c.if-number-count.false) in
    let new : list_any (λ y. nat_eq y n) c.loop-value.numbers ≡ false =
    ap (λ (xs : List ℕ). list_any (λ y. nat_eq y n) xs) (sym c.as_slice.ensures) ∙ sym c.contains.ensures.value ∙ c.if-contains.false in
    rw c.in_ok-push-in-Number.ensures.ok
    (stated_more c.args.count values index c.value-item.result below c.loop-value.numbers n here low new c.loop-value.invariant)

pub returns-in_default : goal.returns-in_default
returns-in_default c =
    let values : List HeaderValue = c.args.values.now in
    let index : ℕ = c.loop-value.value-index in
    let below : index < length values = omega (arith, c.loop-value-test.true) in
    record {
      numbers = tt;
      refused = (
        refl,
        λ has. none_stated c.args.count values index c.value-item.result below
            (λ n e. c.in_default.not-Number n (c.value-item.is ∙ e)) has.0 has.1,
      );
    }

pub returns-then-number-count-clause-refused : goal.returns-then-number-count-clause-refused
returns-then-number-count-clause-refused c =
    let values : List HeaderValue = c.args.values.now in
    let index : ℕ = c.loop-value.value-index in
    let n : ℕ = c.in-Number.number in
    let below : index < length values = omega (arith, c.loop-value-test.true) in
    let here : get_or values index c.value-item.result ≡ value.Number n = cc in (
      refl,
      λ has. elim c.then-number-count.branch [
        | then-number-count-via-then-number-count w ↦
            let high : c.args.count ≤ n = omega (arith, w.if-number-count.true) in
            none_beyond c.args.count values index c.value-item.result below n here high has.0 has.1
        | then-number-count-via-else-number-count+then-contains w ↦
            let found : list_any (λ y. nat_eq y n) c.loop-value.numbers ≡ true =
            ap (λ (xs : List ℕ). list_any (λ y. nat_eq y n) xs) (sym w.as_slice.ensures) ∙ sym w.contains.ensures.value ∙ w.if-contains.true in
            none_again c.args.count values index c.value-item.result below c.loop-value.numbers n here found c.loop-value.invariant has.0 has.1
      ],
    )
