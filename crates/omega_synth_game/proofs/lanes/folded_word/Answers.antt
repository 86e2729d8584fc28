-- one digit more
use Rattle.std.proofs.Common.{◌≡◌, ◌+◌, ◌-◌, ◌*◌, ◌/◌, ◌^◌, ◌≤◌, ◌∙◌, ℕ, suc, sym, ap, subst, arith, pow-suc}
use Rattle.std.specs.Prelude.{bit_or}
use Rattle.std.proofs.Math.Pow.{pow_mono}
use Rattle.std.proofs.lemmas.Nat.{pow-add}
use Rattle.omega_synth_game.specs.private.Lanes.{IsFolded}
use Rattle.omega_synth_game.proofs.Choices.{folded_more, folded_none}
use Rattle.omega_synth_game.proofs.lanes.folded_word.Goals as goal

pub loop-place-init : goal.loop-place-init
loop-place-init c =
    let inputs : ℕ = c.args.inputs in
    let none : inputs - inputs ≡ 0 = omega arith in
    let one : 1 ≡ 2 ^ (inputs - inputs) = sym (ap (λ n. 2 ^ n) none) in
    (subst (λ (shares : ℕ). IsFolded (2 ^ inputs) shares c.args.word c.args.word) one (folded_none (2 ^ inputs) c.args.word), omega arith, omega arith)

pub overflow_shr-folded : goal.overflow_shr-folded
overflow_shr-folded c =
    let low : c.loop-place.place ≤ 5 = omega (arith, c.loop-place-test.true) in
    let most : 2 ^ c.loop-place.place ≤ 2 ^ 5 = pow_mono low in
    omega (arith, most, c.letter_count.ensures)

pub loop-place-preserved : goal.loop-place-preserved
loop-place-preserved c =
    let inputs : ℕ = c.args.inputs in
    let place : ℕ = c.loop-place.place in
    let parts : place ≡ inputs + (place - inputs) = omega (arith, c.loop-place.invariant.1) in
    let by : c.letter_count.result ≡ 2 ^ inputs * 2 ^ (place - inputs) =
    c.letter_count.ensures ∙ (ap (λ n. 2 ^ n) parts ∙ pow-add 2 inputs (place - inputs)) in
    let next : place + 1 - inputs ≡ suc (place - inputs) = omega (arith, c.loop-place.invariant.1) in
    let grown : 2 ^ (place - inputs) * 2 ≡ 2 ^ (place + 1 - inputs) = sym (ap (λ n. 2 ^ n) next ∙ pow-suc 2 (place - inputs)) in (
      subst (λ (shares : ℕ). IsFolded (2 ^ inputs) shares c.args.word (bit_or c.loop-place.folded (c.loop-place.folded / 2 ^ c.letter_count.result))) grown
          (folded_more (2 ^ inputs) (2 ^ (place - inputs)) c.letter_count.result c.args.word c.loop-place.folded by c.loop-place.invariant.0),
      omega (arith, c.loop-place.invariant.1),
      omega (arith, c.loop-place-test.true, c.loop-place.invariant.1),
    )

pub returns : goal.returns
returns c =
    let inputs : ℕ = c.args.inputs in
    let place : ℕ = c.loop-place.place in
    let all : place - inputs ≡ 6 - inputs = omega (arith, c.loop-place-test.false, c.loop-place.invariant.1, c.loop-place.invariant.2) in
    subst (λ (shares : ℕ). IsFolded (2 ^ inputs) shares c.args.word c.loop-place.folded) (ap (λ n. 2 ^ n) all) c.loop-place.invariant.0
