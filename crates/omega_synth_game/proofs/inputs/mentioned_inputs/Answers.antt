-- one edge more, whose inputs are appended
use Rattle.std.proofs.Common.{◌≡◌, ◌+◌, ℕ, List, length, get_or, take, sym, ap, refl, ◌∙◌, arith}
use Rattle.omega_hoa_satisfiable.specs.Satisfiable.{each_once}
use Rattle.omega_synth_game.specs.Classes.{input_mentions, mentioned_inputs, label_of_number}
use Rattle.omega_synth_game.proofs.Mentioning.{inputs_more, inputs_within}
use Rattle.omega_synth_game.proofs.inputs.mentioned_inputs.Goals as goal

pub returns-then-len-gt-MOST_MENTIONED-clause-refused : goal.returns-then-len-gt-MOST_MENTIONED-clause-refused
returns-then-len-gt-MOST_MENTIONED-clause-refused c =
    let a = c.args.automaton.now in
    let controlled : List ℕ = c.args.controlled.now in
    let numbers : List ℕ = c.args.numbers.now in
    let index : ℕ = c.loop-number.number-index in
    let number : ℕ = get_or numbers index 0 in
    let made : c.add_inputs_at.new.inputs ≡ mentioned_inputs a controlled (take (index + 1) numbers) =
    c.in_ok-add_inputs_at.ensures.inputs ∙ ap (λ list. each_once list (input_mentions controlled (label_of_number a number))) c.loop-number.invariant.0
    ∙ sym (inputs_more a controlled numbers index number (omega (arith, c.loop-number-test.true)) refl) in
    (refl, omega (arith, c.if-len-gt-MOST_MENTIONED.true, c.len.ensures, ap length made, inputs_within a controlled numbers (index + 1)))

pub loop-number-preserved : goal.loop-number-preserved
loop-number-preserved c =
    let a = c.args.automaton.now in
    let controlled : List ℕ = c.args.controlled.now in
    let numbers : List ℕ = c.args.numbers.now in
    let index : ℕ = c.loop-number.number-index in
    let number : ℕ = get_or numbers index 0 in (
      c.in_ok-add_inputs_at.ensures.inputs ∙ ap (λ list. each_once list (input_mentions controlled (label_of_number a number))) c.loop-number.invariant.0
          ∙ sym (inputs_more a controlled numbers index number (omega (arith, c.loop-number-test.true)) refl),
      omega (arith, c.if-len-gt-MOST_MENTIONED.false, c.len.ensures),
    )
