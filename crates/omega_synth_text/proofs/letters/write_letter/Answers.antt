-- the first literal, and then the others
use Rattle.std.proofs.Common.{◌≡◌, ℕ, Bool, List, ◌++◌, get_or, ap, ◌∙◌, arith}
use Rattle.omega_graph.specs.Graph.{listed}
use Rattle.omega_synth_text.specs.private.Texts.{literal_bytes}
use Rattle.omega_synth_text.proofs.Literals.{letter_written}
use Rattle.omega_synth_text.proofs.letters.write_letter.Goals as goal

pub returns-clause-text : goal.returns-clause-text
returns-clause-text c =
    let out : List ℕ = c.args.out.now.items in
    let p : ℕ = get_or c.args.inputs.now 0 0 in
    let begun : c.write_literal.new.out.items ≡ out ++ literal_bytes (listed c.args.held.now p) p =
    c.in_ok-write_literal.ensures.text ∙ ap (λ (holds : Bool). out ++ literal_bytes holds c.from.result) c.is_listed.ensures
    ∙ ap (λ (q : ℕ). out ++ literal_bytes (listed c.args.held.now p) q) c.from.ensures in
    letter_written (listed c.args.held.now) c.args.inputs.now out c.write_literal.new.out.items c.loop-input.out.items c.loop-input.input-index
    (omega (arith, c.in-len1-up.len_at_least)) begun c.loop-input.invariant (omega (arith, c.loop-input-test.false))
