-- `write_valuation`: one literal more.
use Rattle.std.proofs.Common.{◌≡◌, ℕ, ◌+◌, ◌-◌, List, ◌++◌, length, take, drop, ap, ◌∙◌}
use Rattle.omega_lang_lasso_word.specs.Letters.{literal_text}
use Rattle.omega_lang_lasso_word.proofs.Literals.{literals_step}
use Rattle.omega_lang_lasso_word.proofs.letters.write_valuation.Goals as goal

pub loop-at-preserved : goal.loop-at-preserved
loop-at-preserved c =
    let others : List (List ℕ) = take (length c.args.names.now - 1) (drop 1 c.args.names.now) in
    let literal : c.write_literal-in-loop-at.new.out.items ≡ c.extend_from_slice.new.self.items ++ literal_text c.args.index (c.loop-at.at + 1) c.index-others-at.result =
    c.in_ok-write_literal-2.ensures.text
    ∙ ap (λ (n : List ℕ). c.extend_from_slice.new.self.items ++ literal_text c.args.index (c.loop-at.at + 1) n) c.as_slice-in-loop-at.ensures in
    literals_step c.args.index others c.loop-at.at c.index-others-at.result c.write_literal.new.out.items c.loop-at.out.items c.extend_from_slice.new.self.items
    c.write_literal-in-loop-at.new.out.items c.loop-at-test.true c.index-others-at.is c.loop-at.invariant c.in_ok-extend_from_slice.ensures.items literal
