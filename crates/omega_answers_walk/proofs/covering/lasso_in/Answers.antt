-- `lasso_in`: one byte more is covered or left as it is.
use Rattle.std.proofs.Common.{◌++◌, ◌+◌, ◌-◌, ◌∷◌, [], List, ℕ, ap, arith, drop, sym, ◌∙◌}
use Rattle.std.proofs.lemmas.List.{take_rest}
use Rattle.omega_answers_walk.specs.Covered.{covered, left_from}
use Rattle.omega_answers_walk.proofs.Covers.{byte_covered}
use Rattle.omega_answers_walk.proofs.covering.lasso_in.Goals as goal

pub loop-at-preserved : goal.loop-at-preserved
loop-at-preserved c =
    let bytes = c.args.bytes.now in
    let at = c.loop-at.at in
    let so_far = c.loop-at.out.items in
    let now = c.left_from-now.result in
    let rest = drop (at + 1) bytes in
    byte_covered bytes so_far at c.loop-at.left (omega arith) c.loop-at.invariant now
    (c.left_from-now.ensures ∙ ap (left_from c.loop-at.left) (take_rest bytes at))
    ∙ ap (λ (list : List ℕ). list ++ covered (now - 1) rest)
    (sym (c.in_ok-push.ensures.items ∙ ap (λ (byte : ℕ). so_far ++ byte ∷ []) c.covered_byte.ensures))
    ∙ ap (λ (n : ℕ). c.push.new.self.items ++ covered n rest) (sym c.saturating_sub-left.ensures)
