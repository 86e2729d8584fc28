-- a start of the first more
use Rattle.std.proofs.Common.{ℕ, List, [], ◌++◌, map, ap, ◌∙◌}
use Rattle.omega_lang_product.specs.Pairs.{pair_number, start_state, starts_with}
use Rattle.omega_lang_product.proofs.Formulas.{pushed_flat}
use Rattle.omega_lang_product.proofs.graphing.start_numbers.Goals as goal

pub loop-first-preserved : goal.loop-first-preserved
loop-first-preserved c =
    let starts = c.args.starts.now in
    c.in_ok-add_start_numbers.ensures.ok
    ∙ ap (λ (n : ℕ). c.loop-first.numbers.items ++ map (pair_number starts.found.now.keys) (starts_with n starts.seconds.now)) c.start_state.ensures
    ∙ pushed_flat {X = List ℕ} starts.firsts.now c.loop-first.first-index c.first-item.result c.loop-first-test.true c.first-item.is
    (λ (start : List ℕ). starts_with (start_state start) starts.seconds.now) (pair_number starts.found.now.keys) [] c.loop-first.numbers.items c.loop-first.invariant
