use Rattle.std.proofs.Common.{ℕ, List, ◌++◌, map, ap, ◌∙◌}
use Rattle.omega_lang_product.specs.Pairs.{start_state, starts_with}
use Rattle.omega_lang_product.specs.Written.{raw_start}
use Rattle.omega_lang_product.proofs.Formulas.{pushed_flat}
use Rattle.omega_lang_product.proofs.header.push_starts.Goals as goal

pub loop-first-preserved : goal.loop-first-preserved
loop-first-preserved c =
    let starts = c.args.starts.now in
    c.in_ok-push_starts_with.ensures.ok
    ∙ ap (λ (n : ℕ). c.loop-first.items.items ++ map (raw_start starts.found.now.keys) (starts_with n starts.seconds.now)) c.start_state.ensures
    ∙ pushed_flat {X = List ℕ} starts.firsts.now c.loop-first.first-index c.first-item.result c.loop-first-test.true c.first-item.is
    (λ (start : List ℕ). starts_with (start_state start) starts.seconds.now) (raw_start starts.found.now.keys) c.args.items.now.items c.loop-first.items.items c.loop-first.invariant
