use Rattle.std.proofs.Common.{ℕ, List, ap, ◌∙◌}
use Rattle.indexmap.specs.IndexSet.{insert_key}
use Rattle.omega_lang_product.specs.Pairs.{same_pair, start_state}
use Rattle.omega_lang_product.proofs.Steps.{insert_mapped}
use Rattle.omega_lang_product.proofs.exploring.add_starts_with.Goals as goal

pub loop-other-preserved : goal.loop-other-preserved
loop-other-preserved c =
    c.in_ok-insert.ensures.pairs
    ∙ ap (λ (n : ℕ). insert_key same_pair c.loop-other.found (c.args.first, n)) c.start_state.ensures
    ∙ insert_mapped {X = List ℕ} c.args.others.now c.loop-other.other-index c.other-item.result c.loop-other-test.true c.other-item.is c.args.found.now c.loop-other.found
    (λ (other : List ℕ). (c.args.first, start_state other)) c.loop-other.invariant
