-- the number of the pair that it leads to is its place among the pairs, whatever pairs are found later
use Rattle.std.proofs.Common.{◌≡◌, List, ◌++◌, sym, ap, ap₂, ◌∙◌}
use Rattle.std.specs.List.{position_or_len}
use Rattle.indexmap.specs.IndexSet.{insert_key}
use Rattle.omega_lang_product.specs.Pairs.{Pair, pair_number, same_pair}
use Rattle.omega_lang_product.specs.private.Adding.{numbered_edge}
use Rattle.omega_lang_product.proofs.Joints.{joint_pushed}
use Rattle.omega_lang_product.proofs.Reaching.{inserted_number}
use Rattle.omega_lang_product.proofs.adding.add_joint.Goals as goal

pub returns-clause-edges : goal.returns-clause-edges
returns-clause-edges c =
    let first = numbered_edge c.args.first.now in
    let second = numbered_edge c.args.second.now in
    let target : Pair = (first.plain_edge.target, second.plain_edge.target) in
    let old : List Pair = c.args.pairs.now in
    let keys : c.insert.new.self ≡ insert_key same_pair old target = c.in_ok-to.ensures.pairs ∙ ap (insert_key same_pair old) c.joint_target.ensures in
    let place : c.in_ok-to.to ≡ position_or_len (same_pair target) old =
    c.in_ok-to.ensures.number ∙ ap (λ (p : Pair). position_or_len (same_pair p) old) c.joint_target.ensures in
    joint_pushed c.insert.new.self c.args.from c.in_ok-to.to first second c.in_ok-marks.marks
    (λ later. place ∙ sym (inserted_number old later target) ∙ ap (λ (ks : List Pair). pair_number (ks ++ later) target) (sym keys))
    (c.in_ok-marks.ensures.ok ∙ ap₂ ◌++◌ c.marks.ensures c.marks-2.ensures)
    c.args.edges.now c.push.new.self c.push.result c.push.ensures.ends c.push.ensures.marks c.push.ensures.firsts c.push.ensures.seconds
