-- `counts_of`: the number of predecessors of each place.
use Rattle.std.proofs.Common.{◌≡◌, ℕ, ◌<◌, [], length, List, get_or, sum_by, arith, ap, ◌∙◌, rules}
use Rattle.std.specs.Prelude.{replicate}
use Rattle.std.proofs.Common.{All}
use Rattle.std.proofs.lemmas.List.{get_or_default}
use Rattle.omega_game_values.proofs.layout.CountedPredecessors.{counted_none, counted_more, counted_next, counted_fits}
use Rattle.omega_game_values.proofs.predecessors.counts_of.Goals as goal

-- the place is one of the lists'
inside : (lists : List (List ℕ)) (list : List ℕ) (v j n : ℕ) → All (λ xs. All (λ w. w < length lists) xs) lists → list ≡ get_or lists v [] → v < length lists → j < length list → get_or list j 0 < length lists
inside lists list v j n within is vh jh = omega (arith, ap (λ xs. get_or xs j 0) is, within v [] vh j 0 (omega (arith, ap length is)))

pub loop-v-init : goal.loop-v-init
loop-v-init c =
    let zeros : c.in_ok-counts.counts.items ≡ replicate c.len.result 0 = search rules in
    counted_none c.args.successors.now c.in_ok-counts.counts.items (zeros ∙ ap (λ n. replicate n 0) c.len.ensures)

pub loop-w-init : goal.loop-w-init
loop-w-init c = c.loop-v.invariant

pub index_mut-requires : goal.index_mut-requires
index_mut-requires c = omega (arith, c.loop-w.invariant.counts_size, inside c.args.successors.now c.list-w-items.result.now c.loop-v.v c.loop-w.w-index 0 c.requires.within c.list-w-items.ensures (omega arith) c.loop-w-test.true)

pub overflow_add-index_mut : goal.overflow_add-index_mut
overflow_add-index_mut c =
    let x_within : (get_or c.list-w-items.result.now c.loop-w.w-index 0) < length c.args.successors.now = inside c.args.successors.now c.list-w-items.result.now c.loop-v.v c.loop-w.w-index 0 c.requires.within c.list-w-items.ensures (omega arith) c.loop-w-test.true in
    let fits : get_or c.loop-w.counts.items (get_or c.list-w-items.result.now c.loop-w.w-index 0) 0 < sum_by (λ list. length list) c.args.successors.now =
    counted_fits c.args.successors.now c.loop-v.v c.loop-w.w-index (get_or c.list-w-items.result.now c.loop-w.w-index 0) c.loop-w.counts.items c.loop-w.invariant (omega arith) (omega (arith, ap length c.list-w-items.ensures)) x_within in
    let read : c.index_mut.result.now ≡ get_or c.loop-w.counts.items (get_or c.list-w-items.result.now c.loop-w.w-index 0) 0 = c.index_mut.ensures.value ∙ get_or_default c.loop-w.counts.items (get_or c.list-w-items.result.now c.loop-w.w-index 0) c.index_mut.result.now 0 (omega (arith, c.loop-w.invariant.counts_size)) in
    omega (arith, fits, read, c.requires.few_edges)

pub loop-w-preserved : goal.loop-w-preserved
loop-w-preserved c = counted_more c.args.successors.now c.loop-v.v c.loop-w.w-index (get_or c.list-w-items.result.now c.loop-w.w-index 0) c.index_mut.result.now c.loop-w.counts.items c.loop-w.invariant (omega arith) (omega (arith, ap length c.list-w-items.ensures))
    (ap (λ xs. get_or xs c.loop-w.w-index 0) c.list-w-items.ensures)
    (inside c.args.successors.now c.list-w-items.result.now c.loop-v.v c.loop-w.w-index 0 c.requires.within c.list-w-items.ensures (omega arith) c.loop-w-test.true) c.index_mut.ensures.value

pub loop-v-preserved : goal.loop-v-preserved
loop-v-preserved c = counted_next c.args.successors.now c.loop-v.v c.loop-w.w-index c.loop-w.counts.items c.loop-w.invariant (omega arith) (omega (arith, ap length c.list-w-items.ensures))
