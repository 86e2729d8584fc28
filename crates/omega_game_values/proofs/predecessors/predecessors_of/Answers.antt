-- `predecessors_of`: the predecessors of each place, rising, one for each listed edge, by counting.
use Rattle.std.proofs.Common.{◌≡◌, ℕ, ◌<◌, [], length, List, get_or, arith, ap, sym, subst, ◌∙◌, All}
use Rattle.omega_text.specs.JoinedLists.{AreStarts}
use Rattle.omega_game_values.proofs.layout.CountedPredecessors.{AreStarts-of, cursor_within, filled_all, filled_more, filled_next, filled_none}
use Rattle.omega_game_values.proofs.predecessors.predecessors_of.Goals as goal

-- the place is one of the lists'
inside : (lists : List (List ℕ)) (list : List ℕ) (v j n : ℕ) → All (λ xs. All (λ w. w < length lists) xs) lists → list ≡ get_or lists v [] → v < length lists → j < length list → get_or list j 0 < length lists
inside lists list v j n within is vh jh = omega (arith, ap (λ xs. get_or xs j 0) is, within v [] vh j 0 (omega (arith, ap length is)))

pub starts_of-requires : goal.starts_of-requires
starts_of-requires c = record { few_edges = c.requires.few_edges; within = c.requires.within }

pub loop-v-init : goal.loop-v-init
loop-v-init c =
    filled_none c.in_ok-starts.starts.items c.args.successors.now c.in_ok-cursors.cursors.items c.in_ok-sources.sources.items c.in_ok-starts.ensures (c.in_ok-cursors.ensures.items ∙ c.as_slice.ensures.value) (omega (arith, c.in_ok-sources.ensures.len, c.total.ensures))

pub loop-w-init : goal.loop-w-init
loop-w-init c = c.loop-v.invariant

pub index-cursor-requires : goal.index-cursor-requires
index-cursor-requires c = omega (arith, c.loop-w.invariant.cursors_size, (inside c.args.successors.now c.list-w-items.result.now c.loop-v.v c.loop-w.w-index 0 c.requires.within c.list-w-items.ensures (omega (arith, c.len-v-end.ensures)) c.loop-w-test.true))

pub overflow_cast-v : goal.overflow_cast-v
overflow_cast-v c = omega (arith, c.requires.few, c.len-v-end.ensures, c.loop-v-test.true)

pub index_mut-requires : goal.index_mut-requires
index_mut-requires c = omega (arith, cursor_within c.in_ok-starts.starts.items c.args.successors.now c.loop-v.v c.loop-w.w-index (get_or c.list-w-items.result.now c.loop-w.w-index 0) c.index-cursor.result.now c.loop-w.cursors.items c.loop-w.sources.items c.in_ok-starts.ensures c.loop-w.invariant (omega (arith, c.len-v-end.ensures)) (omega (arith, ap length c.list-w-items.ensures)) (ap (λ xs. get_or xs c.loop-w.w-index 0) c.list-w-items.ensures) (inside c.args.successors.now c.list-w-items.result.now c.loop-v.v c.loop-w.w-index 0 c.requires.within c.list-w-items.ensures (omega (arith, c.len-v-end.ensures)) c.loop-w-test.true) c.index-cursor.ensures)

pub overflow_add-cursor : goal.overflow_add-cursor
overflow_add-cursor c =
    omega (arith, cursor_within c.in_ok-starts.starts.items c.args.successors.now c.loop-v.v c.loop-w.w-index (get_or c.list-w-items.result.now c.loop-w.w-index 0) c.index-cursor.result.now c.loop-w.cursors.items c.loop-w.sources.items c.in_ok-starts.ensures c.loop-w.invariant (omega (arith, c.len-v-end.ensures)) (omega (arith, ap length c.list-w-items.ensures)) (ap (λ xs. get_or xs c.loop-w.w-index 0) c.list-w-items.ensures) (inside c.args.successors.now c.list-w-items.result.now c.loop-v.v c.loop-w.w-index 0 c.requires.within c.list-w-items.ensures (omega (arith, c.len-v-end.ensures)) c.loop-w-test.true) c.index-cursor.ensures, c.loop-w.invariant.sources_size, c.requires.few_edges)

pub loop-w-preserved : goal.loop-w-preserved
loop-w-preserved c = filled_more c.in_ok-starts.starts.items c.args.successors.now c.loop-v.v c.loop-w.w-index (get_or c.list-w-items.result.now c.loop-w.w-index 0) c.index-cursor.result.now c.loop-w.cursors.items c.loop-w.sources.items c.in_ok-starts.ensures c.loop-w.invariant (omega (arith, c.len-v-end.ensures)) (omega (arith, ap length c.list-w-items.ensures)) (ap (λ xs. get_or xs c.loop-w.w-index 0) c.list-w-items.ensures) (inside c.args.successors.now c.list-w-items.result.now c.loop-v.v c.loop-w.w-index 0 c.requires.within c.list-w-items.ensures (omega (arith, c.len-v-end.ensures)) c.loop-w-test.true) c.index-cursor.ensures

pub loop-v-preserved : goal.loop-v-preserved
loop-v-preserved c = filled_next c.in_ok-starts.starts.items c.args.successors.now c.loop-v.v c.loop-w.w-index c.loop-w.cursors.items c.loop-w.sources.items c.loop-w.invariant (omega (arith, ap length c.list-w-items.ensures))

pub from_parts-requires : goal.from_parts-requires
from_parts-requires c = subst (AreStarts c.in_ok-starts.starts.items) (sym c.loop-v.invariant.sources_size) (AreStarts-of c.in_ok-starts.starts.items c.args.successors.now c.in_ok-starts.ensures)

pub returns : goal.returns
returns c = c.from_parts.ensures ∙ filled_all c.in_ok-starts.starts.items c.args.successors.now c.loop-v.v c.loop-v.cursors.items c.loop-v.sources.items c.in_ok-starts.ensures c.loop-v.invariant (omega (arith, c.len-v-end.ensures))
