-- one demand more
use Rattle.std.proofs.Common.{◌≡◌, ◌<◌, ℕ, List, [], ◌∷◌, length, get_or, take, subst, arith}
use Rattle.std.proofs.lemmas.List.{take_all}
use Rattle.std.proofs.lemmas.List.Elements.{Contains-get_or}
use Rattle.omega_ltl_shapes.proofs.ItemLemmas.{get_or_same, take_read}
use Rattle.omega_ltl_terms.specs.private.Marking.{MarksMore}
use Rattle.omega_ltl_terms.proofs.ClosingLemmas.{marks_append, marks_none}
use Rattle.omega_ltl_terms.proofs.closing.mark_all.Goals as goal

pub loop-d-init : goal.loop-d-init
loop-d-init c = marks_none c.args.marked.now

pub loop-d-preserved : goal.loop-d-preserved
loop-d-preserved c =
    let demands : List ℕ = c.args.demands.now in
    let i : ℕ = c.loop-d.d-index in
    let below : i < length demands = omega arith in
    subst (λ (xs : List ℕ). MarksMore xs c.args.marked.now c.mark.new.marked) (take_read demands i (get_or demands i 0) below (get_or_same demands i 0 below))
    (marks_append (take i demands) (get_or demands i 0 ∷ []) c.args.marked.now c.loop-d.marked c.mark.new.marked c.loop-d.invariant c.mark.ensures)

pub returns : goal.returns
returns c =
    subst (λ (xs : List ℕ). MarksMore xs c.args.marked.now c.loop-d.marked) (take_all c.loop-d.d-index c.args.demands.now (omega arith)) c.loop-d.invariant

pub mark-requires : goal.mark-requires
mark-requires c =
    let demands : List ℕ = c.args.demands.now in
    let i : ℕ = c.loop-d.d-index in
    let below : i < length demands = omega arith in
    let low : get_or demands i 0 < length c.args.marked.now = c.requires (get_or demands i 0) (Contains-get_or demands i 0 below) in
    let long : length c.loop-d.marked ≡ length c.args.marked.now = c.loop-d.invariant.long in
    omega arith
