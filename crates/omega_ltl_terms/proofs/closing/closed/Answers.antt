-- demands beyond the table, false ones, or the marked ones that stay
use Rattle.std.proofs.Common.{◌≡◌, ◌<◌, Bool, false, List, length, ap, subst, ◌∙◌, arith}
use Rattle.std.specs.Prelude.{replicate}
use Rattle.std.proofs.lemmas.Bool.{both_ways}
use Rattle.omega_ltl_terms.specs.private.Marking.{AreStayed, IsMarked, MarkedAreNeverTrue, MarksTrue}
use Rattle.omega_ltl_terms.proofs.ClosingLemmas.{closed_exactly, closes_all, given_back, never_all, never_beyond, none_marked}
use Rattle.omega_ltl_terms.proofs.closing.closed.Goals as goal

pub returns-then-not-are_below-clause-none : goal.returns-then-not-are_below-clause-none
returns-then-not-are_below-clause-none c =
    never_beyond c.args.shapes.now c.args.demands.now (λ low. both_ways c.are_below.result c.if-not-are_below.true (c.are_below.ensures.1 low))

pub mark_all-requires : goal.mark_all-requires
mark_all-requires c d h =
    let low : d < length c.args.shapes.now = c.are_below.ensures.0 c.if-not-are_below.false d h in
    omega (arith, c.as_mut_slice.ensures.len, c.in_ok-marked.ensures.len)

pub returns-then-not-mark_parts-clause-none : goal.returns-then-not-mark_parts-clause-none
returns-then-not-mark_parts-clause-none c =
    let blank : c.as_mut_slice.result.now ≡ replicate (length c.args.shapes.now) false = c.as_mut_slice.ensures.value ∙ c.in_ok-marked.ensures.items_if_clones_equal (λ y e. e) in
    let first : c.as_mut_slice-2.result.now ≡ c.mark_all.new.marked =
    c.as_mut_slice-2.ensures.value ∙ given_back _ c.mark_all.new.marked _ (c.mark_all.ensures.long ∙ c.as_mut_slice.ensures.len) in
    never_all c.args.shapes.now c.args.demands.now c.as_mut_slice.result.now c.mark_all.new.marked
    (λ d h. none_marked (length c.args.shapes.now) d (subst (λ (xs : List Bool). IsMarked xs d) blank h)) c.mark_all.ensures
    (subst (MarkedAreNeverTrue c.args.shapes.now) first c.if-not-mark_parts.ensures.none)

pub returns-clause-closes : goal.returns-clause-closes
returns-clause-closes c =
    let blank : c.as_mut_slice.result.now ≡ replicate (length c.args.shapes.now) false = c.as_mut_slice.ensures.value ∙ c.in_ok-marked.ensures.items_if_clones_equal (λ y e. e) in
    let first : c.as_mut_slice-2.result.now ≡ c.mark_all.new.marked =
    c.as_mut_slice-2.ensures.value ∙ given_back _ c.mark_all.new.marked _ (c.mark_all.ensures.long ∙ c.as_mut_slice.ensures.len) in
    let long = c.if-not-mark_parts.ensures.marks.long ∙ ap length first ∙ c.mark_all.ensures.long ∙ c.as_mut_slice.ensures.len in
    let marked : c.as_slice.result.now ≡ c.mark_parts.new.marked = c.as_slice.ensures.value ∙ given_back _ c.mark_parts.new.marked _ long in
    closes_all c.args.shapes.now c.requires.grounded c.args.demands.now c.as_mut_slice.result.now c.mark_all.new.marked c.mark_parts.new.marked c.in_ok-stayed.field-0
    (λ d h. none_marked (length c.args.shapes.now) d (subst (λ (xs : List Bool). IsMarked xs d) blank h))
    (long ∙ c.in_ok-marked.ensures.len)
    c.mark_all.ensures
    (subst (λ (xs : List Bool). MarksTrue c.args.shapes.now xs c.mark_parts.new.marked) first c.if-not-mark_parts.ensures.marks)
    c.if-not-mark_parts.ensures.parted
    (subst (λ (xs : List Bool). AreStayed c.args.shapes.now xs c.in_ok-stayed.field-0) marked c.in_ok-stayed.ensures.stayed)

pub returns-clause-exact : goal.returns-clause-exact
returns-clause-exact c =
    let blank : c.as_mut_slice.result.now ≡ replicate (length c.args.shapes.now) false = c.as_mut_slice.ensures.value ∙ c.in_ok-marked.ensures.items_if_clones_equal (λ y e. e) in
    let first : c.as_mut_slice-2.result.now ≡ c.mark_all.new.marked =
    c.as_mut_slice-2.ensures.value ∙ given_back _ c.mark_all.new.marked _ (c.mark_all.ensures.long ∙ c.as_mut_slice.ensures.len) in
    let long = c.if-not-mark_parts.ensures.marks.long ∙ ap length first ∙ c.mark_all.ensures.long ∙ c.as_mut_slice.ensures.len in
    let marked : c.as_slice.result.now ≡ c.mark_parts.new.marked = c.as_slice.ensures.value ∙ given_back _ c.mark_parts.new.marked _ long in
    closed_exactly c.args.shapes.now c.args.demands.now c.as_mut_slice.result.now c.mark_all.new.marked c.mark_parts.new.marked c.in_ok-stayed.field-0
    (λ d h. none_marked (length c.args.shapes.now) d (subst (λ (xs : List Bool). IsMarked xs d) blank h))
    (long ∙ c.in_ok-marked.ensures.len)
    c.mark_all.ensures
    (subst (λ (xs : List Bool). MarksTrue c.args.shapes.now xs c.mark_parts.new.marked) first c.if-not-mark_parts.ensures.marks)
    c.if-not-mark_parts.ensures.parted
    (subst (λ (xs : List Bool). AreStayed c.args.shapes.now xs c.in_ok-stayed.field-0) marked c.in_ok-stayed.ensures.stayed)
    c.in_ok-stayed.ensures.ascending
