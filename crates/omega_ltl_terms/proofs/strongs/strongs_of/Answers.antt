-- the strong demands that are marked for the root
use Rattle.std.proofs.Common.{◌≡◌, ◌<◌, zero, suc, Bool, false, List, length, ap, subst, ◌∙◌, arith}
use Rattle.std.specs.Prelude.{replicate}
use Rattle.std.proofs.lemmas.Result.{IfOk-weaker}
use Rattle.omega_ltl_terms.specs.private.Marking.{IsMarked}
use Rattle.omega_ltl_terms.specs.private.Strongs.{AreCollected, MarksNeeded}
use Rattle.omega_ltl_terms.proofs.ClosingLemmas.{given_back, none_marked}
use Rattle.omega_ltl_terms.proofs.StrongLemmas.{have_sets, strong_within}
use Rattle.omega_ltl_terms.proofs.strongs.strongs_of.Goals as goal

pub mark_all-requires : goal.mark_all-requires
mark_all-requires c d (zero, low, is) =
    let below : c.args.root < length c.args.shapes.now = c.requires.low in
    let same : c.args.root ≡ d = is in
    omega (arith, c.as_mut_slice.ensures.len, c.in_ok-wanted.ensures.len)
mark_all-requires c d (suc i, low, is) = absurd (omega (arith, low))

pub mark_operands_of_all-requires-clause-long : goal.mark_operands_of_all-requires-clause-long
mark_operands_of_all-requires-clause-long c =
    let first : c.as_mut_slice-2.result.now ≡ c.mark_all.new.marked =
    c.as_mut_slice-2.ensures.value ∙ given_back _ c.mark_all.new.marked _ (c.mark_all.ensures.long ∙ c.as_mut_slice.ensures.len) in
    ap length first ∙ c.mark_all.ensures.long ∙ c.as_mut_slice.ensures.len ∙ c.in_ok-wanted.ensures.len

pub returns-clause-strongs : goal.returns-clause-strongs
returns-clause-strongs c = IfOk-weaker c.collected.result _ _ (λ strongs found. found.below.are) c.collected.ensures.collected

pub returns-clause-sets : goal.returns-clause-sets
returns-clause-sets c =
    let blank : c.as_mut_slice.result.now ≡ replicate (length c.args.shapes.now) false = c.as_mut_slice.ensures.value ∙ c.in_ok-wanted.ensures.items_if_clones_equal (λ y e. e) in
    let first : c.as_mut_slice-2.result.now ≡ c.mark_all.new.marked =
    c.as_mut_slice-2.ensures.value ∙ given_back _ c.mark_all.new.marked _ (c.mark_all.ensures.long ∙ c.as_mut_slice.ensures.len) in
    let long = c.mark_operands_of_all.ensures.marks.long ∙ ap length first ∙ c.mark_all.ensures.long ∙ c.as_mut_slice.ensures.len in
    let marked : c.as_slice.result.now ≡ c.mark_operands_of_all.new.marked = c.as_slice.ensures.value ∙ given_back _ c.mark_operands_of_all.new.marked _ long in
    IfOk-weaker c.collected.result _ _
    (λ strongs found. have_sets c.args.shapes.now c.args.root c.as_mut_slice.result.now c.mark_all.new.marked c.mark_operands_of_all.new.marked strongs
    (λ d h. none_marked (length c.args.shapes.now) d (subst (λ (xs : List Bool). IsMarked xs d) blank h))
    c.mark_all.ensures
    (subst (λ (xs : List Bool). MarksNeeded c.args.shapes.now xs c.mark_operands_of_all.new.marked) first c.mark_operands_of_all.ensures.marks)
    c.mark_operands_of_all.ensures.spoken
    (subst (λ (xs : List Bool). AreCollected c.args.shapes.now xs (length c.args.shapes.now) strongs) marked found)
    (strong_within c.args.shapes.now))
    c.collected.ensures.collected
