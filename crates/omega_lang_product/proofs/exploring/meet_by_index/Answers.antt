-- both states have the edges of their valuations, over the same propositions
use Rattle.std.proofs.Common.{◌≡◌, Bool, true, false, not, List, ℕ, refl, sym, subst, ◌∙◌, true≢false}
use Rattle.std.specs.Cmp.{unsigned_Decides}
use Rattle.std.specs.Cmp.Lexicographic.{pointwise_decides}
use Rattle.omega_lang_product.specs.Pairs.{first_leaving, second_leaving}
use Rattle.omega_lang_product.specs.PlainEdges.{View, plain_edges_at}
use Rattle.omega_lang_product.specs.private.Meeting.{AreByValuation}
use Rattle.omega_lang_product.proofs.Valuations.{by_index}
use Rattle.omega_lang_product.proofs.exploring.meet_by_index.Goals as goal

not_false : (b : Bool) → not b ≡ false → b ≡ true
not_false true e = refl
not_false false e = absurd (true≢false e)

pub returns-then-is_full_at : goal.returns-then-is_full_at
returns-then-is_full_at c =
    let one = c.args.operands.now.one.now in
    let other = c.args.operands.now.other.now in
    let firsts = c.args.operands.now.tables.now.firsts in
    let seconds = c.args.operands.now.tables.now.seconds in
    let alike : firsts.places.items ≡ seconds.places.items =
    sym c.as_slice.ensures.value
    ∙ (pointwise_decides unsigned_Decides c.as_slice.result.now c.as_slice-2.result.now).0 (not_false _ (sym c.ne.ensures ∙ c.if-ne.false))
    ∙ c.as_slice-2.ensures.value in
    λ full. by_index firsts.places.items (first_leaving one other c.args.pair) (second_leaving one other c.args.pair)
    (subst (λ (v : View). AreByValuation firsts.places.items (plain_edges_at v one.defined c.args.pair.0)) c.requires.firsts.seen (c.is_full_at.ensures c.if-is_full_at.true))
    (subst (λ (places : List ℕ). AreByValuation places (second_leaving one other c.args.pair)) (sym alike)
    (subst (λ (v : View). AreByValuation seconds.places.items (plain_edges_at v other.defined c.args.pair.1)) c.requires.seconds.seen (c.is_full_at-then-is_full_at.ensures full)))
