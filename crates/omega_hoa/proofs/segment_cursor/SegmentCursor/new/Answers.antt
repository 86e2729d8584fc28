-- The tokens that are left at the start are the front.
use Rattle.std.proofs.Common.{None, Some, false, refl, sym, subst}
use Rattle.omega_text.specs.Lexeme.{lexeme_of}
use Rattle.omega_hoa.specs.private.Ahead.{Ahead, Front, IsFront}
use Rattle.omega_hoa.proofs.Fronts.{ahead_is, ahead_none, ahead_some, front_there, place_none, place_some}
use Rattle.omega_hoa.proofs.segment_cursor.SegmentCursor.new.Goals as goal

pub invariant_of-t-5 : goal.invariant_of-t-5
invariant_of-t-5 c =
    let token = lexeme_of c.in-Some.token in
    let there = front_there c.goes_on_one_way.ensures c.args.source.now c.cut_or_fault.ensures in
    let ahead : Ahead c.args.source.now (Some token) token.span.start = record {
      front = there.0;
      all = ∣ ahead_some c.goes_on_one_way.ensures c.args.source.now false 0 token.span.start token there.0 refl c.in-Some.ensures.token c.in-Some.ensures.progress.within there.1 ∣₁;
    } in
    (ahead, (place_some c.args.source.now _ _ ahead token refl, tt))

pub invariant_of-result : goal.invariant_of-result
invariant_of-result c =
    let there = front_there c.goes_on_one_way.ensures c.args.source.now c.cut_or_fault.ensures in
    let ahead : Ahead c.args.source.now None c.empty_span.result.start = record {
      front = there.0;
      all = ∣ ahead_none c.goes_on_one_way.ensures c.args.source.now false 0 c.empty_span.result.start there.0 c.empty_span.ensures.start (λ _. c.in-None.ensures.none) there.1 ∣₁;
    } in
    (ahead, (place_none c.args.source.now _ _ ahead refl, tt))

pub returns-in-Some : goal.returns-in-Some
returns-in-Some c =
    let token = lexeme_of c.in-Some.token in
    let there = front_there c.goes_on_one_way.ensures c.args.source.now c.cut_or_fault.ensures in
    let all = ahead_some c.goes_on_one_way.ensures c.args.source.now false 0 token.span.start token there.0 refl c.in-Some.ensures.token c.in-Some.ensures.progress.within there.1 in
    subst (λ (front : Front). IsFront c.args.source.now false 0 front.0 front.1) (sym (ahead_is c.args.source.now _ _ c.t5-1.given.0 there.0 ∣ all.is ∣₁)) there.1

pub returns-in-None : goal.returns-in-None
returns-in-None c =
    let there = front_there c.goes_on_one_way.ensures c.args.source.now c.cut_or_fault.ensures in
    let all = ahead_none c.goes_on_one_way.ensures c.args.source.now false 0 c.empty_span.result.start there.0 c.empty_span.ensures.start (λ _. c.in-None.ensures.none) there.1 in
    subst (λ (front : Front). IsFront c.args.source.now false 0 front.0 front.1) (sym (ahead_is c.args.source.now _ _ c.result-1.given.0 there.0 ∣ all.is ∣₁)) there.1
