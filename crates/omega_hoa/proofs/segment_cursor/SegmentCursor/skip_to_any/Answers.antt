-- After the first of the tokens that are left the others are left.
use Rattle.std.proofs.Common.{None, Some, drop, ap, refl, ◌∙◌, sym}
use Rattle.std.proofs.Math.Logic.{∥∥₁_map}
use Rattle.omega_text.specs.Lexeme.{lexeme_of}
use Rattle.omega_hoa.specs.private.Ahead.{Ahead, Front, is_last}
use Rattle.omega_hoa.proofs.Fronts.{ahead_is, ahead_none, ahead_some, parts_after, parts_none, parts_within, place_none, place_some}
use Rattle.omega_hoa.proofs.segment_cursor.SegmentCursor.skip_to_any.Goals as goal

pub returns-in_default-clause-left : goal.returns-in_default-clause-left
returns-in_default-clause-left c =
    let empty = parts_none _ _ _ _ _ c.self.inside.ahead c.in_default.is in
    rw (← c.self.view_is) (empty ∙ sym (ap (drop 1) empty))

pub token_after-requires : goal.token_after-requires
token_after-requires c = parts_within _ _ _ _ _ c.self.inside.ahead _ c.in-Some.is

pub invariant_of-self-inside : goal.invariant_of-self-inside
invariant_of-self-inside c =
    let token = lexeme_of c.in-Some-token_after.token in
    let source = c.self.inside.source.now in
    let front : Front = (drop 1 c.self.inside.ahead.front.0, c.self.inside.ahead.front.1) in
    let ahead : Ahead source (Some token) token.span.start = record {
      front = front;
      all = ∥∥₁_map (parts_after _ _ _ _ _ c.self.inside.ahead _ c.in-Some.is)
          (λ is. ahead_some c.goes_on_one_way.ensures source (is_last c.in-Some.kind) c.self.inside.span.end token.span.start token front
          c.in-Some-token_after.ensures.going_on c.in-Some-token_after.ensures.token c.in-Some-token_after.ensures.progress.within is);
    } in
    (ahead, (place_some source _ _ ahead token refl, tt))

pub invariant_of-self-inside-in-None : goal.invariant_of-self-inside-in-None
invariant_of-self-inside-in-None c =
    let source = c.self.inside.source.now in
    let front : Front = (drop 1 c.self.inside.ahead.front.0, c.self.inside.ahead.front.1) in
    let ahead : Ahead source None c.empty_span-self-inside.result.start = record {
      front = front;
      all = ∥∥₁_map (parts_after _ _ _ _ _ c.self.inside.ahead _ c.in-Some.is)
          (λ is. ahead_none c.goes_on_one_way.ensures source (is_last c.in-Some.kind) c.self.inside.span.end c.empty_span-self-inside.result.start front c.empty_span-self-inside.ensures.start c.in-None.ensures.none is);
    } in
    (ahead, (place_none source _ _ ahead refl, tt))

pub returns-in-Some-token_after-clause-left : goal.returns-in-Some-token_after-clause-left
returns-in-Some-token_after-clause-left c =
    let token = lexeme_of c.in-Some-token_after.token in
    let source = c.self.inside.source.now in
    let front : Front = (drop 1 c.self.inside.ahead.front.0, c.self.inside.ahead.front.1) in
    let same = ahead_is source _ _ c.self-in-Some-token_after-2-1.given.0 front
    (∥∥₁_map (parts_after _ _ _ _ _ c.self.inside.ahead _ c.in-Some.is)
    (λ is. (ahead_some c.goes_on_one_way.ensures source (is_last c.in-Some.kind) c.self.inside.span.end token.span.start token front
    c.in-Some-token_after.ensures.going_on c.in-Some-token_after.ensures.token c.in-Some-token_after.ensures.progress.within is).is)) in
    rw (← c.self.view_is) (ap (λ (one : Front). one.0) same)

pub returns-in-Some-token_after-clause-length : goal.returns-in-Some-token_after-clause-length
returns-in-Some-token_after-clause-length c =
    let token = lexeme_of c.in-Some-token_after.token in
    let source = c.self.inside.source.now in
    let front : Front = (drop 1 c.self.inside.ahead.front.0, c.self.inside.ahead.front.1) in
    let same = ahead_is source _ _ c.self-in-Some-token_after-2-1.given.0 front
    (∥∥₁_map (parts_after _ _ _ _ _ c.self.inside.ahead _ c.in-Some.is)
    (λ is. (ahead_some c.goes_on_one_way.ensures source (is_last c.in-Some.kind) c.self.inside.span.end token.span.start token front
    c.in-Some-token_after.ensures.going_on c.in-Some-token_after.ensures.token c.in-Some-token_after.ensures.progress.within is).is)) in
    rw (← c.self.view_is) (ap (λ (one : Front). one.1) same)

pub returns-in-None-clause-left : goal.returns-in-None-clause-left
returns-in-None-clause-left c =
    let source = c.self.inside.source.now in
    let front : Front = (drop 1 c.self.inside.ahead.front.0, c.self.inside.ahead.front.1) in
    let same = ahead_is source _ _ c.self-in-None-1.given.0 front
    (∥∥₁_map (parts_after _ _ _ _ _ c.self.inside.ahead _ c.in-Some.is)
    (λ is. (ahead_none c.goes_on_one_way.ensures source (is_last c.in-Some.kind) c.self.inside.span.end c.empty_span-self-inside.result.start front c.empty_span-self-inside.ensures.start c.in-None.ensures.none is).is)) in
    rw (← c.self.view_is) (ap (λ (one : Front). one.0) same)

pub returns-in-None-clause-length : goal.returns-in-None-clause-length
returns-in-None-clause-length c =
    let source = c.self.inside.source.now in
    let front : Front = (drop 1 c.self.inside.ahead.front.0, c.self.inside.ahead.front.1) in
    let same = ahead_is source _ _ c.self-in-None-1.given.0 front
    (∥∥₁_map (parts_after _ _ _ _ _ c.self.inside.ahead _ c.in-Some.is)
    (λ is. (ahead_none c.goes_on_one_way.ensures source (is_last c.in-Some.kind) c.self.inside.span.end c.empty_span-self-inside.result.start front c.empty_span-self-inside.ensures.start c.in-None.ensures.none is).is)) in
    rw (← c.self.view_is) (ap (λ (one : Front). one.1) same)
