-- A piece is read after the bytes before, or all stays as it was.
use Rattle.std.proofs.Common.{◌≡◌, ◌-◌, ◌∙◌, ◌++◌, None, ℕ, List, length, take, drop, sym, refl, ap, subst, inr, arith}
use Rattle.omega_hoa.specs.Feeding.{IsRefusedThen, IsTaken}
use Rattle.omega_hoa.specs.Kept.{Kept}
use Rattle.omega_hoa.specs.Stream.{IsStreamFault}
use Rattle.omega_hoa.specs.private.dividing.Next.{IsProgress}
use Rattle.omega_hoa.proofs.Feeds.{begins_within, fed_of, fits_of, kept_after, known_after, known_of, known_some, long_of, progress_before, refused_after, taken_of, too_long, with_piece}
use Rattle.omega_hoa.proofs.Results.{err_same, more_says, nothing_more}
use Rattle.omega_hoa.proofs.stream.Stream.feed_sound.Goals as goal

pub invariant_of-self : goal.invariant_of-self
invariant_of-self c =
    let kept : Kept = record { bytes = c.self.inside.bytes.items; begins = c.self.inside.begins; inside = c.self.inside.inside; refused = c.self.inside.refused } in
    let none : kept.refused ≡ None = ap (λ (value : Kept). value.refused) c.self.view_is ∙ c.requires in
    let count : c.len-held.result ≡ length kept.bytes = c.len-held.ensures ∙ c.self.inside.bytes.ok.0 in
    let some = known_of kept c.self.inside.tokenizer none c.self.invariant in
    (some.seen ++ c.args.piece.now, some.items, too_long some.seen some.items kept c.args.piece.now some.taken (long_of kept c.len-held.result (length c.args.piece.now) count c.if-piece-self.true))

pub read_piece-requires-clause-so_far : goal.read_piece-requires-clause-so_far
read_piece-requires-clause-so_far c =
    let kept : Kept = record { bytes = c.self.inside.bytes.items; begins = c.self.inside.begins; inside = c.self.inside.inside; refused = c.self.inside.refused } in
    let none : kept.refused ≡ None = ap (λ (value : Kept). value.refused) c.self.view_is ∙ c.requires in
    let count : c.len-held.result ≡ length kept.bytes = c.len-held.ensures ∙ c.self.inside.bytes.ok.0 in
    let some = known_of kept c.self.inside.tokenizer none c.self.invariant in
    let held = c.len-held.result in
    let all = c.as_slice.result.now in
    let is : all ≡ kept.bytes ++ c.args.piece.now = c.as_slice.ensures.value ∙ c.in_ok-extend_from_slice.ensures.items in
    let fits = fits_of some.seen some.items kept held (length c.args.piece.now) some.taken count c.if-piece-self.false in
    let progress = progress_before some.seen some.items kept c.args.piece.now all held some.taken is count c.self.inside.tokenizer some fits in
    (take kept.begins some.seen, some.items, progress)

pub overflow_sub-after : goal.overflow_sub-after
overflow_sub-after c =
    let kept : Kept = record { bytes = c.self.inside.bytes.items; begins = c.self.inside.begins; inside = c.self.inside.inside; refused = c.self.inside.refused } in
    let none : kept.refused ≡ None = ap (λ (value : Kept). value.refused) c.self.view_is ∙ c.requires in
    let count : c.len-held.result ≡ length kept.bytes = c.len-held.ensures ∙ c.self.inside.bytes.ok.0 in
    let some = known_of kept c.self.inside.tokenizer none c.self.invariant in
    let held = c.len-held.result in
    let all = c.as_slice.result.now in
    let is : all ≡ kept.bytes ++ c.args.piece.now = c.as_slice.ensures.value ∙ c.in_ok-extend_from_slice.ensures.items in
    let fits = fits_of some.seen some.items kept held (length c.args.piece.now) some.taken count c.if-piece-self.false in
    let progress = progress_before some.seen some.items kept c.args.piece.now all held some.taken is count c.self.inside.tokenizer some fits in
    let read = c.in-Ok.ensures.read (take kept.begins some.seen) some.items progress in
    read.holds.from

pub drop_front-requires : goal.drop_front-requires
drop_front-requires c =
    let kept : Kept = record { bytes = c.self.inside.bytes.items; begins = c.self.inside.begins; inside = c.self.inside.inside; refused = c.self.inside.refused } in
    let none : kept.refused ≡ None = ap (λ (value : Kept). value.refused) c.self.view_is ∙ c.requires in
    let count : c.len-held.result ≡ length kept.bytes = c.len-held.ensures ∙ c.self.inside.bytes.ok.0 in
    let some = known_of kept c.self.inside.tokenizer none c.self.invariant in
    let held = c.len-held.result in
    let all = c.as_slice.result.now in
    let is : all ≡ kept.bytes ++ c.args.piece.now = c.as_slice.ensures.value ∙ c.in_ok-extend_from_slice.ensures.items in
    let fits = fits_of some.seen some.items kept held (length c.args.piece.now) some.taken count c.if-piece-self.false in
    let progress = progress_before some.seen some.items kept c.args.piece.now all held some.taken is count c.self.inside.tokenizer some fits in
    let read = c.in-Ok.ensures.read (take kept.begins some.seen) some.items progress in
    let within = begins_within c.goes_on_one_way.ensures all kept.begins c.in-Ok.after (take kept.begins some.seen) (some.items ++ read.added) read.holds in
    omega (arith, within, c.as_slice.ensures.len)

pub invariant_of-self-in-Ok : goal.invariant_of-self-in-Ok
invariant_of-self-in-Ok c =
    let kept : Kept = record { bytes = c.self.inside.bytes.items; begins = c.self.inside.begins; inside = c.self.inside.inside; refused = c.self.inside.refused } in
    let none : kept.refused ≡ None = ap (λ (value : Kept). value.refused) c.self.view_is ∙ c.requires in
    let count : c.len-held.result ≡ length kept.bytes = c.len-held.ensures ∙ c.self.inside.bytes.ok.0 in
    let some = known_of kept c.self.inside.tokenizer none c.self.invariant in
    let held = c.len-held.result in
    let all = c.as_slice.result.now in
    let is : all ≡ kept.bytes ++ c.args.piece.now = c.as_slice.ensures.value ∙ c.in_ok-extend_from_slice.ensures.items in
    let fits = fits_of some.seen some.items kept held (length c.args.piece.now) some.taken count c.if-piece-self.false in
    let progress = progress_before some.seen some.items kept c.args.piece.now all held some.taken is count c.self.inside.tokenizer some fits in
    let read = c.in-Ok.ensures.read (take kept.begins some.seen) some.items progress in
    let after = c.in-Ok.after in
    let now : Kept = record { bytes = c.drop_front.new.bytes.items; begins = after.division.begins; inside = after.division.inside; refused = c.self.inside.refused } in
    let rest : now.bytes ≡ drop (after.division.begins - kept.begins) all = c.drop_front.ensures ∙ ap (drop (after.division.begins - kept.begins)) (sym c.as_slice.ensures.value) in
    known_some now after.tokenizer none
    (known_after c.goes_on_one_way.ensures all kept.begins after (take kept.begins some.seen) (some.items ++ read.added) now.bytes c.self.inside.refused read.holds rest)

pub invariant_of-self-in_default : goal.invariant_of-self-in_default
invariant_of-self-in_default c =
    let kept : Kept = record { bytes = c.self.inside.bytes.items; begins = c.self.inside.begins; inside = c.self.inside.inside; refused = c.self.inside.refused } in
    let none : kept.refused ≡ None = ap (λ (value : Kept). value.refused) c.self.view_is ∙ c.requires in
    let count : c.len-held.result ≡ length kept.bytes = c.len-held.ensures ∙ c.self.inside.bytes.ok.0 in
    let some = known_of kept c.self.inside.tokenizer none c.self.invariant in
    let held = c.len-held.result in
    let all = c.as_slice.result.now in
    let is : all ≡ kept.bytes ++ c.args.piece.now = c.as_slice.ensures.value ∙ c.in_ok-extend_from_slice.ensures.items in
    let fits = fits_of some.seen some.items kept held (length c.args.piece.now) some.taken count c.if-piece-self.false in
    let progress = progress_before some.seen some.items kept c.args.piece.now all held some.taken is count c.self.inside.tokenizer some fits in
    let refused = refused_after (take kept.begins some.seen ++ all) _ _ some.items c.in-Err.refusal c.in_default.not-Memory (c.in-Err.ensures.refused (take kept.begins some.seen) some.items progress) in
    (take kept.begins some.seen ++ all, some.items ++ refused.added, inr refused.holds)

pub returns-in-Ok-clause-taken : goal.returns-in-Ok-clause-taken
returns-in-Ok-clause-taken c = λ no_memory seen items fed.
    let kept : Kept = record { bytes = c.self.inside.bytes.items; begins = c.self.inside.begins; inside = c.self.inside.inside; refused = c.self.inside.refused } in
    let none : kept.refused ≡ None = ap (λ (value : Kept). value.refused) c.self.view_is ∙ c.requires in
    let count : c.len-held.result ≡ length kept.bytes = c.len-held.ensures ∙ c.self.inside.bytes.ok.0 in
    let held = c.len-held.result in
    let all = c.as_slice.result.now in
    let is : all ≡ kept.bytes ++ c.args.piece.now = c.as_slice.ensures.value ∙ c.in_ok-extend_from_slice.ensures.items in
    let after = c.in-Ok.after in
    let now : Kept = record { bytes = c.drop_front.new.bytes.items; begins = after.division.begins; inside = after.division.inside; refused = c.self.inside.refused } in
    let rest : now.bytes ≡ drop (after.division.begins - kept.begins) all = c.drop_front.ensures ∙ ap (drop (after.division.begins - kept.begins)) (sym c.as_slice.ensures.value) in
    let taken : IsTaken seen items kept = subst (IsTaken seen items) (sym c.self.view_is) (taken_of seen items c.args.self.now c.requires fed) in
    let fits = fits_of seen items kept held (length c.args.piece.now) taken count c.if-piece-self.false in
    let progress = progress_before seen items kept c.args.piece.now all held taken is count c.self.inside.tokenizer (known_of kept c.self.inside.tokenizer none c.self.invariant) fits in
    more_says _ _ items (IsProgress all kept.begins (length all) after (take kept.begins seen)) _ (c.in-Ok.ensures.read (take kept.begins seen) items progress)
    (λ every reached. fed_of (seen ++ c.args.piece.now) every now none
    (subst (λ bytes. IsTaken bytes every now) (with_piece seen items kept c.args.piece.now all held taken is count)
    (kept_after c.goes_on_one_way.ensures all kept.begins after (take kept.begins seen) every now.bytes c.self.inside.refused reached rest)))

pub returns-in_default-clause-taken : goal.returns-in_default-clause-taken
returns-in_default-clause-taken c = λ no_memory seen items fed.
    let kept : Kept = record { bytes = c.self.inside.bytes.items; begins = c.self.inside.begins; inside = c.self.inside.inside; refused = c.self.inside.refused } in
    let none : kept.refused ≡ None = ap (λ (value : Kept). value.refused) c.self.view_is ∙ c.requires in
    let count : c.len-held.result ≡ length kept.bytes = c.len-held.ensures ∙ c.self.inside.bytes.ok.0 in
    let held = c.len-held.result in
    let all = c.as_slice.result.now in
    let is : all ≡ kept.bytes ++ c.args.piece.now = c.as_slice.ensures.value ∙ c.in_ok-extend_from_slice.ensures.items in
    let taken : IsTaken seen items kept = subst (IsTaken seen items) (sym c.self.view_is) (taken_of seen items c.args.self.now c.requires fed) in
    let fits = fits_of seen items kept held (length c.args.piece.now) taken count c.if-piece-self.false in
    let progress = progress_before seen items kept c.args.piece.now all held taken is count c.self.inside.tokenizer (known_of kept c.self.inside.tokenizer none c.self.invariant) fits in
    more_says _ _ items (λ every. (more : List ℕ) → IsStreamFault ((take kept.begins seen ++ all) ++ more) every c.in-Err.refusal) _
    (refused_after (take kept.begins seen ++ all) _ _ items c.in-Err.refusal c.in_default.not-Memory (c.in-Err.ensures.refused (take kept.begins seen) items progress))
    (λ every refused. inr (subst (λ bytes. (more : List ℕ) → IsStreamFault (bytes ++ more) every c.in-Err.refusal) (with_piece seen items kept c.args.piece.now all held taken is count) refused))

pub returns-in_default-clause-refused : goal.returns-in_default-clause-refused
returns-in_default-clause-refused c = λ within seen items fed.
    let kept : Kept = record { bytes = c.self.inside.bytes.items; begins = c.self.inside.begins; inside = c.self.inside.inside; refused = c.self.inside.refused } in
    let none : kept.refused ≡ None = ap (λ (value : Kept). value.refused) c.self.view_is ∙ c.requires in
    let count : c.len-held.result ≡ length kept.bytes = c.len-held.ensures ∙ c.self.inside.bytes.ok.0 in
    let held = c.len-held.result in
    let all = c.as_slice.result.now in
    let is : all ≡ kept.bytes ++ c.args.piece.now = c.as_slice.ensures.value ∙ c.in_ok-extend_from_slice.ensures.items in
    let taken : IsTaken seen items kept = subst (IsTaken seen items) (sym c.self.view_is) (taken_of seen items c.args.self.now c.requires fed) in
    let fits = fits_of seen items kept held (length c.args.piece.now) taken count c.if-piece-self.false in
    let progress = progress_before seen items kept c.args.piece.now all held taken is count c.self.inside.tokenizer (known_of kept c.self.inside.tokenizer none c.self.invariant) fits in
    subst (λ bytes. IsRefusedThen bytes c.args.out.now.items c.read_piece.new.out.items items c.in-Err.refusal) (with_piece seen items kept c.args.piece.now all held taken is count)
    (c.in-Err.ensures.refused (take kept.begins seen) items progress)

pub returns-then-piece-self-clause-taken : goal.returns-then-piece-self-clause-taken
returns-then-piece-self-clause-taken c = λ no_memory seen items fed.
    let kept : Kept = record { bytes = c.self.inside.bytes.items; begins = c.self.inside.begins; inside = c.self.inside.inside; refused = c.self.inside.refused } in
    let count : c.len-held.result ≡ length kept.bytes = c.len-held.ensures ∙ c.self.inside.bytes.ok.0 in
    let taken : IsTaken seen items kept = subst (IsTaken seen items) (sym c.self.view_is) (taken_of seen items c.args.self.now c.requires fed) in
    nothing_more _ _ _ (too_long seen items kept c.args.piece.now taken (long_of kept c.len-held.result (length c.args.piece.now) count c.if-piece-self.true))

pub returns-in-Ok-clause-extends : goal.returns-in-Ok-clause-extends
returns-in-Ok-clause-extends c = λ no_memory. c.in-Ok.ensures.extends (λ e. cc)

pub returns-in_default-clause-extends : goal.returns-in_default-clause-extends
returns-in_default-clause-extends c = λ no_memory. c.in-Err.ensures.extends (λ e. c.in_default.not-Memory (err_same _ _ e))

pub returns-in-Ok-clause-memory : goal.returns-in-Ok-clause-memory
returns-in-Ok-clause-memory c = λ e. cc

pub returns-in_default-clause-kept : goal.returns-in_default-clause-kept
returns-in_default-clause-kept c = inr refl

pub returns-in-Ok-clause-refused : goal.returns-in-Ok-clause-refused
returns-in-Ok-clause-refused c = λ within. tt

pub returns-in_default-clause-memory : goal.returns-in_default-clause-memory
returns-in_default-clause-memory c = λ e. absurd (c.in_default.not-Memory (err_same _ _ e))

pub returns-in-Ok-clause-too_long : goal.returns-in-Ok-clause-too_long
returns-in-Ok-clause-too_long c = λ over.
    let kept : Kept = record { bytes = c.self.inside.bytes.items; begins = c.self.inside.begins; inside = c.self.inside.inside; refused = c.self.inside.refused } in
    let none : kept.refused ≡ None = ap (λ (value : Kept). value.refused) c.self.view_is ∙ c.requires in
    let count : c.len-held.result ≡ length kept.bytes = c.len-held.ensures ∙ c.self.inside.bytes.ok.0 in
    let some = known_of kept c.self.inside.tokenizer none c.self.invariant in
    let fits = fits_of some.seen some.items kept c.len-held.result (length c.args.piece.now) some.taken count c.if-piece-self.false in
    absurd (omega (arith, over, count, fits, ap (λ (value : Kept). value.begins) c.self.view_is, ap (λ (value : Kept). length value.bytes) c.self.view_is))

pub returns-in_default-clause-too_long : goal.returns-in_default-clause-too_long
returns-in_default-clause-too_long c = λ over.
    let kept : Kept = record { bytes = c.self.inside.bytes.items; begins = c.self.inside.begins; inside = c.self.inside.inside; refused = c.self.inside.refused } in
    let none : kept.refused ≡ None = ap (λ (value : Kept). value.refused) c.self.view_is ∙ c.requires in
    let count : c.len-held.result ≡ length kept.bytes = c.len-held.ensures ∙ c.self.inside.bytes.ok.0 in
    let some = known_of kept c.self.inside.tokenizer none c.self.invariant in
    let fits = fits_of some.seen some.items kept c.len-held.result (length c.args.piece.now) some.taken count c.if-piece-self.false in
    absurd (omega (arith, over, count, fits, ap (λ (value : Kept). value.begins) c.self.view_is, ap (λ (value : Kept). length value.bytes) c.self.view_is))
