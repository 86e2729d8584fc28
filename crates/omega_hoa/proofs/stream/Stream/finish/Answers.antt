-- Where the stream ends, its bytes are those of a whole stream, or are refused.
use Rattle.std.proofs.Common.{◌≡◌, ◌+◌, ◌∙◌, None, ap, length, sym, subst, arith}
use Rattle.omega_hoa.specs.Feeding.{IsDivided, IsFed, IsTaken}
use Rattle.omega_hoa.specs.Kept.{Kept}
use Rattle.omega_hoa.proofs.Feeds.{answered_before, answered_now, answered_of, kept_is_no_memory, known_divided, known_lexemes, known_of, known_read, taken_of}
use Rattle.omega_hoa.proofs.Ones.{err_says, ok_says}
use Rattle.omega_hoa.proofs.stream.Stream.finish.Goals as goal

pub returns-then-self-clause-refused : goal.returns-then-self-clause-refused
returns-then-self-clause-refused c = λ none seen items fed.
    let kept : Kept = record { bytes = c.self.inside.bytes.items; begins = c.self.inside.begins; inside = c.self.inside.inside; refused = c.self.inside.refused } in
    let taken : IsTaken seen items kept = taken_of seen items kept c.in-None.is (subst (IsFed seen items) (sym c.self.view_is) fed) in
    let all : kept.begins + c.len.result ≡ length seen = omega (arith, taken.total, c.len.ensures, c.self.inside.bytes.ok.0) in
    let known = known_of kept c.self.inside.tokenizer c.in-None.is c.self.invariant in
    let lexemes = known_lexemes seen items kept c.self.inside.tokenizer taken known in
    c.end_inside.ensures.refused seen lexemes items kept.begins all (record {
      divided = subst (IsDivided seen lexemes items kept.begins) c.if-self.true (known_divided seen items kept c.self.inside.tokenizer taken known);
      finished = c.finish-settled.ensures.finishes seen lexemes (known_read seen items kept c.self.inside.tokenizer taken known);
    })

pub returns-clause-ok : goal.returns-clause-ok
returns-clause-ok c = ok_says c.end_outside.result _ _ (λ value ends seen items fed.
    let kept : Kept = record { bytes = c.self.inside.bytes.items; begins = c.self.inside.begins; inside = c.self.inside.inside; refused = c.self.inside.refused } in
    let taken : IsTaken seen items kept = taken_of seen items kept c.in-None.is (subst (IsFed seen items) (sym c.self.view_is) fed) in
    let known = known_of kept c.self.inside.tokenizer c.in-None.is c.self.invariant in
    let lexemes = known_lexemes seen items kept c.self.inside.tokenizer taken known in
    let whole = ends seen lexemes items kept.begins (record {
      divided = subst (IsDivided seen lexemes items kept.begins) c.if-self.false (known_divided seen items kept c.self.inside.tokenizer taken known);
      finished = c.finish-settled.ensures.finishes seen lexemes (known_read seen items kept c.self.inside.tokenizer taken known);
    }) in
    record { short = taken.short; lexemes = whole.lexemes; cut = whole.cut; stream = whole.stream })
    c.end_outside.ensures.ok

pub returns-clause-refused : goal.returns-clause-refused
returns-clause-refused c = λ none. err_says c.end_outside.result _ _ (λ refusal ends seen items fed.
    let kept : Kept = record { bytes = c.self.inside.bytes.items; begins = c.self.inside.begins; inside = c.self.inside.inside; refused = c.self.inside.refused } in
    let taken : IsTaken seen items kept = taken_of seen items kept c.in-None.is (subst (IsFed seen items) (sym c.self.view_is) fed) in
    let known = known_of kept c.self.inside.tokenizer c.in-None.is c.self.invariant in
    let lexemes = known_lexemes seen items kept c.self.inside.tokenizer taken known in
    ends seen lexemes items kept.begins (record {
      divided = subst (IsDivided seen lexemes items kept.begins) c.if-self.false (known_divided seen items kept c.self.inside.tokenizer taken known);
      finished = c.finish-settled.ensures.finishes seen lexemes (known_read seen items kept c.self.inside.tokenizer taken known);
    }))
    c.end_outside.ensures.refused

pub returns-in-Some-clause-answered : goal.returns-in-Some-clause-answered
returns-in-Some-clause-answered c = λ seen items fed.
    answered_before c.in-Some.refusal seen items c.args.self (sym (ap (λ kept. kept.refused) c.self.view_is) ∙ c.in-Some.is)

pub returns-then-self-clause-answered : goal.returns-then-self-clause-answered
returns-then-self-clause-answered c = λ seen items fed.
    let none : c.args.self.refused ≡ None = sym (ap (λ kept. kept.refused) c.self.view_is) ∙ c.in-None.is in
    answered_now c.end_inside.result seen items c.args.self none (returns-then-self-clause-refused c none seen items fed)

pub returns-clause-answered : goal.returns-clause-answered
returns-clause-answered c = λ seen items fed.
    let none : c.args.self.refused ≡ None = sym (ap (λ kept. kept.refused) c.self.view_is) ∙ c.in-None.is in
    answered_of c.end_outside.result seen items c.args.self none fed (returns-clause-ok c) (returns-clause-refused c none)

pub returns-in-Some-clause-memory : goal.returns-in-Some-clause-memory
returns-in-Some-clause-memory c = kept_is_no_memory _ c.self.inside.tokenizer c.in-Some.refusal c.in-Some.is c.self.invariant
