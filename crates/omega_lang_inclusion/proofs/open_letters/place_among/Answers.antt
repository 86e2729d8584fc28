-- the first name that has the bytes, or the end
use Rattle.std.proofs.Common.{◌≡◌, [], length, true, get_or, ap, sym, ◌∙◌, arith, rules}
use Rattle.std.specs.Str.{bytes_eq}
use Rattle.std.proofs.lemmas.List.{get_or_default}
use Rattle.std.proofs.lemmas.List.Sums.{position_or_len_is}
use Rattle.omega_lang_inclusion.proofs.open_letters.place_among.Goals as goal

pub returns-then-eq : goal.returns-then-eq
returns-then-eq c =
    let here : bytes_eq c.args.name.now c.as_slice.result.now ≡ true = search rules in
    let is : c.as_slice.result.now ≡ get_or c.args.names.now c.loop-place.place [] =
    c.as_slice.ensures ∙ c.index-names-place.is ∙ get_or_default c.args.names.now c.loop-place.place c.index-names-place.result [] c.loop-place-test.true in
    sym (position_or_len_is (bytes_eq c.args.name.now) c.args.names.now c.loop-place.place [] (omega (arith, c.loop-place-test.true)) c.loop-place.invariant
    (λ below. ap (bytes_eq c.args.name.now) (sym is) ∙ here))

pub returns : goal.returns
returns c =
    sym (position_or_len_is (bytes_eq c.args.name.now) c.args.names.now (length c.args.names.now) [] (omega arith)
    (λ k below. c.loop-place.invariant k (omega (arith, below, c.loop-place-test.false))) (λ below. absurd (omega (arith, below))))
