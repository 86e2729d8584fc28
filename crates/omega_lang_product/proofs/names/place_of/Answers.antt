-- the first name that has the bytes, or the end
use Rattle.std.proofs.Common.{◌≡◌, [], length, true, get_or, ap, sym, ◌∙◌, arith, rules}
use Rattle.std.specs.Str.{bytes_eq}
use Rattle.std.proofs.lemmas.List.Sums.{position_or_len_is}
use Rattle.omega_lang_product.proofs.Formulas.{same_default}
use Rattle.omega_lang_product.proofs.names.place_of.Goals as goal

pub returns-then-eq : goal.returns-then-eq
returns-then-eq c =
    let here : bytes_eq c.args.name.now c.as_slice.result.now ≡ true = search rules in
    let is : c.as_slice.result.now ≡ get_or c.args.joined.now c.loop-place.place [] =
    c.as_slice.ensures ∙ c.index-joined-place.is ∙ same_default c.args.joined.now c.loop-place.place c.index-joined-place.result [] c.loop-place-test.true in
    sym (position_or_len_is (bytes_eq c.args.name.now) c.args.joined.now c.loop-place.place [] (omega (arith, c.loop-place-test.true)) c.loop-place.invariant
    (λ below. ap (bytes_eq c.args.name.now) (sym is) ∙ here))

pub returns : goal.returns
returns c =
    sym (position_or_len_is (bytes_eq c.args.name.now) c.args.joined.now (length c.args.joined.now) [] (omega arith)
    (λ k below. c.loop-place.invariant k (omega (arith, below, c.loop-place-test.false))) (λ below. absurd (omega (arith, below))))
