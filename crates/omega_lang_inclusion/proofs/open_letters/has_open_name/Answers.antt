-- one name is open, or none
use Rattle.std.proofs.Common.{◌≡◌, ℕ, List, get_or, refl, sym, subst, ◌∙◌, arith, true≢false}
use Rattle.std.proofs.lemmas.Bool.{false≢true}
use Rattle.std.proofs.lemmas.Result.{err_from_is_err_and}
use Rattle.omega_lang_inclusion.specs.private.Opened.{IsOpenName, IsUnjudgedName}
use Rattle.omega_lang_inclusion.proofs.Below.{none_at_all, none_more}
use Rattle.omega_lang_inclusion.proofs.open_letters.has_open_name.Goals as goal

pub returns-in_err-is_open_name-clause-refused : goal.returns-in_err-is_open_name-clause-refused
returns-in_err-is_open_name-clause-refused c =
    let here : c.name-item.result ≡ get_or c.args.names.now c.loop-name.name-index c.name-item.result = c.name-item.is in
    let same : c.as_slice.result.now ≡ c.name-item.result = c.as_slice.ensures in
    let p = err_from_is_err_and c.from_residual.result c.from_residual.ensures.1 in
    rw (p.1, p.2) (
      c.name-item.result,
      (c.loop-name.name-index, c.loop-name-test.true, sym here),
      subst (λ (name : List ℕ). IsUnjudgedName c.args.one.now name c.in_err-is_open_name.field-0.0) same c.in_err-is_open_name.ensures.refused,
    )

pub returns-then-branch-clause-right : goal.returns-then-branch-clause-right
returns-then-branch-clause-right c =
    let here : c.name-item.result ≡ get_or c.args.names.now c.loop-name.name-index c.name-item.result = c.name-item.is in
    let same : c.as_slice.result.now ≡ c.name-item.result = c.as_slice.ensures in (
      λ t. (
        c.name-item.result,
        (c.loop-name.name-index, c.loop-name-test.true, sym here),
        subst (IsOpenName c.args.one.now) same (c.in_ok-is_open_name.ensures.right.0 c.if-branch.true),
      ),
      λ found. refl,
    )

pub loop-name-preserved : goal.loop-name-preserved
loop-name-preserved c =
    let here : c.name-item.result ≡ get_or c.args.names.now c.loop-name.name-index c.name-item.result = c.name-item.is in
    let same : c.as_slice.result.now ≡ c.name-item.result = c.as_slice.ensures in
    none_more (IsOpenName c.args.one.now) c.args.names.now c.loop-name.name-index c.name-item.result c.loop-name.invariant c.loop-name-test.true here
    (λ is. true≢false (sym (c.in_ok-is_open_name.ensures.right.1 (subst (IsOpenName c.args.one.now) (sym same) is)) ∙ c.if-branch.false))

pub returns-clause-right : goal.returns-clause-right
returns-clause-right c = (
  λ t. absurd (false≢true t),
  λ found. absurd (none_at_all (IsOpenName c.args.one.now) c.args.names.now c.loop-name.name-index c.loop-name.invariant (omega (arith, c.loop-name-test.false)) found.0 found.1 found.2),
)
