-- one term more that is not within it
use Rattle.std.proofs.Common.{◌≡◌, ◌<◌, ℕ, List, length, get_or, take, sym, subst, inl, inr, arith}
use Rattle.std.specs.Prelude.{Contains}
use Rattle.std.proofs.lemmas.Bool.{both_ways, false≢true}
use Rattle.std.proofs.lemmas.List.{take_all}
use Rattle.std.proofs.lemmas.List.Elements.{Contains-push_cases}
use Rattle.omega_ltl_shapes.specs.Terms.{IsWithin}
use Rattle.omega_ltl_shapes.specs.declared.term.Term.{Term}
use Rattle.omega_ltl_shapes.proofs.ItemLemmas.{take_read}
use Rattle.omega_ltl_terms.proofs.pushing.has_within.Goals as goal

pub loop-less-preserved : goal.loop-less-preserved
loop-less-preserved c =
    let terms : List Term = c.args.terms.now in
    let i : ℕ = c.loop-less.less-index in
    let here : c.less-item.result ≡ get_or terms i c.less-item.result = cc in
    let below : i < length terms = omega arith in
    subst (λ (xs : List Term). (less : Term) → Contains xs less → IsWithin less c.args.term.now → ⊥) (take_read terms i c.less-item.result below here)
    (λ less h w. elim (Contains-push_cases (take i terms) c.less-item.result less h) [
      | inl before ↦ c.loop-less.invariant less before w
      | inr same ↦ both_ways c.is_within.result c.if-is_within.false (c.is_within.ensures.1 (subst (λ (t : Term). IsWithin t c.args.term.now) (sym same) w))
    ])

pub returns : goal.returns
returns c = (
  λ h. absurd (false≢true h),
  λ has. absurd (subst (λ (xs : List Term). (less : Term) → Contains xs less → IsWithin less c.args.term.now → ⊥)
      (take_all c.loop-less.less-index c.args.terms.now (omega arith)) c.loop-less.invariant has.0 has.1 has.2),
)
