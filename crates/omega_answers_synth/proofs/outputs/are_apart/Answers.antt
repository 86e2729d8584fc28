-- one name more, and all of them
use Rattle.std.proofs.Common.{◌≡◌, ◌<◌, ◌≤◌, ◌+◌, Contains, [], ℕ, List, length, get_or, refl, sym, ap, ap₂, subst, ◌∙◌, arith}
use Rattle.std.specs.List.{list_any}
use Rattle.std.specs.Str.{bytes_eq}
use Rattle.std.proofs.lemmas.Bool.{false≢true}
use Rattle.std.proofs.lemmas.List.{get_or_read}
use Rattle.omega_answers_synth.specs.private.Listed.{hold_alike}
use Rattle.omega_answers_synth.proofs.GivenOutputs.{AreApartBelow, IsApart, apart_all, apart_more, unapart_at}
use Rattle.omega_answers_synth.proofs.outputs.are_apart.Goals as goal

pub returns-then-hold_alike : goal.returns-then-hold_alike
returns-then-hold_alike c =
    let names : List (List ℕ) = c.names-name-items.result.now in
    let name : List ℕ = c.as_slice.result.now in
    let k : ℕ = c.loop-name.name-index in
    let below : k < length names = omega (arith, c.loop-name-test.true) in
    let is : name ≡ get_or names k [] = c.as_slice.ensures ∙ get_or_read names k c.name-item.result below c.name-item.is [] in
    let found : c.hold_alike.result ≡ hold_alike (list_any (bytes_eq name) c.args.outs.now) (list_any (bytes_eq name) c.args.ins.now) =
    c.hold_alike.ensures ∙ ap₂ hold_alike c.is_name_among-is_out.ensures (c.is_name_among.ensures ∙ ap (λ (n : List ℕ). list_any (bytes_eq n) c.args.ins.now) (c.as_slice-in-loop-name.ensures ∙ sym c.as_slice.ensures)) in (
      λ no. absurd (false≢true no),
      λ apart.
          absurd (unapart_at names c.args.outs.now c.args.ins.now k name below is (sym found ∙ c.if-hold_alike.true)
          (subst (λ (all : List (List ℕ)). (other : List ℕ) → Contains all other → IsApart c.args.outs.now c.args.ins.now other) (sym c.names-name-items.ensures) apart)),
    )

pub loop-name-preserved : goal.loop-name-preserved
loop-name-preserved c =
    let names : List (List ℕ) = c.names-name-items.result.now in
    let name : List ℕ = c.as_slice.result.now in
    let k : ℕ = c.loop-name.name-index in
    let below : k < length names = omega (arith, c.loop-name-test.true) in
    let is : name ≡ get_or names k [] = c.as_slice.ensures ∙ get_or_read names k c.name-item.result below c.name-item.is [] in
    let found : c.hold_alike.result ≡ hold_alike (list_any (bytes_eq name) c.args.outs.now) (list_any (bytes_eq name) c.args.ins.now) =
    c.hold_alike.ensures ∙ ap₂ hold_alike c.is_name_among-is_out.ensures (c.is_name_among.ensures ∙ ap (λ (n : List ℕ). list_any (bytes_eq n) c.args.ins.now) (c.as_slice-in-loop-name.ensures ∙ sym c.as_slice.ensures)) in
    subst (λ (all : List (List ℕ)). AreApartBelow (k + 1) all c.args.outs.now c.args.ins.now) c.names-name-items.ensures
    (apart_more names c.args.outs.now c.args.ins.now k name is (sym found ∙ c.if-hold_alike.false)
    (subst (λ (all : List (List ℕ)). AreApartBelow k all c.args.outs.now c.args.ins.now) (sym c.names-name-items.ensures) c.loop-name.invariant))

pub returns : goal.returns
returns c = (
  λ yes. apart_all c.args.formula.now.table.names c.args.outs.now c.args.ins.now c.loop-name.name-index
      (subst (λ (all : List (List ℕ)). length all ≤ c.loop-name.name-index) c.names-name-items.ensures (omega (arith, c.loop-name-test.false))) c.loop-name.invariant,
  λ apart. refl,
)
