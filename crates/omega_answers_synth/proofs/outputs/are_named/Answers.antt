-- one name more, and all of them
use Rattle.std.proofs.Common.{◌<◌, [], ℕ, List, length, refl, sym, ap, ◌∙◌, arith}
use Rattle.std.specs.List.{list_any}
use Rattle.std.specs.Str.{bytes_eq}
use Rattle.std.proofs.lemmas.Bool.{false≢true}
use Rattle.std.proofs.lemmas.List.{get_or_read}
use Rattle.omega_answers_synth.proofs.OutputNames.{named_all, named_more, unnamed_at}
use Rattle.omega_answers_synth.proofs.outputs.are_named.Goals as goal

pub returns-then-not-is_name_among : goal.returns-then-not-is_name_among
returns-then-not-is_name_among c =
    let names : List (List ℕ) = c.args.names.now in
    let name : List ℕ = c.as_slice.result.now in
    let k : ℕ = c.loop-name.name-index in
    let below : k < length names = omega (arith, c.loop-name-test.true) in (
      λ no. absurd (false≢true no),
      λ named.
          absurd (unnamed_at names c.args.formula.now.table.names k name below (c.as_slice.ensures ∙ get_or_read names k c.name-item.result below c.name-item.is [])
          (sym (ap (λ (others : List (List ℕ)). list_any (bytes_eq name) others) c.names.ensures) ∙ sym c.is_name_among.ensures ∙ c.if-not-is_name_among.true) named),
    )

pub loop-name-preserved : goal.loop-name-preserved
loop-name-preserved c =
    let names : List (List ℕ) = c.args.names.now in
    let name : List ℕ = c.as_slice.result.now in
    let k : ℕ = c.loop-name.name-index in
    let below : k < length names = omega (arith, c.loop-name-test.true) in
    named_more names c.args.formula.now.table.names k name (c.as_slice.ensures ∙ get_or_read names k c.name-item.result below c.name-item.is [])
    (sym (ap (λ (others : List (List ℕ)). list_any (bytes_eq name) others) c.names.ensures) ∙ sym c.is_name_among.ensures ∙ c.if-not-is_name_among.false) c.loop-name.invariant

pub returns : goal.returns
returns c = (
  λ yes. named_all c.args.names.now c.args.formula.now.table.names c.loop-name.name-index (omega (arith, c.loop-name-test.false)) c.loop-name.invariant,
  λ named. refl,
)
