-- one proposition more, and all of them
use Rattle.std.proofs.Common.{◌≡◌, ◌<◌, [], ℕ, List, length, refl, sym, ap₂, ◌∙◌, arith}
use Rattle.std.specs.List.{list_any}
use Rattle.std.specs.Str.{bytes_eq}
use Rattle.std.proofs.lemmas.Bool.{false≢true}
use Rattle.std.proofs.lemmas.List.{get_or_read}
use Rattle.omega_graph.specs.Graph.{listed}
use Rattle.omega_answers_synth.specs.private.Listed.{hold_alike}
use Rattle.omega_answers_synth.proofs.OutputNames.{listed_all, listed_more, unlike_at}
use Rattle.omega_answers_synth.proofs.outputs.are_listed_alike.Goals as goal

pub returns-then-not-hold_alike : goal.returns-then-not-hold_alike
returns-then-not-hold_alike c =
    let names : List (List ℕ) = c.args.names.now in
    let name : List ℕ = c.as_slice.result.now in
    let p : ℕ = c.loop-p.p in
    let below : p < length names = omega (arith, c.loop-p-test.true) in
    let found : c.hold_alike.result ≡ hold_alike (listed c.args.listed.now p) (list_any (bytes_eq name) c.args.outs.now) =
    c.hold_alike.ensures ∙ ap₂ hold_alike c.is_listed.ensures c.is_name_among-named.ensures in (
      λ no. absurd (false≢true no),
      λ alike.
          absurd (unlike_at names c.args.listed.now c.args.outs.now p name below (c.as_slice.ensures ∙ get_or_read names p c.index-names-p.result below c.index-names-p.is [])
          (sym found ∙ c.if-not-hold_alike.true) alike),
    )

pub loop-p-preserved : goal.loop-p-preserved
loop-p-preserved c =
    let names : List (List ℕ) = c.args.names.now in
    let name : List ℕ = c.as_slice.result.now in
    let p : ℕ = c.loop-p.p in
    let below : p < length names = omega (arith, c.loop-p-test.true) in
    let found : c.hold_alike.result ≡ hold_alike (listed c.args.listed.now p) (list_any (bytes_eq name) c.args.outs.now) =
    c.hold_alike.ensures ∙ ap₂ hold_alike c.is_listed.ensures c.is_name_among-named.ensures in
    listed_more names c.args.listed.now c.args.outs.now p name (c.as_slice.ensures ∙ get_or_read names p c.index-names-p.result below c.index-names-p.is [])
    (sym found ∙ c.if-not-hold_alike.false) c.loop-p.invariant

pub returns : goal.returns
returns c = (
  λ yes. listed_all c.args.names.now c.args.listed.now c.args.outs.now c.loop-p.p (omega (arith, c.loop-p-test.false)) c.loop-p.invariant,
  λ alike. refl,
)
