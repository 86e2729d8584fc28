-- one start more
use Rattle.std.proofs.Common.{◌≡◌, ◌<◌, ℕ, List, length, get_or, All, sym, ap, ◌∙◌, subst, arith}
use Rattle.std.proofs.lemmas.List.{get_or_default}
use Rattle.std.proofs.lemmas.List.Elements.{All-nil, All-push}
use Rattle.omega_lang_lasso_search.specs.private.Numbering.{name_in}
use Rattle.std.proofs.Common.{map}
use Rattle.omega_lang_lasso_search.proofs.Names.{all_below, grows_not, grows_on, sources_more}
use Rattle.omega_lang_lasso_search.proofs.numbering.sources.Goals as goal

pub loop-start-init : goal.loop-start-init
loop-start-init c = (
  grows_not c.args.met.now.keys,
  c.requires,
  subst (All (λ source. source < length c.args.met.now.keys)) (sym c.new-sources.ensures.items) (All-nil (λ source. source < length c.args.met.now.keys)),
  ap (map (name_in c.args.met.now.keys)) c.new-sources.ensures.items,
)

pub loop-start-preserved : goal.loop-start-preserved
loop-start-preserved c =
    let starts : List ℕ = c.args.starts.now in
    let index : ℕ = c.loop-start.start-index in
    let below : index < length starts = omega arith in
    let start : ℕ = get_or starts index 0 in
    let here : start ≡ get_or starts index start = get_or_default starts index 0 start below in
    let keys : List ℕ = c.loop-start.met.keys in
    let keys' : List ℕ = c.number.new.met.keys in
    let source : ℕ = c.in_ok-source.source in
    let grows = c.in_ok-source.ensures.grows in (
      grows_on index 1 c.args.met.now.keys keys keys' c.loop-start.invariant.0 grows,
      c.in_ok-source.ensures.distinct,
      subst (All (λ number. number < length keys')) (sym c.in_ok-push.ensures.items)
          (All-push (λ number. number < length keys') c.loop-start.sources.items source
          (all_below 1 keys keys' c.loop-start.sources.items grows c.loop-start.invariant.2) c.in_ok-source.ensures.within),
      ap (map (name_in keys')) c.in_ok-push.ensures.items
          ∙ sources_more keys keys' c.loop-start.sources.items starts index source start grows c.loop-start.invariant.2 c.loop-start.invariant.3 below here
          c.in_ok-source.ensures.name,
    )
