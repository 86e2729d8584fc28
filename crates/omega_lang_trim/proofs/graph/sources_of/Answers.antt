-- one start more
use Rattle.std.proofs.Common.{◌≡◌, ◌<◌, ℕ, List, get_or, length, ap, ◌∙◌, arith}
use Rattle.omega_lang_lasso_search.specs.Tabled.{first_of}
use Rattle.omega_lang_lasso_search.proofs.Names.{first_is}
use Rattle.omega_lang_trim.proofs.Among.{mapped_more, place_among}
use Rattle.omega_lang_trim.proofs.graph.sources_of.Goals as goal

pub loop-start-preserved : goal.loop-start-preserved
loop-start-preserved c =
    let keys : List ℕ = c.args.places.now.keys in
    let starts : List (List ℕ) = c.args.automaton.now.starts in
    let index : ℕ = c.loop-start.start-index in
    let start : List ℕ = c.start-item.result in
    let here : c.start-item.result ≡ get_or starts index c.start-item.result = cc in
    let below : index < length starts = omega (arith, ap length c.starts-start-items.ensures) in
    let is : c.place_in.result ≡ place_among keys (first_of (get_or starts index start)) =
    c.place_in.ensures ∙ ap (λ (states : List ℕ). place_among keys (get_or states 0 0)) c.as_slice.ensures ∙ ap (place_among keys) (first_is start)
    ∙ ap (λ (s : List ℕ). place_among keys (first_of s)) here in
    ◌∙◌ {A = List ℕ} c.in_ok-push.ensures.items
    (mapped_more (λ (s : List ℕ). place_among keys (first_of s)) starts index start c.loop-start.sources.items c.place_in.result below c.loop-start.invariant is)
