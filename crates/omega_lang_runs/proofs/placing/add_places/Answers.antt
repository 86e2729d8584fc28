-- `add_places`: one place more.
use Rattle.std.proofs.Common.{ℕ, [], ◌∷◌, append_assoc, arith}
use Rattle.std.proofs.lemmas.List.FromFn.{map-range_with_len_more}
use Rattle.omega_lang_runs.specs.declared.place.EdgePlace.{EdgePlace}
use Rattle.omega_lang_runs.specs.private.Placing.{places_in}
use Rattle.omega_lang_runs.proofs.placing.add_places.Goals as goal

pub loop-index-preserved : goal.loop-index-preserved
loop-index-preserved c =
    let place_of : ℕ → EdgePlace = λ index. record { state = c.args.state; index = index } in
    let more = map-range_with_len_more place_of 0 c.loop-index.index c.loop-index.index (omega arith) in
    let added = c.in_ok-push.ensures.items in
    let invariant = c.loop-index.invariant in
    let joined = append_assoc c.args.places.now.items (places_in c.args.state c.loop-index.index) (place_of c.loop-index.index ∷ []) in
    cc (more, added, invariant, joined)
