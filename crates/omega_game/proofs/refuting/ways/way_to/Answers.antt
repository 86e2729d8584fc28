-- `way_to`: the places before the target on a shortest way to it from one of the places through
-- priorities at most `most`.
use Rattle.std.proofs.Common.{◌≡◌, ◌<◌, ℕ, List, Option, Contains, length, slice_index, sym, subst}
use Rattle.omega_game.specs.private.refuting.Ways.{IsWay, LeadsTo}
use Rattle.omega_game.proofs.walks.Ways.{way_leads}
use Rattle.omega_game.proofs.refuting.ways.way_to.Goals as goal

pub index_of-index-requires : goal.index_of-index-requires
index_of-index-requires c =
    subst (λ (xs : List ℕ). Contains xs c.args.target) (sym c.as_slice.ensures.value) (c.in_ok-met.ensures.all c.args.target c.requires.reached)

pub returns : goal.returns
returns c =
    let M = c.in_ok-met.met.places.items in
    let O = c.in_ok-met.met.origins.items in
    let W = c.in_ok-before.before.items in
    let i = c.index_of-index.result in
    let way : IsWay M O i W =
    subst (λ (m : List ℕ). IsWay m O i W) c.as_slice-2.ensures.value
    (subst (λ (o : List (Option ℕ)). IsWay c.as_slice-2.result.now o i W) c.as_slice-3.ensures.value c.in_ok-before.ensures.way) in
    let within : i < length M = subst (λ (m : List ℕ). i < length m) c.as_slice.ensures.value c.index_of-index.ensures.within in
    let found : slice_index M i ≡ c.args.target = subst (λ (m : List ℕ). slice_index m i ≡ c.args.target) c.as_slice.ensures.value c.index_of-index.ensures.found in
    record {
      way = subst (λ (v : ℕ). LeadsTo c.args.game.now c.args.choices.now c.args.most c.args.places.now v W) found
          (way_leads _ _ _ _ M O c.in_ok-met.ensures.tree i W within way);
    }
