-- the edge is joined to one of the list, or put behind it
use Rattle.std.proofs.Common.{◌<◌, ℕ, List, length, refl, subst, sym, arith}
use Rattle.std.proofs.lemmas.Result.{on_ok_weaker}
use Rattle.omega_ltl_translation.specs.declared.joining.JoinedEdge.{JoinedEdge}
use Rattle.omega_ltl_translation.specs.private.Joining.{AddsJoined, IsJoinable, IsPlaceToJoin}
use Rattle.omega_ltl_translation.proofs.JoiningLemmas.{joined_alone, joined_at}
use Rattle.omega_ltl_translation.proofs.joining.push_joined.Goals as goal

pub returns-then-at-len-clause-adds : goal.returns-then-at-len-clause-adds
returns-then-at-len-clause-adds c =
    let old : List JoinedEdge = c.args.joined.now.items in
    let at : ℕ = c.place_of-at.result in
    let one : JoinedEdge = c.index_mut.result.now in
    let below : at < length old = omega arith in
    let place : IsPlaceToJoin c.args.edge old at = subst (λ (xs : List JoinedEdge). IsPlaceToJoin c.args.edge xs at) c.as_slice.ensures.value c.place_of-at.ensures in
    on_ok_weaker c.push_cube.result
    (λ more. joined_at c.args.edge old at one c.push_cube.new.joined below c.index_mut.ensures.value (subst (IsJoinable c.args.edge) (sym c.index_mut.ensures.value) (place below one)) more)
    c.push_cube.ensures.ok

pub returns-clause-adds : goal.returns-clause-adds
returns-clause-adds c =
    subst (AddsJoined c.args.edge c.args.joined.now.items) (sym c.in_ok-push.ensures.items)
    (joined_alone c.args.edge c.args.joined.now.items (record { cubes = c.in_ok-vec.field-0; target = c.args.edge.target; late = c.args.edge.late }) c.in_ok-vec.ensures.items refl refl)
