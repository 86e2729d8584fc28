-- `collected`: the specifications of one node more.
use Rattle.std.proofs.Common.{◌++◌, ◌∷◌, [], List, sym, ap, ◌∙◌, arith}
use Rattle.std.proofs.lemmas.List.FromFn.{map-range_with_len_more}
use Rattle.omega_game_values.specs.declared.node_spec.NodeSpec.{NodeSpec}
use Rattle.omega_arrays.specs.private.Specified.{spec_of}
use Rattle.omega_arrays.proofs.building.specs_of_arrays.Goals as goal

pub loop-place-preserved : goal.loop-place-preserved
loop-place-preserved c =
    let spec = spec_of c.args.arrays.now in
    c.in_ok-add_node.ensures.added
    ∙ ap (λ (specs : List NodeSpec). specs ++ spec c.loop-place.place ∷ []) c.loop-place.invariant
    ∙ sym (map-range_with_len_more spec 0 c.loop-place.place c.loop-place.place (omega arith))
