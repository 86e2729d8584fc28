-- The words of the cubes are the label's.
use Rattle.std.proofs.Common.{◌∙◌, arith}
use Rattle.omega_hoa_satisfiable.proofs.CubeWords.{given_back, label-words, words-none}
use Rattle.omega_hoa_satisfiable.proofs.cube_words.words_of_cubes.Goals as goal

pub add_cubes-requires : goal.add_cubes-requires
add_cubes-requires c =
    words-none c.as_mut_slice.result.now (c.as_mut_slice.ensures.value ∙ c.in_ok-words.ensures.items_if_clones_equal (λ y e. e))

pub returns-then-add_cubes-clause-words : goal.returns-then-add_cubes-clause-words
returns-then-add_cubes-clause-words c =
    λ tree made.
    let read = c.add_cubes.ensures c.if-add_cubes.true in
    let back = given_back c.in_ok-words.words.len c.add_cubes.new.words c.in_ok-words.words.items (omega (arith, read.1.2.counted, c.in_ok-words.ensures.len)) in
    rw back (label-words c.args.nodes.now c.add_cubes.new.words tree read made)
