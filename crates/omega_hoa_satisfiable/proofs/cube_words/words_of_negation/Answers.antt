-- The words of the part, turned.
use Rattle.std.proofs.Common.{◌∙◌, ap, bit_xor, get_or}
use Rattle.omega_hoa_satisfiable.specs.private.Words.{ones}
use Rattle.omega_hoa_satisfiable.proofs.CubeWords.{turned-words}
use Rattle.omega_hoa_satisfiable.proofs.cube_words.words_of_negation.Goals as goal

pub returns-in_ok-flipped-in-Some-clause-words : goal.returns-in_ok-flipped-in-Some-clause-words
returns-in_ok-flipped-in-Some-clause-words c =
    turned-words c.args.nodes.now c.in-Some.words.items c.in_ok-flipped-in-Some.flipped.items (rw c.in-Some.is at c.in_ok-words_of_cubes.ensures.words) c.in_ok-flipped-in-Some.ensures.counted
    (λ block below. c.in_ok-flipped-in-Some.ensures.flipped block below ∙ ap (λ words. bit_xor (get_or words block 0) ones) c.as_slice.ensures.value)
