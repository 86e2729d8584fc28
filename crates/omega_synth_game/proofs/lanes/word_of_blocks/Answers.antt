-- one block more
use Rattle.std.proofs.Common.{◌≡◌, ◌+◌, ◌-◌, ◌*◌, ◌^◌, ◌≤◌, ◌++◌, ℕ, List, length, ap, ◌∙◌, subst, arith, length-append}
use Rattle.std.proofs.Math.Pow.{pow_mono}
use Rattle.omega_hoa_satisfiable.specs.private.Words.{word_among, word_of}
use Rattle.omega_hoa_satisfiable.proofs.WordLemmas.{word-is}
use Rattle.omega_synth_game.proofs.Choices.{IsJoined, folded_answers, joined_more, joined_none}
use Rattle.omega_synth_game.proofs.LaneWords.{atoms_are, free_of}
use Rattle.omega_synth_game.proofs.lanes.word_of_blocks.Goals as goal

pub loop-turn-init : goal.loop-turn-init
loop-turn-init c =
    joined_none (λ turn. word_of (word_among (c.args.lanes.now.block + turn * 2 ^ (length c.args.lanes.now.inputs.now - 6)) 0 c.args.atoms.now) c.args.label.now)

pub later_block-block-requires-clause-block : goal.later_block-block-requires-clause-block
later_block-block-requires-clause-block c =
    let most : 2 ^ length c.args.lanes.now.inputs.now ≤ 2 ^ 12 = pow_mono c.requires.mentioned in
    omega (arith, most, c.requires.block)

pub later_block-block-requires-clause-turn : goal.later_block-block-requires-clause-turn
later_block-block-requires-clause-turn c =
    let few : c.saturating_sub-2.result ≤ 8 = omega (arith, c.requires.few) in
    let most : 2 ^ c.saturating_sub-2.result ≤ 2 ^ 8 = pow_mono few in
    omega (arith, most, c.loop-turn-test.true)

pub loop-turn-preserved : goal.loop-turn-preserved
loop-turn-preserved c =
    let atoms : List ℕ = c.args.atoms.now in
    let first : ℕ = c.args.lanes.now.block in
    let inputs : ℕ = length c.args.lanes.now.inputs.now in
    let turn : ℕ = c.loop-turn.turn in
    let word : c.in_ok-next.next ≡ word_of (word_among (first + turn * 2 ^ (inputs - 6)) 0 atoms) c.args.label.now =
    word-is (word_among c.later_block-block.result 0 atoms) c.args.label.now c.nodes-nodes.result.now c.in_ok-next.next
    c.nodes-nodes.ensures.nodes c.in_ok-next.ensures.word
    ∙ ap (λ block. word_of (word_among block 0 atoms) c.args.label.now) c.later_block-block.ensures in
    joined_more (λ turn. word_of (word_among (first + turn * 2 ^ (inputs - 6)) 0 atoms) c.args.label.now) turn c.loop-turn.word c.in_ok-next.next word c.loop-turn.invariant

pub returns-clause-word : goal.returns-clause-word
returns-clause-word c =
    let controlled : List ℕ = c.args.lanes.now.controlled.now in
    let inputs : List ℕ = c.args.lanes.now.inputs.now in
    let label = c.args.label.now in
    let free : List ℕ = free_of controlled inputs label c.requires.inputs in
    let atoms : c.args.atoms.now ≡ inputs ++ free = c.requires.atoms ∙ atoms_are controlled inputs label c.requires.inputs in
    let count : length c.args.atoms.now ≡ length inputs + length free = ap length atoms ∙ length-append inputs free in
    let less : c.saturating_sub-2.result ≡ length free - (6 - length inputs) = omega (arith, count) in
    let turns : c.loop-turn.turn ≡ 2 ^ (length free - (6 - length inputs)) = omega (arith, c.loop-turn-test.false, ap (λ n. 2 ^ n) less) in
    folded_answers controlled inputs label c.requires.inputs c.args.lanes.now.block c.loop-turn.turn c.loop-turn.word c.folded_word.result turns
    (subst (λ (list : List ℕ). IsJoined (λ turn. word_of (word_among (c.args.lanes.now.block + turn * 2 ^ (length inputs - 6)) 0 list) label) c.loop-turn.turn c.loop-turn.word) atoms c.loop-turn.invariant)
    c.folded_word.ensures
