-- A word that is not 0 shows a valuation; a valuation shows its block.
use Rattle.std.proofs.Common.{◌≡◌, ◌/◌, ◌-◌, ◌^◌, ap, below_more, refl, sym, ◌∙◌, arith, length}
use Rattle.std.proofs.lemmas.Bool.{false≢true}
use Rattle.omega_hoa_label.specs.Label.{conjunction}
use Rattle.omega_hoa_satisfiable.specs.Satisfiable.{mentioned}
use Rattle.omega_hoa_satisfiable.specs.private.Words.{peak, word_among, word_of}
use Rattle.omega_hoa_satisfiable.proofs.Valuations.{block-lt, number_of, number_of-lt, some-block}
use Rattle.omega_hoa_satisfiable.proofs.WordLemmas.{held_in, lane-on, on, on-word_of, peak-label, word-of-both}
use Rattle.omega_hoa_satisfiable.proofs.together.are_true_somewhere.Goals as goal

pub word_of_both-requires-clause-one : goal.word_of_both-requires-clause-one
word_of_both-requires-clause-one c = omega (arith, ap (peak 0) c.nodes-nodes.ensures.nodes, peak-label c.args.one.now c.nodes-nodes.ensures.shallow)

pub word_of_both-requires-clause-other : goal.word_of_both-requires-clause-other
word_of_both-requires-clause-other c = omega (arith, ap (peak 0) c.nodes-others.ensures.nodes, peak-label c.args.other.now c.nodes-others.ensures.shallow)

pub returns-then-word_of_both-ne0-clause-judged : goal.returns-then-word_of_both-ne0-clause-judged
returns-then-word_of_both-ne0-clause-judged c =
    let words = word_among c.loop-block.block 0 c.args.found.now in
    let both = conjunction c.args.one.now c.args.other.now in
    let is = word-of-both words c.args.one.now c.args.other.now _ _ _ c.nodes-nodes.ensures.nodes c.nodes-others.ensures.nodes c.word_of_both.ensures in
    let lane = lane-on c.word_of_both.result c.if-word_of_both-ne0.true c.word_of_both.type_inv in
    (λ _. (held_in words lane.0, sym (on-word_of words both lane.0 lane.1.0) ∙ (ap (λ word. on word lane.0) (sym is) ∙ lane.1.1)), λ _. refl)

pub loop-block-preserved : goal.loop-block-preserved
loop-block-preserved c =
    below_more (λ block. word_of (word_among block 0 c.args.found.now) (conjunction c.args.one.now c.args.other.now) ≡ 0) _ c.loop-block.invariant
    (sym (word-of-both (word_among c.loop-block.block 0 c.args.found.now) c.args.one.now c.args.other.now _ _ _ c.nodes-nodes.ensures.nodes c.nodes-others.ensures.nodes
    c.word_of_both.ensures) ∙ c.if-word_of_both-ne0.false)

pub returns-clause-judged : goal.returns-clause-judged
returns-clause-judged c = (
  λ none. absurd (false≢true none),
  λ possible.
      let both = conjunction c.args.one.now c.args.other.now in
      let valuation = number_of possible.0 (mentioned both) in
      let within = block-lt (length (mentioned both)) valuation (number_of-lt possible.0 (mentioned both)) in
      let count : c.len.result ≡ length (mentioned both) = c.len.ensures.len ∙ ap length c.requires in
      let blocks : 2 ^ (c.len.result - 6) ≡ 2 ^ (length (mentioned both) - 6) = ap (λ n. 2 ^ (n - 6)) count in
      absurd (some-block possible.0 both possible.1
      (ap (λ found. word_of (word_among (valuation / 64) 0 found) both) (sym c.requires) ∙ c.loop-block.invariant (valuation / 64) (omega (arith, within, blocks, c.blocks-block-end.ensures, c.loop-block-test.false)))),
)
