-- A word that is not 0 shows a valuation; a valuation shows its block.
use Rattle.std.proofs.Common.{◌≡◌, ◌/◌, ◌-◌, ◌^◌, ap, below_more, refl, sym, ◌∙◌, arith, length}
use Rattle.std.proofs.lemmas.Bool.{false≢true}
use Rattle.omega_hoa_satisfiable.specs.Satisfiable.{mentioned}
use Rattle.omega_hoa_satisfiable.specs.private.Words.{peak, word_among, word_of}
use Rattle.omega_hoa_satisfiable.proofs.Valuations.{block-lt, number_of, number_of-lt, some-block}
use Rattle.omega_hoa_satisfiable.proofs.WordLemmas.{held_in, lane-on, on, on-word_of, peak-label, word-is}
use Rattle.omega_hoa_satisfiable.proofs.satisfying.is_true_somewhere.Goals as goal

pub word_of-requires : goal.word_of-requires
word_of-requires c = omega (arith, ap (peak 0) c.nodes-nodes.ensures.nodes, peak-label c.args.label.now c.nodes-nodes.ensures.shallow)

pub returns-then-word_of-ne0-clause-judged : goal.returns-then-word_of-ne0-clause-judged
returns-then-word_of-ne0-clause-judged c =
    let words = word_among c.loop-block.block 0 c.args.found.now in
    let is = word-is words c.args.label.now _ _ c.nodes-nodes.ensures.nodes c.word_of.ensures in
    let lane = lane-on c.word_of.result c.if-word_of-ne0.true c.word_of.type_inv in
    (λ _. (held_in words lane.0, sym (on-word_of words c.args.label.now lane.0 lane.1.0) ∙ (ap (λ word. on word lane.0) (sym is) ∙ lane.1.1)), λ _. refl)

pub loop-block-preserved : goal.loop-block-preserved
loop-block-preserved c =
    below_more (λ block. word_of (word_among block 0 c.args.found.now) c.args.label.now ≡ 0) _ c.loop-block.invariant
    (sym (word-is (word_among c.loop-block.block 0 c.args.found.now) c.args.label.now _ _ c.nodes-nodes.ensures.nodes c.word_of.ensures) ∙ c.if-word_of-ne0.false)

pub returns-clause-judged : goal.returns-clause-judged
returns-clause-judged c = (
  λ none. absurd (false≢true none),
  λ possible.
      let valuation = number_of possible.0 (mentioned c.args.label.now) in
      let within = block-lt (length (mentioned c.args.label.now)) valuation (number_of-lt possible.0 (mentioned c.args.label.now)) in
      let count : c.len.result ≡ length (mentioned c.args.label.now) = c.len.ensures.len ∙ ap length c.requires in
      let blocks : 2 ^ (c.len.result - 6) ≡ 2 ^ (length (mentioned c.args.label.now) - 6) = ap (λ n. 2 ^ (n - 6)) count in
      absurd (some-block possible.0 c.args.label.now possible.1
      (ap (λ found. word_of (word_among (valuation / 64) 0 found) c.args.label.now) (sym c.requires) ∙ c.loop-block.invariant (valuation / 64) (omega (arith, within, blocks, c.blocks-block-end.ensures, c.loop-block-test.false)))),
)
