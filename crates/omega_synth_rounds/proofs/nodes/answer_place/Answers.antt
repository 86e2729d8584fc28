-- an answer is an edge
use Rattle.std.proofs.Common.{ap, arith, get_or}
use Rattle.omega_synth_rounds.proofs.Making.{answer_below}
use Rattle.omega_synth_rounds.proofs.nodes.answer_place.Goals as goal

pub overflow_add-result : goal.overflow_add-result
overflow_add-result c =
    omega (
      arith,
      answer_below c.args.rounds.now c.requires.rounds c.args.question c.args.at c.requires.question c.requires.at,
      ap (λ list. get_or list c.args.at 0) c.answers_of.ensures,
      c.requires.fits,
    )

pub returns-clause-writable : goal.returns-clause-writable
returns-clause-writable c =
    omega (
      arith,
      answer_below c.args.rounds.now c.requires.rounds c.args.question c.args.at c.requires.question c.requires.at,
      ap (λ list. get_or list c.args.at 0) c.answers_of.ensures,
      c.requires.fits,
    )
