-- the part of the game of the rounds, which has a node for the start
use Rattle.std.proofs.Common.{arith}
use Rattle.std.proofs.lemmas.Result.{IfOk-weaker, err_from_is_err_and}
use Rattle.omega_synth_realize.proofs.Gamed.{memory_ungamed, named_count, rounds_ungamed}
use Rattle.omega_synth_realize.proofs.Realized.{start_is_state}
use Rattle.omega_synth_realize.proofs.Refused.{on_ok_of}
use Rattle.omega_synth_realize.proofs.Sized.{small}
use Rattle.omega_synth_realize.proofs.games.game_from.Goals as goal

pub part-requires : goal.part-requires
part-requires c =
    omega (
      arith,
      start_is_state c.args.automaton.now c.args._controlled.now c.args.parted.now.rounds c.args.parted.now.letters c.args.parted.now.start c.requires.parted,
      named_count c.args.parted.now.rounds c.in_ok-whole.whole c.in_ok-whole.ensures.game,
    )

pub returns-in_err-whole-clause-refused : goal.returns-in_err-whole-clause-refused
returns-in_err-whole-clause-refused c =
    let p = err_from_is_err_and c.from_residual.result c.from_residual.ensures.1 in
    rw (p.1, p.2)
    (rounds_ungamed c.args.automaton.now c.args._controlled.now c.args.parted.now.rounds c.args.parted.now.letters c.args.parted.now.start
    c.requires.parted c.requires.judgeable c.in_err-whole.field-0.0 c.in_err-whole.ensures.refused)

pub returns-clause-game : goal.returns-clause-game
returns-clause-game c =
    IfOk-weaker c.part.result _ _
    (λ game part. record {
      rounds = c.args.parted.now.rounds;
      letters = c.args.parted.now.letters;
      start = c.args.parted.now.start;
      parted = c.requires.parted;
      rounds_kept = c.requires.rounds;
      whole = c.in_ok-whole.whole;
      named = c.in_ok-whole.ensures.game;
      part = part;
    })
    c.part.ensures.part

pub returns-clause-refused : goal.returns-clause-refused
returns-clause-refused c = memory_ungamed c.part.result c.args.automaton.now c.args._controlled.now c.part.ensures.memory

pub returns-clause-small : goal.returns-clause-small
returns-clause-small c =
    on_ok_of c.part.result _
    (small c.args.automaton.now c.args._controlled.now c.args.parted.now.rounds c.args.parted.now.letters c.args.parted.now.start c.requires.parted
    c.in_ok-whole.ensures.fits)
