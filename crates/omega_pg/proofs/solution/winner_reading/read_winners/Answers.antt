-- `read_winners`: the lines come to the winners of the text, or to its refusal.
use Rattle.omega_pg.specs.private.solution.winners.Lines.{KeepsWinners}
use Rattle.omega_pg.proofs.solutions.Texts.{read_for}
use Rattle.omega_pg.proofs.solutions.WinnerTexts.{winners_read_by, winners_refused_by}
use Rattle.omega_pg.proofs.solution.winner_reading.read_winners.Goals as goal

pub returns-clause-winners : goal.returns-clause-winners
returns-clause-winners c =
    let read = read_for KeepsWinners c.args.bytes.now c.args.game.now c.new-2.result c.in_ok-greatest.field-0 c.new-2.ensures.game c.in_ok-greatest.ensures.read in
    let all = read.all_taken.state.lines in
    winners_read_by c.args.bytes.now c.args.game.now _ _ _ read c.finish.result (λ (winners : _). winners.items)
    (c.finish.ensures.named all read.all_taken.keeps.kept) (c.finish.ensures.winners all read.all_taken.keeps.kept)

pub returns-clause-refused : goal.returns-clause-refused
returns-clause-refused c =
    let read = read_for KeepsWinners c.args.bytes.now c.args.game.now c.new-2.result c.in_ok-greatest.field-0 c.new-2.ensures.game c.in_ok-greatest.ensures.read in
    let all = read.all_taken.state.lines in
    winners_refused_by c.args.bytes.now c.args.game.now _ _ _ read c.finish.result c.finish.ensures.refusal (c.finish.ensures.others all read.all_taken.keeps.kept)
