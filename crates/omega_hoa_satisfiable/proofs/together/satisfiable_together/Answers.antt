-- One proposition that finds no room is one too many.
use Rattle.std.proofs.Common.{◌≡◌, ap, arith, length, refl}
use Rattle.omega_hoa_label.specs.Label.{conjunction, propositions}
use Rattle.omega_hoa_satisfiable.specs.Satisfiable.{each_once, mentioned}
use Rattle.omega_hoa_satisfiable.proofs.together.satisfiable_together.Goals as goal

pub returns-then-not-mention_both-clause-err : goal.returns-then-not-mention_both-clause-err
returns-then-not-mention_both-clause-err c =
    let full = c.mention_both.ensures.full c.if-not-mention_both.true in
    let both = conjunction c.args.one.now c.args.other.now in
    let start : length (each_once c.new-found.result (propositions both)) ≡ length (mentioned both) = ap (λ seen. length (each_once seen (propositions both))) c.new-found.ensures in
    (refl, omega (arith, full, start))

pub returns-clause-ok : goal.returns-clause-ok
returns-clause-ok c = record { within = c.are_true_somewhere.ensures.within; judged = c.are_true_somewhere.ensures.judged }
