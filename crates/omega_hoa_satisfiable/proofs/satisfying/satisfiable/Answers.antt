-- One proposition that finds no room is one too many.
use Rattle.std.proofs.Common.{◌≡◌, ap, arith, length, refl}
use Rattle.omega_hoa_label.specs.Label.{propositions}
use Rattle.omega_hoa_satisfiable.specs.Satisfiable.{each_once, mentioned}
use Rattle.omega_hoa_satisfiable.proofs.satisfying.satisfiable.Goals as goal

pub returns-then-not-mention-clause-err : goal.returns-then-not-mention-clause-err
returns-then-not-mention-clause-err c =
    let full = c.mention.ensures.full c.if-not-mention.true in
    let start : length (each_once c.new-found.result (propositions c.args.label.now)) ≡ length (mentioned c.args.label.now) = ap (λ seen. length (each_once seen (propositions c.args.label.now))) c.new-found.ensures in
    (refl, omega (arith, full, start))

pub returns-clause-ok : goal.returns-clause-ok
returns-clause-ok c = record { within = c.is_true_somewhere.ensures.within; judged = c.is_true_somewhere.ensures.judged }
