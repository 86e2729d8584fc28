-- The propositions of the one are added, and then those of the other.
use Rattle.std.proofs.Common.{ap, arith, length, sym, ◌∙◌}
use Rattle.omega_hoa_label.specs.Label.{propositions}
use Rattle.omega_hoa_satisfiable.specs.Satisfiable.{each_once}
use Rattle.omega_hoa_satisfiable.proofs.Valuations.{each_once-append, length-each_once}
use Rattle.omega_hoa_satisfiable.proofs.together.mention_both.Goals as goal

pub returns-then-not-has_room-clause-full : goal.returns-then-not-has_room-clause-full
returns-then-not-has_room-clause-full c =
    let one = propositions c.args.one.now in
    let other = propositions c.args.other.now in
    let full = c.mention-has_room.ensures.full c.if-not-has_room.true in
    λ _. omega (arith, full, length-each_once (each_once c.args.found.now one) other, ap length (each_once-append c.args.found.now one other))

pub returns-clause-added : goal.returns-clause-added
returns-clause-added c =
    let one = propositions c.args.one.now in
    let other = propositions c.args.other.now in
    λ room.
    c.mention-has_room_too.ensures.added room
    ∙ (ap (λ seen. each_once seen other) (c.mention-has_room.ensures.added c.if-not-has_room.false) ∙ sym (each_once-append c.args.found.now one other))

pub returns-clause-full : goal.returns-clause-full
returns-clause-full c =
    let one = propositions c.args.one.now in
    let other = propositions c.args.other.now in
    λ none.
    let full = c.mention-has_room_too.ensures.full none in
    omega (arith, full, ap (λ seen. length (each_once seen other)) (c.mention-has_room.ensures.added c.if-not-has_room.false), ap length (each_once-append c.args.found.now one other))
