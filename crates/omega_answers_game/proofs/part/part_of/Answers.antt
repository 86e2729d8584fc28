-- `part_of`: the part is that of the place of the identifier.
use Rattle.std.proofs.Common.{refl, sym}
use Rattle.std.proofs.lemmas.Result.{IfErr-weaker, IfOk-weaker}
use Rattle.omega_answers_game.proofs.Identifiers.{identified-nowhere, identified-place}
use Rattle.omega_answers_game.proofs.part.part_of.Goals as goal

pub returns-in-None-clause-refused : goal.returns-in-None-clause-refused
returns-in-None-clause-refused c =
    (refl, identified-nowhere c.args.game.now c.args.identifier (sym c.in-None.ensures))

pub returns-clause-part : goal.returns-clause-part
returns-clause-part c =
    IfOk-weaker c.forward_part.result _ _
    (λ part reached. record {
      place = c.in-Some.place;
      identified = identified-place c.args.game.now c.args.identifier c.in-Some.place (sym c.in-Some.ensures);
      reached = reached;
    })
    c.forward_part.ensures.part

pub returns-clause-refused : goal.returns-clause-refused
returns-clause-refused c = IfErr-weaker c.forward_part.result _ _ (λ refusal e. rw e tt) c.forward_part.ensures.memory
