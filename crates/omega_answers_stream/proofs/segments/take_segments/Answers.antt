-- `take_segments`: one more piece, and the rest.
use Rattle.std.proofs.Common.{◌≤◌, length, subst, arith}
use Rattle.std.proofs.lemmas.List.{take_all}
use Rattle.omega_answers_stream.specs.private.steps.Following.{FollowsPiece}
use Rattle.omega_answers_stream.specs.private.steps.Question.{AreAskedBy}
use Rattle.omega_answers_stream.proofs.PieceByPiece.{follows_more, follows_nothing, follows_rest, rest_within, some_follow}
use Rattle.omega_answers_stream.proofs.segments.take_segments.Goals as goal

pub loop-at-init : goal.loop-at-init
loop-at-init g c = record {
  within = omega arith;
  follows = follows_nothing (AreAskedBy g.Q.ItemQuestion c.args.question.now) c.args.asking.now;
}

pub take_piece-requires : goal.take_piece-requires
take_piece-requires g c =
    some_follow (AreAskedBy g.Q.ItemQuestion c.args.question.now) c.args.bytes.now c.loop-at.at c.args.asking.now c.loop-at.asking c.requires c.loop-at.invariant.follows

pub loop-at-preserved : goal.loop-at-preserved
loop-at-preserved g c = record {
  within = c.in-Some.ensures.within;
  follows = follows_more (AreAskedBy g.Q.ItemQuestion c.args.question.now) c.args.bytes.now c.loop-at.at c.in-Some.end c.args.asking.now c.loop-at.asking c.take_piece.new.asking
      (omega (arith, c.in-Some.ensures.forward)) c.loop-at.invariant.follows c.in_ok-take_piece-in-Some.ensures.follows;
}

pub returns-clause-follows : goal.returns-clause-follows
returns-clause-follows g c =
    let all : length c.args.bytes.now ≤ c.loop-at.at = omega (arith, c.loop-at-test.false) in
    subst (λ bytes. FollowsPiece (AreAskedBy g.Q.ItemQuestion c.args.question.now) bytes c.args.asking.now c.loop-at.asking) (take_all c.loop-at.at c.args.bytes.now all) c.loop-at.invariant.follows

pub take_rest-requires : goal.take_rest-requires
take_rest-requires g c =
    rw c.tail.ensures (rest_within (AreAskedBy g.Q.ItemQuestion c.args.question.now) c.args.bytes.now c.loop-at.at c.args.asking.now c.loop-at.asking c.requires c.loop-at.invariant.follows)

pub returns-in-None-clause-follows : goal.returns-in-None-clause-follows
returns-in-None-clause-follows g c =
    follows_rest (AreAskedBy g.Q.ItemQuestion c.args.question.now) c.args.bytes.now c.loop-at.at c.args.asking.now c.loop-at.asking c.take_rest.new.asking c.loop-at.invariant.follows
    (subst (λ bytes. FollowsPiece (AreAskedBy g.Q.ItemQuestion c.args.question.now) bytes c.loop-at.asking c.take_rest.new.asking) c.tail.ensures c.in_ok-take_rest-in-None.ensures.follows)
