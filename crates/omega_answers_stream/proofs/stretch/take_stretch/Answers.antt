-- `take_stretch`: the bytes that are read are followed, if they are within the limit.
use Rattle.std.proofs.Common.{refl, subst, arith, ◌∙◌}
use Rattle.omega_answers_stream.specs.private.steps.Following.{FollowsPiece}
use Rattle.omega_answers_stream.specs.private.steps.Question.{AreAskedBy}
use Rattle.omega_answers_stream.proofs.Pieces.{reads_past, reads_piece}
use Rattle.omega_answers_stream.proofs.stretch.take_stretch.Goals as goal

pub take_segments-requires : goal.take_segments-requires
take_segments-requires g c =
    let reading = c.requires.so_far.1 in
    (reading.seen, omega (arith, reading.count, c.if-total-count-gt-MOST_TEXT.false), reading.follows c.requires.short)

pub returns-clause-read : goal.returns-clause-read
returns-clause-read g c = λ before reading.
    reads_piece (AreAskedBy g.Q.ItemQuestion c.args.question.now) before (g.R.Input.remaining c.args.input.now) (g.R.Input.remaining c.read_stretch.new.input) c.args.total c.args.asking.now c.take_segments.new.asking
    c.in_ok-bytes.bytes.items c.len-count.result _ reading c.requires.short c.in_ok-bytes.ensures.consumed (c.len-count.ensures ∙ c.in_ok-bytes.bytes.ok.0) refl
    (subst (λ bytes. FollowsPiece (AreAskedBy g.Q.ItemQuestion c.args.question.now) bytes c.args.asking.now c.take_segments.new.asking) c.as_slice.ensures.value c.in_ok-take_segments.ensures.follows)

pub returns-then-total-count-gt-MOST_TEXT-clause-read : goal.returns-then-total-count-gt-MOST_TEXT-clause-read
returns-then-total-count-gt-MOST_TEXT-clause-read g c = λ before reading.
    reads_past (AreAskedBy g.Q.ItemQuestion c.args.question.now) before (g.R.Input.remaining c.args.input.now) (g.R.Input.remaining c.read_stretch.new.input) c.args.total c.args.asking.now
    c.in_ok-bytes.bytes.items c.len-count.result _ reading c.in_ok-bytes.ensures.consumed (c.len-count.ensures ∙ c.in_ok-bytes.bytes.ok.0) refl (λ within. omega (arith, within, c.if-total-count-gt-MOST_TEXT.true))
