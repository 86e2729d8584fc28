-- `ask_each`: at the end of the input its text is what was followed.
use Rattle.std.proofs.Common.{◌≡◌, ◌+◌, ◌≤◌, inl, length, refl, arith}
use Rattle.std.proofs.lemmas.Result.{IfOk-weaker}
use Rattle.std.specs.Prelude.{IfErr}
use Rattle.omega_text.specs.Limits.{most_text}
use Rattle.omega_io.specs.Failures.{failures_of}
use Rattle.omega_hoa.specs.Stream.{IsStreamRefusal}
use Rattle.omega_answers_stream.specs.private.steps.Question.{AreAskedBy}
use Rattle.omega_answers_stream.proofs.Pieces.{at_text, none_failed, nothing_read, reads_refused}
use Rattle.omega_answers_stream.proofs.stream_input.ask_each.Goals as goal

pub loop-total-init : goal.loop-total-init
loop-total-init g c = record {
  reading = nothing_read (AreAskedBy g.Q.ItemQuestion c.args.question.now) (g.R.Input.remaining c.args.input.now) c.begin-asking.result c.begin-asking.ensures;
  limit = omega arith;
  counted = refl;
}

pub take_stretch-requires-clause-so_far : goal.take_stretch-requires-clause-so_far
take_stretch-requires-clause-so_far g c = (g.R.Input.remaining c.args.input.now, c.loop-total.invariant.reading)

pub loop-total-preserved : goal.loop-total-preserved
loop-total-preserved g c = record {
  reading = c.in_ok-stretch.ensures.read (g.R.Input.remaining c.args.input.now) c.loop-total.invariant.reading;
  limit = omega (arith, c.in_ok-stretch.ensures.limit);
  counted = omega (arith, c.in_ok-stretch.ensures.counted, c.loop-total.invariant.counted);
}

pub returns-then-stretch-clause-asked : goal.returns-then-stretch-clause-asked
returns-then-stretch-clause-asked g c =
    let reading = c.in_ok-stretch.ensures.read (g.R.Input.remaining c.args.input.now) c.loop-total.invariant.reading in
    let within = c.in_ok-stretch.ensures.whole c.if-stretch.true in
    IfOk-weaker c.end.result _ _
    (λ asked asks. record {
      text = reading.seen;
      read = reading.consumed;
      end = c.in_ok-stretch.ensures.end c.if-stretch.true;
      holds = (let ends = asks reading.seen (reading.follows within) in record { items = ends.0; read = ends.1; asks = ends.2 });
    })
    c.end.ensures.asked

pub returns-then-stretch-clause-refused : goal.returns-then-stretch-clause-refused
returns-then-stretch-clause-refused g c =
    let reading = c.in_ok-stretch.ensures.read (g.R.Input.remaining c.args.input.now) c.loop-total.invariant.reading in
    let within = c.in_ok-stretch.ensures.whole c.if-stretch.true in
    let short : length reading.seen ≤ most_text = omega (arith, within, reading.count) in
    reads_refused c.end.result _ _ reading.seen
    (record {
      consumed = reading.consumed;
      limit = omega (arith, short);
      whole = λ _. c.in_ok-stretch.ensures.end c.if-stretch.true;
    })
    (at_text c.end.result (AreAskedBy g.Q.ItemQuestion c.args.question.now) c.take_stretch.new.asking reading.seen short (reading.follows within) c.end.ensures.refused)

pub returns-then-stretch-clause-counted : goal.returns-then-stretch-clause-counted
returns-then-stretch-clause-counted g c =
    let reading = c.in_ok-stretch.ensures.read (g.R.Input.remaining c.args.input.now) c.loop-total.invariant.reading in
    let within = c.in_ok-stretch.ensures.whole c.if-stretch.true in
    let short : length reading.seen ≤ most_text = omega (arith, within, reading.count) in
    let says : IfErr c.end.result (IsStreamRefusal reading.seen) =
    at_text c.end.result (AreAskedBy g.Q.ItemQuestion c.args.question.now) c.take_stretch.new.asking reading.seen short (reading.follows within) c.end.ensures.refused in
    let none : failures_of c.end.result ≡ 0 = none_failed c.end.result reading.seen says in
    omega (arith, none, c.in_ok-stretch.ensures.counted, c.loop-total.invariant.counted)

pub returns-clause-refused : goal.returns-clause-refused
returns-clause-refused g c =
    let reading = c.loop-total.invariant.reading in
    let long : most_text + 1 ≤ length reading.seen = omega (arith, c.loop-total-test.false, reading.count) in
    record {
      text = reading.seen;
      read = record {
        consumed = reading.consumed;
        limit = omega (arith, c.loop-total.invariant.limit, reading.count);
        whole = λ short. absurd (omega (arith, short, long));
      };
      holds = inl (refl, omega (arith, long));
    }
