-- `take_piece`: the items of the piece are asked, or its refusal is kept.
use Rattle.std.proofs.Common.{◌≡◌, ◌+◌, ◌≤◌, None, length, ◌∙◌, ap, arith}
use Rattle.omega_text.specs.Limits.{most_text}
use Rattle.omega_text.specs.declared.refusal.Refusal.TheVariants.{Memory}
use Rattle.omega_hoa.specs.Kept.{Kept}
use Rattle.omega_answers_stream.specs.private.steps.Question.{AreAskedBy}
use Rattle.omega_answers_stream.proofs.Follows.{count_within, follows_refused, follows_taken, kept_refusal, ok_no_error, piece_fits, same_as_before, unrefused}
use Rattle.omega_answers_stream.proofs.asking.take_piece.Goals as goal

pub ask_items-requires : goal.ask_items-requires
ask_items-requires g c =
    let kept : Kept = c.args.asking.now.stream in
    let said = c.in-Ok.ensures in
    let none : kept.refused ≡ None = unrefused kept.refused c.in-Ok.field-0 _ (λ refusal says. says.0) said.refused_before in
    let given = c.feed.new.out.items in
    let within : c.args.asking.now.count + length given ≤ most_text =
    count_within (AreAskedBy g.Q.ItemQuestion c.args.question.now) c.requires.0 kept c.args.asking.now.count c.args.asking.now.asked c.requires.1 c.args.piece.now
    c.clear.new.self.items given c.feed.new.self c.clear.ensures.items c.goes_on_one_way.ensures none said.ok
    (said.taken (ok_no_error c.in-Ok.field-0 Memory)) in
    omega (arith, within, ap length c.as_slice.ensures.value)

pub overflow_add-asking : goal.overflow_add-asking
overflow_add-asking g c =
    let kept : Kept = c.args.asking.now.stream in
    let said = c.in-Ok.ensures in
    let none : kept.refused ≡ None = unrefused kept.refused c.in-Ok.field-0 _ (λ refusal says. says.0) said.refused_before in
    let given = c.feed.new.out.items in
    let within : c.args.asking.now.count + length given ≤ most_text =
    count_within (AreAskedBy g.Q.ItemQuestion c.args.question.now) c.requires.0 kept c.args.asking.now.count c.args.asking.now.asked c.requires.1 c.args.piece.now
    c.clear.new.self.items given c.feed.new.self c.clear.ensures.items c.goes_on_one_way.ensures none said.ok
    (said.taken (ok_no_error c.in-Ok.field-0 Memory)) in
    let count : c.len.result ≡ length given = c.len.ensures ∙ c.feed.new.out.ok.0 in
    omega (arith, within, count)

pub returns-in_ok-ask_items-in-Ok-clause-follows : goal.returns-in_ok-ask_items-in-Ok-clause-follows
returns-in_ok-ask_items-in-Ok-clause-follows g c = λ seen short follows.
    let kept : Kept = c.args.asking.now.stream in
    let said = c.in-Ok.ensures in
    let none : kept.refused ≡ None = unrefused kept.refused c.in-Ok.field-0 _ (λ refusal says. says.0) said.refused_before in
    let given = c.feed.new.out.items in
    let count : c.len.result ≡ length given = c.len.ensures ∙ c.feed.new.out.ok.0 in
    let more = c.in_ok-ask_items-in-Ok.ensures.asked in
    rw count
    (follows_taken (AreAskedBy g.Q.ItemQuestion c.args.question.now) seen kept c.args.asking.now.count c.args.asking.now.asked follows c.args.piece.now
    c.clear.new.self.items given c.feed.new.self c.clear.ensures.items c.ask_items.new.asked none said.ok
    (said.taken (ok_no_error c.in-Ok.field-0 Memory))
    (rw (← c.as_slice.ensures.value) more))

pub returns-in_default : goal.returns-in_default
returns-in_default g c = record {
  follows = λ seen short follows.
      let kept : Kept = c.args.asking.now.stream in
      let said = c.in-Err.ensures in
      let refusal = c.in-Err.refusal in
      follows_refused (AreAskedBy g.Q.ItemQuestion c.args.question.now) seen kept c.args.asking.now.count c.args.asking.now.asked follows c.args.piece.now
      c.clear.new.self.items c.feed.new.out.items c.feed.new.self c.clear.ensures.items c.args.asking.now.count c.args.asking.now.asked refusal
      (kept_refusal c.feed.new.self.refused refusal c.in_default.not-Memory said.kept) c.in_default.not-Memory
      (λ none items fed. said.refused none (piece_fits (AreAskedBy g.Q.ItemQuestion c.args.question.now) seen kept c.args.asking.now.count c.args.asking.now.asked follows none (length c.args.piece.now) short) seen items fed)
      (same_as_before kept.refused refusal _ (λ before says. says.0) said.refused_before);
  memory = tt;
}
