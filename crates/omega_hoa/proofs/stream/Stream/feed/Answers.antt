-- A piece gives the same items whatever was fed before, and a stream that had refused gives none.
use Rattle.std.proofs.Common.{◌∙◌, [], ap, sym, append-nil}
use Rattle.omega_hoa.proofs.Feeds.{refused_takes, takes_piece}
use Rattle.omega_hoa.proofs.stream.Stream.feed.Goals as goal

pub returns-in-Some-clause-taken : goal.returns-in-Some-clause-taken
returns-in-Some-clause-taken c = λ no_memory. (
  [],
  sym (append-nil c.args.out.now.items),
  refused_takes c.args.self.now c.args.piece.now c.in-Some.refusal (sym (ap (λ kept. kept.refused) c.self.view_is) ∙ c.in-Some.is),
)

pub returns-in-None-clause-taken : goal.returns-in-None-clause-taken
returns-in-None-clause-taken c = λ no_memory.
    let said = c.feed_sound.ensures in
    let extends = said.extends no_memory in (
      extends.0,
      extends.1,
      takes_piece c.args.out.now.items c.feed_sound.new.out.items c.args.self.now c.feed_sound.new.self c.args.piece.now extends (said.taken no_memory),
    )
