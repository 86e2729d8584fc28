-- each list is named, and the two are apart
use Rattle.std.proofs.Common.{sym, ◌∙◌}
use Rattle.std.proofs.lemmas.Bool.{false≢true}
use Rattle.omega_answers_synth.proofs.outputs.are_parted.Goals as goal

pub returns-then-not-are_named : goal.returns-then-not-are_named
returns-then-not-are_named c = (
  λ no. absurd (false≢true no),
  λ parted. absurd (false≢true (sym c.if-not-are_named.true ∙ c.are_named.ensures.1 parted.0)),
)

pub returns-then-not-are_named-2 : goal.returns-then-not-are_named-2
returns-then-not-are_named-2 c = (
  λ no. absurd (false≢true no),
  λ parted. absurd (false≢true (sym c.if-not-are_named-2.true ∙ c.are_named-2.ensures.1 parted.1)),
)

pub returns : goal.returns
returns c = (
  λ yes. (c.are_named.ensures.0 c.if-not-are_named.false, c.are_named-2.ensures.0 c.if-not-are_named-2.false, c.are_apart.ensures.0 yes),
  λ parted. c.are_apart.ensures.1 parted.2,
)
