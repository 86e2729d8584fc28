-- A label without aliases has its own extent.
use Rattle.std.proofs.Common.{[], ap, min, ◌∙◌}
use Rattle.omega_hoa_expression.specs.Limits.{past_size}
use Rattle.omega_hoa_label_text.specs.Expanding.{entries_of}
use Rattle.omega_hoa_label_text.proofs.BareLemmas.{extent-bare}
use Rattle.omega_hoa_label_text.proofs.aliases.Aliases.measure.Goals as goal

pub returns-in-Some-clause-ok : goal.returns-in-Some-clause-ok
returns-in-Some-clause-ok c =
    let bare = rw c.in-Some.is at c.bare_size.ensures in
    extent-bare (entries_of [] c.args.self.now) c.args.raw.now c.extent_without_aliases.result bare.0
    (c.extent_without_aliases.ensures.depth ∙ c.depth.ensures) (c.extent_without_aliases.ensures.size ∙ ap (λ n. min n past_size) bare.1)
