-- A label without aliases is its own expansion, but for its parentheses.
use Rattle.std.proofs.Common.{[], sym, ◌∙◌}
use Rattle.omega_hoa_label_text.specs.Expanding.{entries_of}
use Rattle.omega_hoa_label_text.proofs.BareLemmas.{expansion-bare, shallow-bare}
use Rattle.omega_hoa_label_text.proofs.expansion.expand_faultless.Goals as goal

pub without_parentheses-requires-clause-no_alias : goal.without_parentheses-requires-clause-no_alias
without_parentheses-requires-clause-no_alias c = sym c.has_alias.ensures ∙ c.if-has_alias.false

pub without_parentheses-requires-clause-shallow : goal.without_parentheses-requires-clause-shallow
without_parentheses-requires-clause-shallow c =
    shallow-bare (entries_of [] c.args.aliases.now) c.args.raw (sym c.has_alias.ensures ∙ c.if-has_alias.false) c.requires

pub returns-else-has_alias-clause-ok : goal.returns-else-has_alias-clause-ok
returns-else-has_alias-clause-ok c =
    expansion-bare c.args.aliases.now c.args.raw _ (sym c.has_alias.ensures ∙ c.if-has_alias.false) c.requires c.without_parentheses.ensures
