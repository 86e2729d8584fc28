-- In place no byte stands for an alias, and those that stand for no parentheses are counted.
use Rattle.std.proofs.Common.{◌≡◌, ap, count_by, sym, take, ◌∙◌}
use Rattle.std.specs.List.{list_any}
use Rattle.omega_hoa_label.specs.Bare.{is_alias, is_bare}
use Rattle.omega_hoa_label.specs.private.layout.Compact.{notation_in}
use Rattle.omega_hoa_label.specs.declared.compact.Held.TheVariants.{Short}
use Rattle.omega_hoa_label.proofs.CodeLemmas.{no_alias-codes}
use Rattle.omega_hoa_label.proofs.compact.Compact.bare_size.Goals as goal

pub returns-in-Short : goal.returns-in-Short
returns-in-Short c =
    let is : notation_in (Short c.in-Short.count c.in-Short.depth c.in-Short.codes) ≡ c.args.self.now = ap notation_in (sym c.in-Short.is) ∙ c.self.view_is in (
      sym (ap (λ n. list_any is_alias n.nodes) is) ∙ no_alias-codes (take c.in-Short.count c.in-Short.codes),
      c.count_bare_codes.ensures ∙ ap (λ n. count_by is_bare n.nodes) is,
    )
