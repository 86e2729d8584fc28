-- `write_named`: the text of the label, with names.
use Rattle.std.proofs.Common.{None, ◌++◌, ap, ◌∙◌}
use Rattle.omega_hoa_label.specs.Writing.{label_text}
use Rattle.omega_hoa_dot.specs.private.layout.Naming.{with_names}
use Rattle.omega_hoa_dot.proofs.Named.{label_named}
use Rattle.omega_hoa_dot.proofs.naming.write_named.Goals as goal

pub returns-clause-ok : goal.returns-clause-ok
returns-clause-ok c =
    c.in_ok-write_with_names.ensures.ok
    ∙ ap (λ text. c.args.out.now.items ++ with_names c.args.names.now None text)
    (c.as_slice.ensures.value ∙ c.in_ok-write_label.ensures.ok ∙ ap (λ list. list ++ (label_text c.args.label.now).bytes) c.new-text.ensures.items)
    ∙ ap (λ list. c.args.out.now.items ++ list) (label_named c.args.names.now c.requires.few c.args.label.now c.requires.below)
