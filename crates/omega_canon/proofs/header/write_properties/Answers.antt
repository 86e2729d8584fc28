-- `write_properties`: its parts are the line.
use Rattle.std.proofs.Common.{◌++◌, ap, codes, ◌∙◌}
use Rattle.omega_canon.specs.HeaderText.{properties_line}
use Rattle.omega_canon.specs.Parts.{words}
use Rattle.omega_canon.proofs.Lines.{following, some_properties}
use Rattle.omega_canon.proofs.header.write_properties.Goals as goal

pub returns-in_ok-push-clause-ok : goal.returns-in_ok-push-clause-ok
returns-in_ok-push-clause-ok c =
    following c.args.out.now.items (codes "properties:") _ c.in_ok-extend_from_slice.ensures.items
    (following c.extend_from_slice.new.self.items (words c.properties-properties.result.now) (codes "\n") c.in_ok-write_words.ensures.ok c.in_ok-push.ensures.items)
    ∙ ap (λ line. c.args.out.now.items ++ line)
    (some_properties c.properties-properties.result.now c.in-len1-up.len_at_least ∙ ap properties_line c.properties-properties.ensures)
