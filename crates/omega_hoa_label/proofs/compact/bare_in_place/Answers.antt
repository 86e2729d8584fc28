-- What has no parentheses stays as it is.
use Rattle.std.proofs.Common.{[], ap, arith, map, sym, take, ◌∙◌}
use Rattle.std.proofs.lemmas.List.{length-map, length-take-le}
use Rattle.omega_hoa_label.specs.private.layout.Codes.{node_of}
use Rattle.omega_hoa_label.proofs.BareLemmas.{all_bare}
use Rattle.omega_hoa_label.proofs.compact.bare_in_place.Goals as goal

pub returns-then-kept-count-clause-held : goal.returns-then-kept-count-clause-held
returns-then-kept-count-clause-held c =
    ap (λ nodes. record { nodes = nodes; names = []; depth = c.args.depth }) (sym (all_bare (map node_of (take c.args.count c.args.codes))
    (sym c.count_bare_codes-kept.ensures ∙ (c.if-kept-count.true ∙ sym (length-map (take c.args.count c.args.codes) node_of ∙ length-take-le c.args.count c.args.codes (omega (arith, c.requires, c.well_formed)))))))
