-- `append_line`: what stood before stays in front.
use Rattle.std.proofs.Common.{◌++◌, append_assoc, codes, decimal, rules}
use Rattle.std.proofs.Transfers.{starts_with_of_append, starts_with_trans}
use Rattle.omega_text.specs.Refusal.{name_of, number_of}
use Rattle.omega_io.proofs.refusal_text.append_line.Goals as goal

pub returns-in_err-append_place-clause-kept : goal.returns-in_err-append_place-clause-kept
returns-in_err-append_place-clause-kept c =
    let front = codes "omega: " ++ (decimal (number_of c.args.refusal) ++ (codes " " ++ name_of c.args.refusal)) in
    starts_with_trans _ _ _ c.append_place.ensures.kept
    (starts_with_of_append _ _ front (search (rules, append_assoc)))
