-- `append_line`: its parts are written one after the other, and what stood before stays in front.
use Rattle.std.proofs.Common.{◌++◌, append_assoc, codes, rules}
use Rattle.std.proofs.Transfers.{starts_with_of_append, starts_with_trans}
use Rattle.std.specs.Prelude.{decimal}
use Rattle.omega_canon.proofs.Lines.{following}
use Rattle.omega_answers_stream.specs.Show.{item_text}
use Rattle.omega_answers_stream.proofs.show.append_line.Goals as goal

pub returns-clause-text : goal.returns-clause-text
returns-clause-text c =
    let before = c.args.out.now.items in
    let number = decimal c.args.number in
    let item = item_text c.args.item.now in
    following before (number ++ codes " " ++ item) (codes "\n")
    (following before (number ++ codes " ") item
    (following before number (codes " ") c.in_ok-write_number.ensures.ok c.in_ok-extend_from_slice.ensures.items) c.in_ok-append_item.ensures.text)
    c.in_ok-extend_from_slice-2.ensures.items

pub returns-in_err-append_item-clause-kept : goal.returns-in_err-append_item-clause-kept
returns-in_err-append_item-clause-kept c =
    starts_with_trans _ _ _ c.append_item.ensures.kept
    (starts_with_of_append _ _ (decimal c.args.number ++ codes " ") (search (rules, append_assoc)))
