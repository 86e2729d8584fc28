-- `append_object`: its parts are written one after the other.
use Rattle.std.proofs.Common.{◌++◌, codes}
use Rattle.omega_canon.proofs.Lines.{following}
use Rattle.omega_answers_stream.specs.Show.{count_text}
use Rattle.omega_answers_stream.specs.ShowJson.{item_members}
use Rattle.omega_answers_stream.proofs.show_json.append_object.Goals as goal

pub returns-clause-text : goal.returns-clause-text
returns-clause-text c =
    let before = c.args.out.now.items in
    let head = count_text (codes "{\"automaton\":") c.args.number in
    let members = item_members c.args.item.now in
    following before (head ++ members) (codes "}\n")
    (following before head members c.in_ok-append_count.ensures.text c.in_ok-append_members.ensures.text)
    c.in_ok-extend_from_slice.ensures.items
