-- `append_size_members`: its parts are written one after the other, and what stood before stays in front.
use Rattle.std.proofs.Common.{◌++◌, ap, codes, length, ◌∙◌}
use Rattle.std.proofs.Transfers.{starts_with_trans}
use Rattle.omega_answers_stream.specs.ShowJson.{acceptance_member}
use Rattle.omega_canon.proofs.Lines.{following}
use Rattle.omega_answers_stream.specs.Show.{count_text}
use Rattle.omega_answers_stream.proofs.show_json.append_size_members.Goals as goal

pub returns-clause-text : goal.returns-clause-text
returns-clause-text c =
    let a = c.args.automaton.now in
    let before = c.args.out.now.items in
    let first = c.append_count.new.out.items in
    let second = c.append_count-2.new.out.items in
    let third = c.append_count-3.new.out.items in
    let fourth = c.append_count-4.new.out.items in
    following before (count_text (codes ",\"states\":") a.states) _
    (c.in_ok-append_count.ensures.text ∙ ap (λ count. before ++ count_text (codes ",\"states\":") count) c.state_count.ensures)
    (following first (count_text (codes ",\"edges\":") _) _
    (c.in_ok-append_count-2.ensures.text ∙ ap (λ count. first ++ count_text (codes ",\"edges\":") count) c.edge_count.ensures)
    (following second (count_text (codes ",\"propositions\":") (length a.propositions)) _
    (c.in_ok-append_count-3.ensures.text ∙ ap (λ names. second ++ count_text (codes ",\"propositions\":") (length names)) c.propositions.ensures)
    (following third (count_text (codes ",\"sets\":") a.sets) (acceptance_member a.acceptance)
    (c.in_ok-append_count-4.ensures.text ∙ ap (λ count. third ++ count_text (codes ",\"sets\":") count) c.set_count.ensures)
    (c.in_ok-append_acceptance_member.ensures.text ∙ ap (λ formula. fourth ++ acceptance_member formula) c.acceptance.ensures))))

pub returns-in_err-append_count-2-clause-kept : goal.returns-in_err-append_count-2-clause-kept
returns-in_err-append_count-2-clause-kept c = starts_with_trans _ _ _ c.append_count-2.ensures.kept c.append_count.ensures.kept

pub returns-in_err-append_count-3-clause-kept : goal.returns-in_err-append_count-3-clause-kept
returns-in_err-append_count-3-clause-kept c = starts_with_trans _ _ _ c.append_count-3.ensures.kept
    (starts_with_trans _ _ _ c.append_count-2.ensures.kept c.append_count.ensures.kept)

pub returns-in_err-append_count-4-clause-kept : goal.returns-in_err-append_count-4-clause-kept
returns-in_err-append_count-4-clause-kept c = starts_with_trans _ _ _ c.append_count-4.ensures.kept
    (starts_with_trans _ _ _ c.append_count-3.ensures.kept
    (starts_with_trans _ _ _ c.append_count-2.ensures.kept c.append_count.ensures.kept))

pub returns-in_err-append_acceptance_member-clause-kept : goal.returns-in_err-append_acceptance_member-clause-kept
returns-in_err-append_acceptance_member-clause-kept c = starts_with_trans _ _ _ c.append_acceptance_member.ensures.kept
    (starts_with_trans _ _ _ c.append_count-4.ensures.kept
    (starts_with_trans _ _ _ c.append_count-3.ensures.kept
    (starts_with_trans _ _ _ c.append_count-2.ensures.kept c.append_count.ensures.kept)))

pub returns-clause-kept : goal.returns-clause-kept
returns-clause-kept c = starts_with_trans _ _ _ c.append_acceptance_member.ensures.kept
    (starts_with_trans _ _ _ c.append_count-4.ensures.kept
    (starts_with_trans _ _ _ c.append_count-3.ensures.kept
    (starts_with_trans _ _ _ c.append_count-2.ensures.kept c.append_count.ensures.kept)))
