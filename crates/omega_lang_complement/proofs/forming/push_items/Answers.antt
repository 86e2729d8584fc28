-- the acceptance after the counts
use Rattle.std.proofs.Common.{◌++◌, ◌+◌, ◌∷◌, [], List, ap, ◌∙◌}
use Rattle.std.proofs.lemmas.List.{append_assoc}
use Rattle.std.proofs.lemmas.Result.{on_ok_weaker}
use Rattle.omega_hoa_acceptance.specs.Raw.{RawAccTree}
use Rattle.omega_hoa_syntax.specs.declared.raw_item.RawItem.{RawItem}
use Rattle.omega_hoa_syntax.specs.declared.raw_item.RawItem.TheVariants as item
use Rattle.omega_lang_complement.specs.Written.{one_if, propositions_item, start_or_sink}
use Rattle.omega_lang_complement.proofs.forming.push_items.Goals as goal

pub returns-in-Ok-clause-items : goal.returns-in-Ok-clause-items
returns-in-Ok-clause-items c =
    let before : List RawItem = c.args.items.now.items in
    let counts : List RawItem =
    item.States (c.args.automaton.now.states + one_if c.args.sink) ∷ item.Start (start_or_sink c.args.automaton.now) ∷ propositions_item c.args.automaton.now ∷ [] in
    on_ok_weaker c.push_acceptance.result
    (λ pushed.
    pushed
    ∙ ap (λ (items : List RawItem). items ++ item.Acceptance (c.args.automaton.now.sets + one_if c.args.sink) c.args.formula ∷ []) c.in-Ok.ensures.items
    ∙ append_assoc before counts (item.Acceptance (c.args.automaton.now.sets + one_if c.args.sink) c.args.formula ∷ [])
    ∙ ap (λ (formula : RawAccTree). before ++ (counts ++ item.Acceptance (c.args.automaton.now.sets + one_if c.args.sink) formula ∷ [])) c.requires.formula)
    c.push_acceptance.ensures.items
