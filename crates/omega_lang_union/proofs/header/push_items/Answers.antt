-- the acceptance, its name and the starts after the counts
use Rattle.std.proofs.Common.{ℕ, ◌+◌, ◌++◌, ◌∷◌, [], List, length, map, ap, ap₂, ◌∙◌}
use Rattle.std.proofs.lemmas.List.{append_assoc}
use Rattle.std.proofs.lemmas.Result.{on_ok_weaker}
use Rattle.omega_hoa_automaton.specs.Automaton.{Description}
use Rattle.omega_hoa_acceptance.specs.Raw.{RawAccTree}
use Rattle.omega_hoa_syntax.specs.declared.raw_item.RawItem.{RawItem}
use Rattle.omega_hoa_syntax.specs.declared.raw_item.RawItem.TheVariants as item
use Rattle.omega_lang_trim.specs.Written.{acc_name_items, start_item}
use Rattle.omega_lang_union.specs.Parts.{moved}
use Rattle.omega_lang_union.specs.Sharing.{union_name}
use Rattle.omega_lang_union.specs.declared.sharing.Sharing.{Sharing}
use Rattle.omega_lang_union.proofs.header.push_items.Goals as goal

pub returns-in-Ok-clause-items : goal.returns-in-Ok-clause-items
returns-in-Ok-clause-items c =
    let one : Description = c.args.one.now in
    let other : Description = c.args.other.now in
    let sharing : Sharing = c.args.sharing.now in
    let before : List RawItem = c.args.items.now.items in
    let rest : List RawItem =
    acc_name_items (union_name sharing one other) ++ map start_item (map (moved 0) one.starts ++ map (moved one.states) other.starts) in
    let counts = λ (names : List (List ℕ)). item.States (one.states + other.states) ∷ item.Propositions (length names) names ∷ [] in
    on_ok_weaker c.push_others.result
    (λ pushed.
    pushed
    ∙ ap (λ (items : List RawItem). items ++ item.Acceptance sharing.sets c.args.formula ∷ rest) c.in-Ok.ensures.items
    ∙ append_assoc before (counts c.args.names.items) (item.Acceptance sharing.sets c.args.formula ∷ rest)
    ∙ ap₂ (λ (names : List (List ℕ)) (formula : RawAccTree). before ++ (counts names ++ item.Acceptance sharing.sets formula ∷ rest)) c.requires.names c.requires.formula)
    c.push_others.ensures.items
