-- one label alone, or several
use Rattle.std.proofs.Common.{◌≡◌, List, [], ◌++◌, ap, fold, length, sym, ◌∙◌, rules}
use Rattle.std.proofs.lemmas.List.{nil_from_length}
use Rattle.std.proofs.lemmas.Result.{on_ok_weaker}
use Rattle.omega_hoa_label.specs.Label.{LabelTree, conjunction}
use Rattle.omega_lang_lasso_word.specs.Letters.{label_words}
use Rattle.omega_lang_lasso_word.proofs.letters.write_joined.Goals as goal

pub returns-then-is_empty-clause-text : goal.returns-then-is_empty-clause-text
returns-then-is_empty-clause-text c =
    let few : length c.args.others.now ≡ 0 = search rules in
    let none : c.args.others.now ≡ [] = nil_from_length c.args.others.now few in
    on_ok_weaker c.write_part.result
    (λ is. is ∙ ap (λ (others : List LabelTree). c.args.out.now.items ++ label_words 0 c.args.names.now (fold conjunction c.args.first.now others)) (sym none))
    c.write_part.ensures.text
