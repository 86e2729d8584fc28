-- the first label and the others are the conjunction
use Rattle.std.proofs.Common.{List, ℕ, ◌++◌, ap, sym, ◌∙◌, append_assoc}
use Rattle.std.proofs.lemmas.Result.{on_ok_weaker}
use Rattle.omega_lang_lasso_word.specs.private.Infix.{further_words}
use Rattle.omega_lang_lasso_word.specs.Letters.{label_words}
use Rattle.omega_lang_lasso_word.proofs.Conjunctions.{several_words}
use Rattle.omega_lang_lasso_word.proofs.letters.write_several.Goals as goal

pub returns-clause-text : goal.returns-clause-text
returns-clause-text c =
    let names = c.args.names.now in
    let front = c.args.out.now.items in
    let first = label_words 1 names c.args.first.now in
    let others = further_words names c.args.others.now in
    on_ok_weaker c.write_further.result
    (λ is. is ∙ (ap (λ (words : List ℕ). words ++ others) c.in_ok-write_part.ensures.text
    ∙ (append_assoc front first others ∙ ap (λ (words : List ℕ). front ++ words) (sym (several_words names c.args.first.now c.args.others.now c.requires)))))
    c.write_further.ensures.text
