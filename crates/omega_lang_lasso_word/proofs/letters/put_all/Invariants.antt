-- the nodes that are left make the front of the words
use Rattle.std.proofs.Common.{◌≡◌, ℕ, [], List, length}
use Rattle.omega_lang_lasso_word.specs.private.Infix.{whole_words, words_after}
use Rattle.omega_lang_lasso_word.proofs.letters.put_all.Given as goal

abbrev pub invariant-loop-node : goal.invariant-loop-node
invariant-loop-node l =
    (names : List (List ℕ))
    → whole_words names l.text (words_after names [] l.left) ≡ whole_words names l.fn.text (words_after names [] l.fn.nodes)

abbrev pub decreases-loop-node : goal.decreases-loop-node
decreases-loop-node l = length l.left
