-- the words are the same, whatever the parts are
use Rattle.std.proofs.Common.{◌≡◌, ◌++◌, ℕ, List, length}
use Rattle.omega_lang_lasso_word.specs.private.Infix.{Words, signs_words, words_before}
use Rattle.omega_lang_lasso_word.proofs.signs.Infix.turn.Given as goal

abbrev pub invariant-loop-waiting : goal.invariant-loop-waiting
invariant-loop-waiting l =
    (names : List (List ℕ)) (parts : List Words)
    → words_before names l.self.waiting parts ++ signs_words names l.self.signs
    ≡ words_before names l.fn.self.waiting parts ++ signs_words names l.fn.self.signs

abbrev pub decreases-loop-waiting : goal.decreases-loop-waiting
decreases-loop-waiting l = length l.self.waiting
