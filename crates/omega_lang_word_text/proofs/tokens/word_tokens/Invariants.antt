-- The tokens so far are a cut up to the place at which the next is looked for.
use Rattle.std.proofs.Common.{◌-◌, ◌≤◌, length, map}
use Rattle.omega_text.specs.Cut.{Cuts}
use Rattle.omega_text.specs.Lexeme.{lexeme_of}
use Rattle.omega_lang_word_text.specs.Cut.{word_format}
use Rattle.omega_lang_word_text.proofs.tokens.word_tokens.Given as goal

abbrev pub invariant-loop-tokens : goal.invariant-loop-tokens
invariant-loop-tokens l = record { cuts : Cuts word_format l.source 0 (map lexeme_of l.tokens.items) l.at; inside : l.at ≤ length l.source }

abbrev pub decreases-loop-tokens : goal.decreases-loop-tokens
decreases-loop-tokens l = length l.source - l.at
