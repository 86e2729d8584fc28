-- The tokens so far, and the one that is pushed, are a cut.
use Rattle.std.proofs.Common.{◌≡◌, ℕ, List, [], ◌∷◌, ◌++◌, map, is_ok, sym, ap, subst}
use Rattle.std.proofs.ResultArms.{chosen}
use Rattle.omega_text.specs.Cut.{Cuts}
use Rattle.omega_text.specs.Lexeme.{lexeme_of}
use Rattle.omega_text.specs.declared.token.Token.{Token}
use Rattle.omega_text.specs.declared.hoa.kind.HoaKind.{HoaKind}
use Rattle.omega_text.proofs.formats.Cutting.{cuts_push}
use Rattle.omega_lang_word_text.specs.Cut.{word_format}
use Rattle.omega_lang_word_text.proofs.tokens.word_tokens.Goals as goal

-- tokens with one pushed, which follows them
more_cuts : (source : List ℕ) (tokens pushed : List (Token HoaKind)) (at : ℕ) (token : Token HoaKind) → pushed ≡ tokens ++ token ∷ []
    → Cuts word_format source 0 (map lexeme_of tokens) at → word_format.follows source at (lexeme_of token) → Cuts word_format source 0 (map lexeme_of pushed) token.span.end
more_cuts source tokens pushed at token is cuts follows =
    subst (λ (list : List (Token HoaKind)). Cuts word_format source 0 (map lexeme_of list) token.span.end) (sym is) (cuts_push word_format source tokens at token cuts follows)

pub loop-tokens-preserved : goal.loop-tokens-preserved
loop-tokens-preserved c =
    let pushed = chosen _ _ _ _ c.push.ensures.items (ap is_ok c.in_ok-push.was) in
    let follows = rw c.in-Some.is at c.in_ok-token.ensures.token in
    let progress = rw c.in-Some.is at c.in_ok-token.ensures.progress in
    record {
      cuts = more_cuts c.args.source.now c.loop-tokens.tokens.items c.push.new.self.items c.loop-tokens.at c.in-Some.token pushed c.loop-tokens.invariant.cuts follows;
      inside = progress.within;
    }
