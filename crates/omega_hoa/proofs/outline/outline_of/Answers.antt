-- One token more.
use Rattle.std.proofs.Common.{[], ◌∷◌, ◌++◌}
use Rattle.omega_text.specs.Lexeme.{lexeme_of}
use Rattle.omega_text.specs.hoa.Format.{hoa_format}
use Rattle.omega_hoa.proofs.Cutting.{cuts_push}
use Rattle.omega_hoa.proofs.outline.outline_of.Goals as goal

pub loop-token-preserved : goal.loop-token-preserved
loop-token-preserved c =
    let follows = rw c.in-Some.is at c.in_ok-token.ensures.token in
    let progress = rw c.in-Some.is at c.in_ok-token.ensures.progress in
    let so_far = c.loop-token.invariant.so_far in
    record {
      so_far = record {
        lexemes = so_far.lexemes ++ lexeme_of c.in-Some.token ∷ [];
        cuts = cuts_push hoa_format c.args.source.now 0 c.loop-token.at so_far.lexemes (lexeme_of c.in-Some.token) so_far.cuts follows;
        is = c.with_token-outline.ensures so_far.lexemes so_far.is;
      };
      inside = progress.within;
    }
