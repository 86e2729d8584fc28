-- A whole text is one piece of a stream, and then its end.
use Rattle.std.proofs.Common.{[], sym, subst}
use Rattle.omega_text.specs.Cases.{or_memory}
use Rattle.omega_text.specs.declared.refusal.Refusal.TheVariants.{Text}
use Rattle.omega_text.specs.declared.refusal.text.TextFault.TheVariants.{TooLong}
use Rattle.omega_hoa.specs.Stream.{IsStreamRefusal}
use Rattle.omega_hoa.proofs.Results.{error_then}
use Rattle.omega_hoa.proofs.Wholes.{errors_are_one, piece_refused}
use Rattle.omega_hoa.proofs.reading.read_stream.Goals as goal

pub returns-in_err-feed-clause-refused : goal.returns-in_err-feed-clause-refused
returns-in_err-feed-clause-refused c =
    error_then c.from_residual.result _ _ c.from_residual.ensures.1
    (λ error is. subst (or_memory (IsStreamRefusal c.args.bytes.now)) (sym is)
    (piece_refused c.args.bytes.now c.new-stream.result c.new-items.result.items c.feed.new.out.items c.in_err-feed.field-0.0 c.new-stream.ensures.start c.new-stream.ensures.empty
    (λ long. errors_are_one c.in_err-feed.field-0.0 (Text TooLong) (c.in_err-feed.ensures.too_long c.new-stream.ensures.unrefused long).0)
    (λ fits. c.in_err-feed.ensures.refused c.new-stream.ensures.unrefused fits [] [] c.new-stream.ensures.fed)))
