-- A text is a stream with at most one list of items.
use Rattle.std.proofs.Common.{subst}
use Rattle.omega_hoa.specs.Stream.{IsStream}
use Rattle.omega_hoa.proofs.OneStream.{streams_one}
use Rattle.omega_hoa.proofs.Readings.{readings_of}
use Rattle.omega_hoa.proofs.laws.streams_are_one.Goals as goal

pub returns : goal.returns
returns c = λ source one other here there.
    streams_one (readings_of c.raws_are_one.ensures c.meanings_are_one.ensures) there.lexemes one other
    (subst (λ ls. IsStream ls one) (c.cuts_are_one.ensures source here.lexemes there.lexemes here.cut there.cut) here.stream) there.stream
