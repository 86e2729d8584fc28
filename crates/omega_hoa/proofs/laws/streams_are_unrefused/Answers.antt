-- A stream has no refusal.
use Rattle.std.proofs.Common.{arith, inl, inr}
use Rattle.omega_hoa.proofs.OneStream.{stream_unrefused}
use Rattle.omega_hoa.proofs.Readings.{readings_of}
use Rattle.omega_hoa.proofs.laws.streams_are_unrefused.Goals as goal

pub returns : goal.returns
returns c = λ source items refusal text refused. elim refused [
  | inl long ↦ let short = text.short in omega (arith, long.1, short)
  | inr fault ↦
      stream_unrefused (readings_of c.raws_are_one.ensures c.meanings_are_one.ensures) c.goes_on_one_way.ensures source text.lexemes items fault.1.0 refusal text.cut text.stream fault.1.1
]
