-- Hanoi texts as a format.
use Rattle.omega_text.specs.Format.{TextFormat}
use Rattle.omega_text.specs.declared.hoa.kind.HoaKind.{HoaKind}
use Rattle.omega_text.specs.hoa.Cut.{Ends, Follows}
use Rattle.omega_text.specs.hoa.Fault.{HasFaultFrom}

-- tokens, a gap to the end, and faults
abbrev pub hoa_format : TextFormat HoaKind
hoa_format = record { follows = Follows; ends = Ends; faults = HasFaultFrom }
