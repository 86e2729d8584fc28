-- So far the bytes are the beginning of one unit.
use Rattle.std.proofs.Common.{◌≡◌, Some, take}
use Rattle.omega_text.specs.declared.hoa.mode.Mode.TheVariants.{Start}
use Rattle.omega_text.specs.private.hoa.scanning.Modes.{IsWithin, run}
use Rattle.omega_text.proofs.hoa.unit.scan.Given as goal

abbrev pub invariant-loop-count : goal.invariant-loop-count
invariant-loop-count l = record {
  reached : run (Some Start) (take l.count l.bytes) ≡ Some l.mode;
  within : IsWithin l.count l.mode;
}
