-- Where a label's notation stands, and which it is.
use Rattle.std.specs.Prelude.{◌≤◌, [], map, take}
use Rattle.omega_hoa_label.specs.private.layout.Codes.{node_of}
use Rattle.omega_hoa_label.specs.declared.notation.Notation.{Notation}
use Rattle.omega_hoa_label.specs.declared.compact.Held.{Held}
use Rattle.omega_hoa_label.specs.declared.compact.Held.TheVariants.{Long, Short}

-- the notation, wherever it is kept
abbrev pub notation_in : Held → Notation
notation_in (Short count depth codes) = record {
  nodes = map node_of (take count codes);
  names = [];
  depth = depth;
}
notation_in (Long notation) = notation.value

-- there is room in place for this number of nodes
abbrev pub fits_in_place : Held → Type 0
fits_in_place (Short count depth codes) = count ≤ 21
fits_in_place (Long notation) = Unit {0}
