-- The header that was read.
use Rattle.std.specs.Prelude.{◌≡◌, ◌≤◌, ◌+◌}
use Rattle.omega_aiger.specs.Forms.{Counts, ascii_body, binary_body, counts_of}
use Rattle.omega_aiger.specs.Layout.{Layout}
use Rattle.omega_circuit.specs.Limits.{most_variables}
use Rattle.omega_aiger.specs.declared.header.Form.{Form}
use Rattle.omega_aiger.specs.declared.header.Form.TheVariants.{Ascii, Binary}
use Rattle.omega_aiger.specs.declared.header.Header.{Header}

-- its counts
abbrev pub header_counts : Header → Counts
header_counts header = counts_of header.most_variable header.inputs header.latches header.outputs header.gates
    header.properties.items

-- the body of its form
abbrev pub body_of : Form → Counts → Layout
body_of Ascii = ascii_body
body_of Binary = binary_body

-- the greatest variable is within its limit, and as many are defined
pub record IsDense (counts : Counts) : Type 0 where
  pub few : counts.most_variable ≤ most_variables
  pub all : counts.most_variable ≡ counts.inputs + counts.latches + counts.gates
