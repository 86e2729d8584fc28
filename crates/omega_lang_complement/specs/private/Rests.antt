-- The nodes of the label of the missing letters, after others.
use Rattle.std.specs.Prelude.{◌≡◌, List, ◌++◌}
use Rattle.omega_hoa_label.specs.Label.{LabelTree}
use Rattle.omega_hoa_label.specs.Postfix.{postfix}
use Rattle.omega_hoa_label.specs.declared.label.LabelNode.{LabelNode}
use Rattle.omega_lang_complement.specs.Letters.{IsAnyOf, IsRestLabel}

-- the disjunction of labels is put after nodes
abbrev pub IsAnyPut : List LabelTree → List LabelNode → List LabelNode → Type 0
IsAnyPut labels old new = (any : LabelTree) × IsAnyOf labels any × (new ≡ old ++ postfix any)

-- the label of the missing letters is
abbrev pub IsRestPut : List LabelTree → List LabelNode → List LabelNode → Type 0
IsRestPut labels old new = (rest : LabelTree) × IsRestLabel labels rest × (new ≡ old ++ postfix rest)
