-- The format that the beginning of a text tells.
use Rattle.std.specs.Prelude.{◌≡◌, ◌≢◌, ◌⊎◌, true, false, List, ℕ, codes}
use Rattle.omega_aiger.specs.Beginnings.{begins_as_circuit}
use Rattle.omega_cli_command.specs.declared.format.Format.{Format}
use Rattle.omega_cli_command.specs.declared.format.Format.TheVariants.{Aiger, Hoa, Pg}
use Rattle.omega_text.specs.Lexeme.{Lexeme}
use Rattle.omega_text.specs.declared.hoa.kind.HoaKind.{HoaKind}
use Rattle.omega_text.specs.declared.refusal.text.TextFault.{TextFault}
use Rattle.omega_text.specs.hoa.Cut.{Ends, Follows}
use Rattle.omega_text.specs.hoa.Fault.{HasFaultFrom}

-- the format of a text: that of circuits if it begins as one; or else, cut as one of automata, that of automata if the
-- first token is `HOA:`; and that of games if another comes first, or none
abbrev pub IsFormatOf : List ℕ → Format → Type 0
IsFormatOf text Aiger = begins_as_circuit text ≡ true
IsFormatOf text Hoa = (begins_as_circuit text ≡ false)
    × ((first : Lexeme HoaKind) × Follows text 0 first × (first.text ≡ codes "HOA:"))
IsFormatOf text Pg = (begins_as_circuit text ≡ false)
    × (((first : Lexeme HoaKind) × Follows text 0 first × (first.text ≢ codes "HOA:"))
    ⊎ (Ends text 0 ⊎ ((fault : TextFault) × HasFaultFrom text 0 fault)))
