-- What the first byte of a unit says of it.
use Rattle.std.specs.Prelude.{ℕ, Option, Some, None, if◌then◌else◌, ◌==◌}
use Rattle.omega_text.specs.Bytes.{is_digit, is_letter, is_white}
use Rattle.omega_text.specs.declared.hoa.kind.HoaKind.{HoaKind}
use Rattle.omega_text.specs.declared.hoa.lead.Lead.{Lead}
use Rattle.omega_text.specs.declared.hoa.lead.Lead.TheVariants.{White, Sign, Digit, Letter, Quote, At, Other}
use Rattle.omega_text.specs.private.hoa.scanning.Modes.{sign_kind}

-- a sign, if there is one
abbrev pub sign_lead : Option HoaKind → Lead
sign_lead None = Other
sign_lead (Some kind) = Sign kind

-- what a byte says of the unit that it begins
abbrev pub lead_of : ℕ → Lead
lead_of byte = if is_white byte then White
    else (if is_letter byte then Letter
    else (if is_digit byte then Digit
    else (if byte == 34 then Quote
    else (if byte == 64 then At else sign_lead (sign_kind byte)))))
