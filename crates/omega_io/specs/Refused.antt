-- The text that a refusal is about, of two.
use Rattle.std.specs.Prelude.{◌≡◌, Option, None, Some}
use Rattle.omega_text.specs.declared.refusal.Refusal.{Refusal}
use Rattle.omega_text.specs.declared.refusal.Refusal.TheVariants.{Io, Memory}
use Rattle.omega_io.specs.declared.refused.Refused.{Refused}
use Rattle.omega_io.specs.declared.refused.Which.{Which}
use Rattle.omega_io.specs.declared.refused.Which.TheVariants.{File, Input}

-- a refusal that is about no text
abbrev pub about_none : Refusal → Refused
about_none refusal = record { refusal = refusal; text = None }

-- a refusal of this text; `Memory` and `Io` are about no text
abbrev pub about : Which → Refusal → Refused
about text Memory = about_none Memory
about text Io = about_none Io
about text refusal = record { refusal = refusal; text = Some text }

-- the refusal is one of the text that is named, or if none is, one of those that are about no text
abbrev pub IsAbout : (none file input : Refusal → Type 0) → Option Which → Refusal → Type 0
IsAbout none file input None refusal = none refusal
IsAbout none file input (Some File) refusal = file refusal
IsAbout none file input (Some Input) refusal = input refusal

-- one of two texts is refused so, or memory is
abbrev pub IsRefusedOf : (file input : Refusal → Type 0) → Refused → Type 0
IsRefusedOf file input refused =
    IsAbout (λ refusal. refusal ≡ Memory) file input refused.text refused.refusal
