-- The table is what each of the 256 bytes shows, by computing.
use Rattle.std.proofs.Common.{◌≡◌, ℕ, ◌<◌, map, get_or, refl, ap, ◌∙◌, arith}
use Rattle.std.proofs.lemmas.List.FromFn.{get_or-map-range_with_len}
use Rattle.std.specs.List.{range_with_len}
use Rattle.omega_text.specs.declared.hoa.lead.Lead.TheVariants.{White}
use Rattle.omega_text.specs.declared.hoa.lead.TheConstants.{LEADS}
use Rattle.omega_text.specs.private.hoa.scanning.Leads.{lead_of}
use Rattle.omega_text.proofs.hoa.lead.lead_of.Goals as goal

table_is : LEADS ≡ map lead_of (range_with_len 0 256)
table_is = refl

at : (byte : ℕ) → byte < 256 → get_or LEADS byte White ≡ lead_of byte
at byte small = ap (λ leads. get_or leads byte White) table_is ∙ get_or-map-range_with_len lead_of 0 256 byte byte White small (omega arith)

pub returns : goal.returns
returns c = at c.args.byte (omega arith)
