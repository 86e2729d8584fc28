-- By what the byte shows.
use Rattle.omega_text.specs.declared.hoa.lead.Lead.TheVariants.{White, Sign}
use Rattle.omega_text.proofs.hoa_texts.Leads.{led_as, sign_single, white_single}
use Rattle.omega_text.proofs.hoa.passing.is_single.Goals as goal

pub returns-in-White : goal.returns-in-White
returns-in-White c = λ _. white_single c.args.byte (led_as c.args.byte c.lead_of.result White c.lead_of.ensures c.in-White.is)

pub returns-in-Sign : goal.returns-in-Sign
returns-in-Sign c = λ _. sign_single c.args.byte c.in-Sign.field-0 (led_as c.args.byte c.lead_of.result (Sign c.in-Sign.field-0) c.lead_of.ensures c.in-Sign.is)
