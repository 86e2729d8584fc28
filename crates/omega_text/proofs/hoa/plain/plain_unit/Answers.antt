-- By what the first byte shows.
use Rattle.std.proofs.Common.{get_or}
use Rattle.omega_text.specs.declared.hoa.lead.Lead.TheVariants.{Sign, Digit, Letter, Quote, At}
use Rattle.omega_text.proofs.hoa_texts.Leads.{led_as}
use Rattle.omega_text.proofs.hoa_texts.Units.{one_sign, unit_as}
use Rattle.omega_text.proofs.hoa.plain.plain_unit.Goals as goal

pub plain_number-requires-clause-digit : goal.plain_number-requires-clause-digit
plain_number-requires-clause-digit c = led_as (get_or c.args.bytes.now 0 0) c.lead_of.result Digit c.lead_of.ensures c.in-Digit.is

pub first_word-requires-clause-letter : goal.first_word-requires-clause-letter
first_word-requires-clause-letter c = led_as (get_or c.args.bytes.now 0 0) c.lead_of.result Letter c.lead_of.ensures c.in-Letter.is

pub plain_string-requires-clause-quote : goal.plain_string-requires-clause-quote
plain_string-requires-clause-quote c = led_as (get_or c.args.bytes.now 0 0) c.lead_of.result Quote c.lead_of.ensures c.in-Quote.is

pub plain_alias-requires-clause-at : goal.plain_alias-requires-clause-at
plain_alias-requires-clause-at c = led_as (get_or c.args.bytes.now 0 0) c.lead_of.result At c.lead_of.ensures c.in-At.is

pub returns-in-Sign : goal.returns-in-Sign
returns-in-Sign c =
    let sign = led_as (get_or c.args.bytes.now 0 0) c.lead_of.result (Sign c.in-Sign.kind) c.lead_of.ensures c.in-Sign.is in
    unit_as c.args.bytes.now _ _ _ _ 0 1 c.whole_byte.ensures.kind c.whole_byte.ensures.value c.whole_byte.ensures.count
    (one_sign c.args.bytes.now c.in-Sign.kind c.requires sign.0 sign.1)
