-- By the first byte.
use Rattle.std.proofs.Common.{get_or}
use Rattle.omega_text.specs.declared.hoa.lead.Lead.TheVariants.{At, Digit, Letter, Quote}
use Rattle.omega_text.proofs.hoa_texts.Leads.{led_as}
use Rattle.omega_text.proofs.hoa_texts.Passing.{single_simple}
use Rattle.omega_text.proofs.hoa.passing.simple_unit.Goals as goal

pub pass_digits-requires-clause-digit : goal.pass_digits-requires-clause-digit
pass_digits-requires-clause-digit c = led_as (get_or c.args.bytes.now c.args.place 0) c.lead_of.result Digit c.lead_of.ensures c.in-Digit.is

pub pass_word-requires-clause-letter : goal.pass_word-requires-clause-letter
pass_word-requires-clause-letter c = led_as (get_or c.args.bytes.now c.args.place 0) c.lead_of.result Letter c.lead_of.ensures c.in-Letter.is

pub pass_string-requires-clause-quote : goal.pass_string-requires-clause-quote
pass_string-requires-clause-quote c = led_as (get_or c.args.bytes.now c.args.place 0) c.lead_of.result Quote c.lead_of.ensures c.in-Quote.is

pub returns-then-is_single : goal.returns-then-is_single
returns-then-is_single c = single_simple c.args.start c.args.bytes.now c.args.place c.requires (c.is_single.ensures c.if-is_single.true)

pub pass_alias-requires-clause-at : goal.pass_alias-requires-clause-at
pass_alias-requires-clause-at c = led_as (get_or c.args.bytes.now c.args.place 0) c.lead_of.result At c.lead_of.ensures c.in-At.is
