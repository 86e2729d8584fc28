-- The tokens that are read are those of the bytes, and a fault of syntax is at the first of them through which none is
-- read.
use Rattle.std.proofs.Common.{◌≡◌, ◌+◌, length, map, subst, arith}
use Rattle.omega_text.specs.declared.hoa.kind.HoaKind.TheVariants.{End}
use Rattle.omega_text.specs.Cut.{Cuts}
use Rattle.omega_text.specs.hoa.Format.{hoa_format}
use Rattle.omega_hoa.specs.Segment.{IsFirstUnwritten}
use Rattle.omega_hoa.specs.private.Places.{counted_from}
use Rattle.omega_hoa.proofs.Places.{first_within, through_counted, within_text}
use Rattle.omega_hoa.proofs.Segments.{all_read, none_read}
use Rattle.omega_hoa.proofs.segment.read_written.Goals as goal

pub returns-in-Ok-clause-written : goal.returns-in-Ok-clause-written
returns-in-Ok-clause-written c = λ lexemes cut segment.
    all_read c.new-tokens.result.0 lexemes _ c.in-Ok.raw End
    (c.cuts_are_one.ensures c.args.bytes.now c.new-tokens.result.0 lexemes c.new-tokens.ensures.cut cut) c.in-Ok.ensures.ok segment

pub returns-in-Err-Text-Syntax-clause-refused : goal.returns-in-Err-Text-Syntax-clause-refused
returns-in-Err-Text-Syntax-clause-refused c = λ lexemes cut segment.
    let at = c.in-Err-Text-Syntax.at in
    let unread = none_read c.new-tokens.result.0 lexemes c.in-Err-Text-Syntax.field-0 c.in-Err-Text-Syntax.field-0-0 at (length c.args.bytes.now) c.new-tokens.result.1
    (c.cuts_are_one.ensures c.args.bytes.now c.new-tokens.result.0 lexemes c.new-tokens.ensures.cut cut) c.new-tokens.ensures.length
    c.in-Err-Text-Syntax.field-0-is c.in-Err-Text-Syntax.field-0-0-is c.in-Err-Text-Syntax.ensures.err in
    let first = first_within lexemes (length c.args.bytes.now) at segment unread in
    let within = within_text c.goes_on_one_way.ensures c.args.bytes.now 0 cut.end first.before first.rest first.token (omega arith) (subst (λ ls. Cuts hoa_format c.args.bytes.now 0 ls cut.end) first.split cut.cuts) in
    let there : at + c.args.begins ≡ c.saturating_add.result = omega (arith, first.there, within.1, c.requires.room, c.saturating_add.ensures) in
    subst (IsFirstUnwritten (map (counted_from c.args.begins) lexemes)) there (through_counted c.args.begins lexemes at first)
