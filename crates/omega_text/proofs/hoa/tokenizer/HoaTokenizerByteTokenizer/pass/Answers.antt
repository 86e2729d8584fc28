-- What was read and settled before, with the bytes that were passed.
use Rattle.std.proofs.Common.{◌+◌, ◌-◌, refl, subst}
use Rattle.omega_text.specs.private.hoa.scanning.Reading.{IsKept}
use Rattle.omega_text.proofs.hoa_texts.Passing.{fault_stops, has_passed, has_passed_none, way_read}
use Rattle.omega_text.proofs.hoa.tokenizer.HoaTokenizerByteTokenizer.pass.Goals as goal

pub pass_bytes-after-requires-clause-way : goal.pass_bytes-after-requires-clause-way
pass_bytes-after-requires-clause-way c = way_read c.args.self.now _ c.in-None.is c.requires.room

pub returns-in-Some-clause-reads : goal.returns-in-Some-clause-reads
returns-in-Some-clause-reads c = has_passed_none c.args.bytes.now c.args.from c.args.self.now

pub returns-in-None-clause-reads : goal.returns-in-None-clause-reads
returns-in-None-clause-reads c =
    let after = c.pass_bytes-after.result in
    has_passed c.args.bytes.now c.args.from after.1 c.args.self.now
    (record { pending = after.0; place = c.args.self.now.place + (after.1 - c.args.from); fault = c.args.self.now.fault })
    c.pass_bytes-after.ensures.passes c.in-None.is c.in-None.is refl

pub returns-in-Some-clause-stops : goal.returns-in-Some-clause-stops
returns-in-Some-clause-stops c = λ inside seen lexemes read.
    fault_stops seen lexemes _ c.in-Some._fault (subst (λ fault. IsKept fault seen lexemes c.args.self.now.pending) c.in-Some.is read.kept)

pub returns-in-None-clause-stops : goal.returns-in-None-clause-stops
returns-in-None-clause-stops c = λ inside seen lexemes read.
    c.pass_bytes-after.ensures.stops inside seen lexemes read.place (subst (λ fault. IsKept fault seen lexemes c.pass_bytes-after.result.0) c.in-None.is read.kept)
