-- The segment is read from the place where whole ones end.
use Rattle.std.proofs.Common.{◌+◌, arith, subst, refl}
use Rattle.omega_hoa.specs.private.Ahead.{BeginsAutomatonTo}
use Rattle.omega_text.specs.hoa.Pieces.{IsSettled}
use Rattle.omega_hoa.proofs.Wholly.{front_size, whole_read}
use Rattle.omega_hoa.proofs.whole_segment.read_whole.Goals as goal

pub overflow_add-end : goal.overflow_add-end
overflow_add-end c =
    let begun = subst (λ bytes. BeginsAutomatonTo bytes c.in-Some.count c.in-Some.automaton) c.tail.ensures c.in-Some.ensures in
    let size = front_size c.goes_on_one_way.ensures c.args.bytes.now c.args.place c.in-Some.count c.in-Some.automaton c.requires.within begun in
    omega (arith, size.1, c.requires.so_far.2.short)

pub overflow_add-begins : goal.overflow_add-begins
overflow_add-begins c =
    let begun = subst (λ bytes. BeginsAutomatonTo bytes c.in-Some.count c.in-Some.automaton) c.tail.ensures c.in-Some.ensures in
    let size = front_size c.goes_on_one_way.ensures c.args.bytes.now c.args.place c.in-Some.count c.in-Some.automaton c.requires.within begun in
    omega (arith, size.1, c.requires.so_far.2.short)

pub returns-in-Some-clause-forward : goal.returns-in-Some-clause-forward
returns-in-Some-clause-forward c =
    let begun = subst (λ bytes. BeginsAutomatonTo bytes c.in-Some.count c.in-Some.automaton) c.tail.ensures c.in-Some.ensures in
    let size = front_size c.goes_on_one_way.ensures c.args.bytes.now c.args.place c.in-Some.count c.in-Some.automaton c.requires.within begun in
    omega (arith, size.0)

pub returns-in-Some-clause-end : goal.returns-in-Some-clause-end
returns-in-Some-clause-end c =
    let begun = subst (λ bytes. BeginsAutomatonTo bytes c.in-Some.count c.in-Some.automaton) c.tail.ensures c.in-Some.ensures in
    let size = front_size c.goes_on_one_way.ensures c.args.bytes.now c.args.place c.in-Some.count c.in-Some.automaton c.requires.within begun in
    size.1

pub returns-in-Some-clause-read : goal.returns-in-Some-clause-read
returns-in-Some-clause-read c = λ prior items so_far.
    let begun = subst (λ bytes. BeginsAutomatonTo bytes c.in-Some.count c.in-Some.automaton) c.tail.ensures c.in-Some.ensures in
    whole_read c.goes_on_one_way.ensures c.args.bytes.now c.args.place c.in-Some.count c.in-Some.automaton c.requires.within begun
    c.args.first c.args.progress.now prior items so_far (omega arith)
    (c.args.first + (c.args.place + c.in-Some.count)) c.after-tokenizer.result refl c.after-tokenizer.ensures.sound c.after-tokenizer.ensures.reads
    (λ text lexemes read. subst (λ fault. IsSettled fault text lexemes) c.after-tokenizer.ensures.sound (c.read_is_settled.ensures text lexemes read))
