-- What is read is the label of its nodes.
use Rattle.std.proofs.lemmas.Result.{IfOk-weaker}
use Rattle.omega_hoa_label_text.proofs.ReadingLemmas.{reads-made}
use Rattle.omega_hoa_label_text.proofs.reading.read_raw_label.Goals as goal

pub from_postfix-requires : goal.from_postfix-requires
from_postfix-requires g c =
    let tokens = g.S.TokenSource.left c.args.source.now in
    let read = c.in-Ok.ensures.ok tokens (c.new-unfinished.ensures tokens) in
    record { tree = read.tree; are = record { flat = read.flat; named = read.named }; deep_is = read.deep }

pub returns-in-Ok-clause-ok : goal.returns-in-Ok-clause-ok
returns-in-Ok-clause-ok g c =
    let tokens = g.S.TokenSource.left c.args.source.now in
    let read = c.in-Ok.ensures.ok tokens (c.new-unfinished.ensures tokens) in
    IfOk-weaker _ _ _ (reads-made tokens _ read.tree _ _ read.reads (record { flat = read.flat; named = read.named })) c.from_postfix.ensures.ok

pub returns-in-Err-clause-err : goal.returns-in-Err-clause-err
returns-in-Err-clause-err g c =
    let tokens = g.S.TokenSource.left c.args.source.now in
    c.in-Err.ensures.err tokens (c.new-unfinished.ensures tokens)
