-- One token more, which is taken with the run after it, or is the first wrong one.
use Rattle.std.proofs.Common.{rules}
use Rattle.omega_text.proofs.syntaxes.Taking.{fault_after, fault_here, read_faulty, read_refused, read_run, read_taken}
use Rattle.omega_text.proofs.token_reader.read_tokens.Goals as goal

pub loop-reader-preserved : goal.loop-reader-preserved
loop-reader-preserved g c =
    let follows = rw c.in-Some.is at c.in_ok-token.ensures.token in
    record {
      within = c.in_ok-at-2.ensures.inside;
      read = read_run _ _ _ _
          (read_taken _ _ _ _ c.loop-reader.invariant.read _ follows _ _ _ (c.in_ok-take.ensures.takes c.args.reader) c.if-not-branch.false)
          _ _ (c.in_ok-at-2.ensures.takes c.args.reader);
    }

pub returns-in_err-token-clause-refused : goal.returns-in_err-token-clause-refused
returns-in_err-token-clause-refused g c =
    let fault = read_faulty _ _ _ _ c.loop-reader.invariant.read g.R.TokenReader.begins c.in_err-token.field-0.0 c.in_err-token.ensures.lexical (fault_here _ _ _ _ c.in_err-token.ensures.fault) in
    search rules

pub returns-in_err-check_from-clause-refused : goal.returns-in_err-check_from-clause-refused
returns-in_err-check_from-clause-refused g c =
    let follows = rw c.in-Some.is at c.in_ok-token.ensures.token in
    let fault = read_faulty _ _ _ _ c.loop-reader.invariant.read g.R.TokenReader.begins c.in_err-check_from.field-0.0 c.in_err-check_from.ensures.lexical (fault_after _ _ _ _ _ follows c.in_err-check_from.ensures.fault) in
    search rules

pub returns-then-not-branch-clause-refused : goal.returns-then-not-branch-clause-refused
returns-then-not-branch-clause-refused g c =
    let follows = rw c.in-Some.is at c.in_ok-token.ensures.token in
    read_refused _ _ _ _ c.loop-reader.invariant.read _ follows _ _ _ (c.in_ok-take.ensures.takes c.args.reader) c.if-not-branch.true c.in_ok-check_from.ensures.cut
