-- The whole is read.
use Rattle.std.proofs.Common.{refl, subst, sym, ◌∙◌}
use Rattle.omega_hoa_acceptance.specs.Reading.{BeginsAcc, ReadsAcc, ReadsNoAcc}
use Rattle.omega_hoa_acceptance.proofs.RawLemmas.{IsRawAcc-of, raw_acc_tree-is}
use Rattle.omega_hoa_expression.proofs.PassingLemmas.{error_then}
use Rattle.omega_hoa_expression.proofs.UnreadLemmas.{first_same}
use Rattle.omega_hoa_acceptance.proofs.reading.read_raw_acc.Goals as goal

pub of_nodes-requires : goal.of_nodes-requires
of_nodes-requires g c =
    let read = rw c.if-branch.false at (c.in_ok-read_infix.ensures.more (g.S.TokenSource.left c.args.source.now) c.loop-unfinished.invariant.has) in
    IsRawAcc-of read.tree _ _ _ (record { flat = read.flat; named = read.named }) read.deep

pub returns-clause-ok : goal.returns-clause-ok
returns-clause-ok g c =
    let read = rw c.if-branch.false at (c.in_ok-read_infix.ensures.more (g.S.TokenSource.left c.args.source.now) c.loop-unfinished.invariant.has) in
    subst (λ formula. ReadsAcc (g.S.TokenSource.left c.args.source.now) formula (g.S.TokenSource.left c.read_infix.new.source))
    (sym (c.of_nodes.ensures ∙ raw_acc_tree-is read.tree _ _ (record { flat = read.flat; named = read.named }))) read.reads

pub returns-in_err-operand-clause-err : goal.returns-in_err-operand-clause-err
returns-in_err-operand-clause-err g c =
    error_then c.from_residual.result _ _ c.from_residual.ensures.1
    (λ e is. first_same ReadsNoAcc BeginsAcc (g.S.TokenSource.left c.args.source.now) _ _ _ e is refl
    (c.in_err-operand.ensures.err (g.S.TokenSource.left c.args.source.now) (c.new-unfinished.ensures (g.S.TokenSource.left c.args.source.now))))

pub returns-in_err-read_infix-clause-err : goal.returns-in_err-read_infix-clause-err
returns-in_err-read_infix-clause-err g c =
    error_then c.from_residual-in_err-read_infix.result _ _ c.from_residual-in_err-read_infix.ensures.1
    (λ e is. first_same ReadsNoAcc BeginsAcc (g.S.TokenSource.left c.args.source.now) _ _ _ e is c.loop-unfinished.invariant.text
    (c.in_err-read_infix.ensures.err (g.S.TokenSource.left c.args.source.now) c.loop-unfinished.invariant.has))
