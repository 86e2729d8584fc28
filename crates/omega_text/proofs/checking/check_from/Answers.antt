-- The cut goes on with each token, to the end or to a fault.
use Rattle.std.proofs.Common.{[], refl, rules}
use Rattle.omega_text.specs.private.Left.{IsFaultFrom}
use Rattle.omega_text.proofs.formats.Cutting.{cut_more}
use Rattle.omega_text.proofs.checking.check_from.Goals as goal

pub loop-token-init : goal.loop-token-init
loop-token-init g c = record { cut = record { lexemes = []; cuts = refl }; inside = search rules }

pub loop-token-preserved : goal.loop-token-preserved
loop-token-preserved g c =
    let follows = rw c.in-Some.is at c.in_ok-token.ensures.token in
    let progress = rw c.in-Some.is at c.in_ok-token.ensures.progress in
    record { cut = cut_more _ _ _ _ _ c.loop-token.invariant.cut follows; inside = progress.within }

pub returns-in_err-token-clause-fault : goal.returns-in_err-token-clause-fault
returns-in_err-token-clause-fault g c =
    let faulty : IsFaultFrom g.K.TokenKind.format c.args.source.now c.args.from c.in_err-token.field-0.0 = record {
      lexemes = c.loop-token.invariant.cut.lexemes;
      end = c.loop-token.at;
      cuts = c.loop-token.invariant.cut.cuts;
      fault_there = c.in_err-token.ensures.fault;
    } in
    search rules

pub returns-clause-cut : goal.returns-clause-cut
returns-clause-cut g c =
    let ends = rw c.in_default.is at c.in_ok-token.ensures.end in
    let cut = c.loop-token.invariant.cut in
    (cut.lexemes, record { end = c.loop-token.at; cuts = cut.cuts; rest = ends })
