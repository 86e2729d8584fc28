-- `read_written`: the tokens are those of the automaton that is written.
use Rattle.std.proofs.Common.{sym, subst}
use Rattle.std.proofs.lemmas.Result.{IfOk-weaker}
use Rattle.omega_hoa_diagnostics.specs.AutomatonCauses.{WritesAutomaton}
use Rattle.omega_hoa_diagnostics.proofs.Written.{read_is_written, read_or_memory, tokens_read}
use Rattle.omega_hoa_diagnostics.proofs.automaton_causes.read_written.Goals as goal

pub returns-clause-written : goal.returns-clause-written
returns-clause-written c =
    IfOk-weaker c.read_raw.result _ _
    (λ raw only. subst (WritesAutomaton c.args.text.now)
    (sym (read_is_written c.args.text.now c.new-tokens.result.0 _ raw c.requires.0 c.cuts_are_one.ensures c.new-tokens.ensures.cut only c.requires.1)) c.requires.1)
    c.read_raw.ensures.only

pub returns-clause-same : goal.returns-clause-same
returns-clause-same c =
    IfOk-weaker c.read_raw.result _ _
    (λ raw only other writes. read_is_written c.args.text.now c.new-tokens.result.0 _ raw other c.cuts_are_one.ensures c.new-tokens.ensures.cut only writes)
    c.read_raw.ensures.only

pub returns-clause-memory : goal.returns-clause-memory
returns-clause-memory c =
    read_or_memory c.new-tokens.result.0 c.new-tokens.result.1 c.requires.0 c.read_raw.result
    (tokens_read c.args.text.now c.new-tokens.result.0 c.requires.0 c.cuts_are_one.ensures c.new-tokens.ensures.cut c.requires.1)
    c.read_raw.ensures.err
