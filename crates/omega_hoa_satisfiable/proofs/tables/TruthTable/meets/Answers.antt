-- A shared bit shows a valuation, and a valuation a shared bit.
use Rattle.std.proofs.Common.{refl}
use Rattle.std.proofs.lemmas.Bool.{false≢true}
use Rattle.omega_hoa_satisfiable.proofs.TruthTables.{none-meets, shared-meets}
use Rattle.omega_hoa_satisfiable.proofs.tables.TruthTable.meets.Goals as goal

pub returns-then-shared-eq0 : goal.returns-then-shared-eq0
returns-then-shared-eq0 c =
    λ one another is is-other. (
      λ possible. absurd (false≢true possible),
      λ satisfied. absurd (none-meets one another c.args.self c.args.other c.bits_in_both-shared.result is is-other c.bits_in_both-shared.ensures c.if-shared-eq0.true satisfied),
    )

pub returns : goal.returns
returns c =
    λ one another is is-other. (
      λ possible. shared-meets one another c.args.self c.args.other c.bits_in_both-shared.result is is-other c.bits_in_both-shared.ensures c.bits_in_both-shared.type_inv c.if-shared-eq0.false,
      λ satisfied. refl,
    )
