-- The valuation of what is assumed has it.
use Rattle.std.proofs.Common.{◌&&◌, ◌||◌, true, Bool, reverse, ap}
use Rattle.omega_hoa_satisfiable.specs.private.Pending.{pending_lead}
use Rattle.omega_hoa_satisfiable.proofs.Branching.{fits-valuation, valuation}
use Rattle.omega_hoa_satisfiable.proofs.branches.Branches.has_valuation.Goals as goal

pub returns : goal.returns
returns c = (
  valuation c.args.self.now.assumed.entries,
  λ onward.
      ap (λ (has : Bool). (has && true) || pending_lead (valuation c.args.self.now.assumed.entries) onward c.args.self.now.assumed.entries (reverse c.args.self.now.later.items))
      (fits-valuation c.args.self.now.assumed.entries c.len-unique.ensures.unique),
)
