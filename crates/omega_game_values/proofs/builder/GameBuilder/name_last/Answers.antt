-- `GameBuilder::name_last`: names the last specification.
use Rattle.std.proofs.Common.{◌≡◌, ◌<◌, length, arith, ap, ◌∙◌}
use Rattle.omega_game_values.proofs.building.Collecting.{length-specs_of, specs_of-name, specs_of-pad, AreCollected-name, AreCollected-pad, OnErr-always}
use Rattle.omega_game_values.proofs.builder.GameBuilder.name_last.Goals as goal

pub invariant_of-self : goal.invariant_of-self
invariant_of-self c = AreCollected-pad c.self.inside.ids.items c.self.inside.priorities.items c.self.inside.owners.items c.self.inside.successors c.self.inside.quoted c.pad.new.quoted c.self.invariant (omega (arith, c.in_err-pad.ensures.within, c.len.ensures)) c.in_err-pad.ensures.same

pub returns-in_err-pad-clause-err : goal.returns-in_err-pad-clause-err
returns-in_err-pad-clause-err c = OnErr-always _ _ (specs_of-pad c.self.inside.ids.items c.self.inside.priorities.items c.self.inside.owners.items c.self.inside.successors c.self.inside.quoted c.pad.new.quoted c.in_err-pad.ensures.same ∙ c.self.view_is)

pub replace_last-requires : goal.replace_last-requires
replace_last-requires c = omega (arith, c.in_ok-pad.ensures.ok, c.len.ensures, length-specs_of, ap length c.self.view_is, c.requires.begun)

pub invariant_of-self-in_err-replace_last : goal.invariant_of-self-in_err-replace_last
invariant_of-self-in_err-replace_last c = rw c.in_err-replace_last.ensures.err
    (AreCollected-pad c.self.inside.ids.items c.self.inside.priorities.items c.self.inside.owners.items c.self.inside.successors c.self.inside.quoted c.pad.new.quoted c.self.invariant (omega (arith, c.in_ok-pad.ensures.within, c.len.ensures)) c.in_ok-pad.ensures.same)

pub returns-in_err-replace_last-clause-err : goal.returns-in_err-replace_last-clause-err
returns-in_err-replace_last-clause-err c = OnErr-always _ _ (rw c.in_err-replace_last.ensures.err (specs_of-pad c.self.inside.ids.items c.self.inside.priorities.items c.self.inside.owners.items c.self.inside.successors c.self.inside.quoted c.pad.new.quoted c.in_ok-pad.ensures.same) ∙ c.self.view_is)

-- there is a specification
some : (c : goal.In_ok-replace_last) → 0 < length c.self.inside.ids.items
some c = omega (arith, length-specs_of, ap length c.self.view_is, c.requires.begun)

-- each specification has an entry for its name
padded : (c : goal.In_ok-replace_last) → length c.pad.new.quoted ≡ length c.self.inside.ids.items
padded c = omega (arith, c.in_ok-pad.ensures.ok, c.len.ensures)

pub invariant_of-self-2 : goal.invariant_of-self-2
invariant_of-self-2 c = rw c.in_ok-replace_last.ensures.ok
    (AreCollected-name c.self.inside.ids.items c.self.inside.priorities.items c.self.inside.owners.items c.self.inside.successors c.self.inside.quoted c.pad.new.quoted 34 c.args.name.now c.requires.bytes c.self.invariant (padded c) (some c) c.in_ok-pad.ensures.same)

pub returns-clause-ok : goal.returns-clause-ok
returns-clause-ok c = rw (← c.self.view_is, c.in_ok-replace_last.ensures.ok)
    (specs_of-name c.self.inside.ids.items c.self.inside.priorities.items c.self.inside.owners.items c.self.inside.successors c.self.inside.quoted c.pad.new.quoted 34 c.args.name.now (padded c) (some c) c.in_ok-pad.ensures.same)
