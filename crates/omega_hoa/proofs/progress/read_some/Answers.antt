-- A whole segment is read, with its item, or some bytes.
use Rattle.std.proofs.Common.{[], ◌∷◌}
use Rattle.omega_hoa.specs.declared.item.Item.TheVariants.{Automaton}
use Rattle.omega_hoa.proofs.progress.read_some.Goals as goal

pub returns-in_ok-push-in-Some-clause-read : goal.returns-in_ok-push-in-Some-clause-read
returns-in_ok-push-in-Some-clause-read c = λ prior items so_far. record {
  added = Automaton c.in-Some.field-0.automaton ∷ [];
  is = c.in_ok-push-in-Some.ensures.items;
  holds = c.in-Some.ensures.read prior items so_far;
}

pub returns-in_ok-push-in-Some-clause-extends : goal.returns-in_ok-push-in-Some-clause-extends
returns-in_ok-push-in-Some-clause-extends c = (Automaton c.in-Some.field-0.automaton ∷ [], c.in_ok-push-in-Some.ensures.items)

pub returns-in_ok-push-in-Some-clause-forward : goal.returns-in_ok-push-in-Some-clause-forward
returns-in_ok-push-in-Some-clause-forward c = c.in-Some.ensures.forward

pub returns-in_ok-push-in-Some-clause-end : goal.returns-in_ok-push-in-Some-clause-end
returns-in_ok-push-in-Some-clause-end c = c.in-Some.ensures.end

pub returns-in-None-clause-read : goal.returns-in-None-clause-read
returns-in-None-clause-read c = c.read_on.ensures.read

pub returns-in-None-clause-refused : goal.returns-in-None-clause-refused
returns-in-None-clause-refused c = c.read_on.ensures.refused

pub returns-in-None-clause-extends : goal.returns-in-None-clause-extends
returns-in-None-clause-extends c = c.read_on.ensures.extends
