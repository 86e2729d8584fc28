-- the lists are those of the places
use Rattle.std.proofs.Common.{List, length, subst, sym}
use Rattle.omega_lang_runs.specs.Places.{ArePlaces}
use Rattle.omega_lang_runs.specs.declared.place.EdgePlace.{EdgePlace}
use Rattle.omega_synth_check.specs.private.Leaving.{AreListed}
use Rattle.omega_synth_check.proofs.leaving.Leaving.of.Goals as goal

pub lists_of-requires : goal.lists_of-requires
lists_of-requires c = subst (λ (places : List EdgePlace). ArePlaces c.args.automaton.now places) (sym c.as_slice.ensures.value) c.in_ok-places.ensures.places

pub returns-clause-leaving : goal.returns-clause-leaving
returns-clause-leaving c = record {
  places = c.in_ok-places.ensures.places;
  numbers = c.in_ok-numbers.ensures.numbers;
  distinct = c.in_ok-numbers.ensures.distinct;
  listed = subst (λ (places : List EdgePlace). AreListed places (length c.args.automaton.now.defined) (length places) c.in_ok-lists.lists.items)
      c.as_slice.ensures.value c.in_ok-lists.ensures.lists;
}
