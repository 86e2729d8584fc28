-- all that was judged is ready
use Rattle.std.proofs.Common.{◌≡◌, false}
use Rattle.omega_hoa_automaton.specs.Branching.{has_universal_branching}
use Rattle.omega_empty.proofs.making.Plain.{few_identifiers, small_kind}
use Rattle.omega_empty.proofs.games.game_of.Goals as goal

pub invariant_of-judged : goal.invariant_of-judged
invariant_of-judged c =
    let plain : has_universal_branching c.args.automaton.now ≡ false = cc in
    record {
      automaton = c.keeps_limits.ensures;
      kind_is = c.requires.kind;
      small = small_kind c.args.automaton.now c.args.kind c.keeps_limits.ensures c.requires.kind;
      fits = c.requires.fits;
      few = few_identifiers c.args.automaton.now c.args.kind c.requires.kind c.requires.fits;
      plain = plain;
      usable_are = c.in_ok-usable.ensures.usable;
      ranges_are = c.in_ok-ranges.ensures.ranges;
    }
