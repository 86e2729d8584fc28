-- the edges of the first state are made, and then those of the second
use Rattle.std.proofs.Common.{ap, arith}
use Rattle.omega_lang_product.specs.Pairs.{first_view, second_view}
use Rattle.omega_lang_product.specs.PlainEdges.{View}
use Rattle.omega_lang_product.proofs.tables.Tables.reach.Goals as goal

pub reach-requires-clause-table : goal.reach-requires-clause-table
reach-requires-clause-table c = (first_view c.args.one.now c.args.other.now, c.requires.firsts)

pub reach-requires-clause-room : goal.reach-requires-clause-room
reach-requires-clause-room c = omega (arith, ap (λ (v : View). v.before) c.requires.firsts.seen, c.requires.room)

pub reach-requires-2-clause-table : goal.reach-requires-2-clause-table
reach-requires-2-clause-table c = (second_view c.args.one.now c.args.other.now, c.requires.seconds)

pub reach-requires-2-clause-room : goal.reach-requires-2-clause-room
reach-requires-2-clause-room c = omega (arith, ap (λ (v : View). v.before) c.requires.seconds.seen, c.requires.room)

pub returns-clause-ok : goal.returns-clause-ok
returns-clause-ok c = record {
  tables = record {
    room = c.requires.room;
    firsts = c.in_ok-reach.ensures.table (first_view c.args.one.now c.args.other.now) c.requires.firsts;
    seconds = c.in_ok-reach-2.ensures.table (second_view c.args.one.now c.args.other.now) c.requires.seconds;
  };
  made = record { first = c.in_ok-reach.ensures.made; second = c.in_ok-reach-2.ensures.made };
  kept = λ earlier have. record {
    first = c.in_ok-reach.ensures.kept earlier.0 have.first;
    second = c.in_ok-reach-2.ensures.kept earlier.1 have.second;
  };
}
