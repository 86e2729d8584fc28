-- A segment that others follow is refused by its syntax, or by what follows.
use Rattle.std.proofs.Common.{arith, map, sym, subst}
use Rattle.omega_text.specs.Cases.{or_memory}
use Rattle.omega_text.specs.declared.hoa.kind.HoaKind.TheVariants.{End}
use Rattle.omega_hoa.specs.Alone.{IsAutomatonRefusal}
use Rattle.omega_hoa.proofs.Cutting.{moved}
use Rattle.omega_hoa.proofs.Dividing.{segment_moved}
use Rattle.omega_hoa.proofs.Ones.{followed_cuts, front_cut, front_long, next_refused, own_refused, read_in_grammar, segment_of}
use Rattle.omega_hoa.proofs.Places.{start_back}
use Rattle.omega_hoa.proofs.alone.read_followed.Goals as goal

pub slice_bounds-read_written-end : goal.slice_bounds-read_written-end
slice_bounds-read_written-end c =
    let has = c.requires.followed in
    front_long c.goes_on_one_way.ensures c.args.bytes.now c.args.end has.is.front (followed_cuts c.args.bytes.now c.args.end c.args.next has)

pub read_written-requires-clause-cut : goal.read_written-requires-clause-cut
read_written-requires-clause-cut c =
    let has = c.requires.followed in
    (map (moved 0) has.is.front, front_cut c.goes_on_one_way.ensures c.args.bytes.now c.args.end has.is.front (followed_cuts c.args.bytes.now c.args.end c.args.next has))

pub returns-in-Err : goal.returns-in-Err
returns-in-Err c =
    let has = c.requires.followed in
    let exact = c.goes_on_one_way.ensures in
    let cuts = followed_cuts c.args.bytes.now c.args.end c.args.next has in
    own_refused c.args.bytes.now c.args.end c.args.next c.in-Err.refusal has c.requires.short (start_back exact c.args.bytes.now 0 0 c.args.end has.is.front (omega arith) cuts)
    (c.in-Err.ensures.refused (map (moved 0) has.is.front) (front_cut exact c.args.bytes.now c.args.end has.is.front cuts)
    (segment_moved 0 End has.is.front (segment_of has.is.front c.args.end has.is.whole)))

pub returns-in-Ok : goal.returns-in-Ok
returns-in-Ok c =
    let has = c.requires.followed in
    let written = c.in-Ok.ensures.written (map (moved 0) has.is.front)
    (front_cut c.goes_on_one_way.ensures c.args.bytes.now c.args.end has.is.front (followed_cuts c.args.bytes.now c.args.end c.args.next has))
    (segment_moved 0 End has.is.front (segment_of has.is.front c.args.end has.is.whole)) in
    subst (or_memory (IsAutomatonRefusal c.args.bytes.now)) (sym c.syntax_fault.ensures)
    (next_refused c.args.bytes.now c.args.end c.args.next has c.requires.short (read_in_grammar has.is.front c.in-Ok._raw written))
