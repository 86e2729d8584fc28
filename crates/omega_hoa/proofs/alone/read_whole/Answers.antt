-- A text that is one segment is read as that.
use Rattle.std.proofs.Common.{arith, map}
use Rattle.omega_text.specs.declared.hoa.kind.HoaKind.TheVariants.{End}
use Rattle.omega_hoa.specs.Alone.{IsAutomatonRefusal}
use Rattle.omega_hoa.specs.Segment.{IsSegmentFault}
use Rattle.omega_hoa.proofs.Cutting.{moved}
use Rattle.omega_hoa.proofs.Dividing.{segment_moved}
use Rattle.omega_hoa.proofs.Ones.{err_says, front_cut, front_long, memory_says, ok_says, segment_of, whole_cuts, whole_refused, whole_value}
use Rattle.omega_hoa.proofs.Places.{start_back, fault_here}
use Rattle.omega_hoa.proofs.alone.read_whole.Goals as goal

pub slice_bounds-read_segment-end : goal.slice_bounds-read_segment-end
slice_bounds-read_segment-end c =
    let has = c.requires.whole in
    front_long c.goes_on_one_way.ensures c.args.bytes.now c.args.end has.lexemes (whole_cuts c.args.bytes.now c.args.end has)

pub read_segment-requires-clause-cut : goal.read_segment-requires-clause-cut
read_segment-requires-clause-cut c =
    let has = c.requires.whole in
    (map (moved 0) has.lexemes, front_cut c.goes_on_one_way.ensures c.args.bytes.now c.args.end has.lexemes (whole_cuts c.args.bytes.now c.args.end has))

pub returns-clause-automaton : goal.returns-clause-automaton
returns-clause-automaton c =
    let has = c.requires.whole in
    let segment = segment_moved 0 End has.lexemes (segment_of has.lexemes c.args.end has.is) in
    ok_says c.read_segment.result _ _ (λ automaton says.
    whole_value c.args.bytes.now c.args.end automaton has c.requires.short
    (says (map (moved 0) has.lexemes) (front_cut c.goes_on_one_way.ensures c.args.bytes.now c.args.end has.lexemes (whole_cuts c.args.bytes.now c.args.end has)) segment))
    c.read_segment.ensures.automaton

pub returns-clause-refused : goal.returns-clause-refused
returns-clause-refused c =
    let has = c.requires.whole in
    let segment = segment_moved 0 End has.lexemes (segment_of has.lexemes c.args.end has.is) in
    err_says c.read_segment.result _ _ (λ refusal says.
    memory_says (IsSegmentFault has.lexemes) (IsAutomatonRefusal c.args.bytes.now) refusal (λ fault. whole_refused c.args.bytes.now c.args.end refusal has c.requires.short fault)
    (fault_here 0 has.lexemes (start_back c.goes_on_one_way.ensures c.args.bytes.now 0 0 c.args.end has.lexemes (omega arith) (whole_cuts c.args.bytes.now c.args.end has)) refusal
    (says (map (moved 0) has.lexemes) (front_cut c.goes_on_one_way.ensures c.args.bytes.now c.args.end has.lexemes (whole_cuts c.args.bytes.now c.args.end has)) segment)))
    c.read_segment.ensures.refused
