-- Inside a segment the bytes are passed, outside none are.
use Rattle.std.proofs.Common.{◌++◌, take}
use Rattle.omega_hoa.proofs.Passing.{not_untrue, passed_on, room_inside}
use Rattle.omega_hoa.proofs.progress.pass_inside.Goals as goal

pub pass-end-requires-clause-room : goal.pass-end-requires-clause-room
pass-end-requires-clause-room c = room_inside c.args.bytes.now c.args.first c.args.from c.args.progress c.requires.within c.requires.so_far

pub returns-clause-read : goal.returns-clause-read
returns-clause-read c = λ prior items so_far.
    passed_on c.args.bytes.now c.args.first c.args.from c.pass-end.result c.args.progress c.pass-end.new.self prior items c.pass-end.ensures.forward (not_untrue c.args.progress.division.inside c.if-not-progress.false) so_far
    (c.pass-end.ensures.reads (prior ++ take c.args.from c.args.bytes.now) so_far.lexemes so_far.read) c.pass-end.ensures.sound
