-- A byte is read after those before it.
use Rattle.std.proofs.Common.{◌∷◌, [], ◌++◌, ◌∙◌, get_or, refl, arith, sym, subst, take}
use Rattle.omega_text.specs.hoa.Pieces.{settled_lexemes}
use Rattle.omega_hoa.specs.Feeding.{IsDivided, IsRefusedThen}
use Rattle.omega_hoa.proofs.Results.{error_then, more_says, nothing_more}
use Rattle.omega_hoa.proofs.Settling.{divided_on, nothing_divided, progressed, refused_whole, settled_next}
use Rattle.omega_hoa.proofs.progress.read_byte.Goals as goal

pub returns-then-is_nothing-clause-read : goal.returns-then-is_nothing-clause-read
returns-then-is_nothing-clause-read c = λ prior items so_far.
    let byte = get_or c.args.bytes.now c.args.place 0 in
    let front = prior ++ take c.args.place c.args.bytes.now in
    let seen = front ++ byte ∷ [] in
    let division = c.args.progress.division in
    nothing_more _ _ _
    (progressed c.args.bytes.now c.args.first c.args.place c.args.progress prior items c.requires.within so_far byte c.step-settled.result c.step-settled.new.self
    division items refl (omega arith) (sym c.step-settled.ensures.fault ∙ (c.is_nothing.ensures c.if-is_nothing.true).fault) (c.step-settled.ensures.reads front so_far.lexemes so_far.read)
    (nothing_divided c.step-settled.result seen so_far.lexemes items division.begins division.inside (c.is_nothing.ensures c.if-is_nothing.true)
    (divided_on front (byte ∷ []) so_far.lexemes items division.begins division.inside so_far.divided)))

pub take_all-requires : goal.take_all-requires
take_all-requires c =
    let some = c.requires.so_far in
    let byte = get_or c.args.bytes.now c.args.place 0 in
    let seen = some.0 ++ take c.args.place c.args.bytes.now in (
      seen ++ byte ∷ [],
      some.2.lexemes,
      some.1,
      settled_next c.args.bytes.now c.args.first c.args.place c.args.progress some.0 some.1 c.requires.within some.2 byte c.step-settled.result refl
          (c.step-settled.ensures.settles seen some.2.lexemes some.2.read),
    )

pub returns-in_err-division-clause-refused : goal.returns-in_err-division-clause-refused
returns-in_err-division-clause-refused c =
    error_then c.from_residual.result _ _ c.from_residual.ensures.1
    (λ error is prior items so_far.
    let byte = get_or c.args.bytes.now c.args.place 0 in
    let seen = prior ++ take c.args.place c.args.bytes.now in
    refused_whole c.args.bytes.now c.args.first c.args.place c.args.progress prior items c.requires.within so_far byte c.args.out.now.items c.take_all.new.out.items error refl
    (subst (IsRefusedThen (seen ++ byte ∷ []) c.args.out.now.items c.take_all.new.out.items items) (sym is)
    (c.in_err-division.ensures.refused (seen ++ byte ∷ []) so_far.lexemes items
    (settled_next c.args.bytes.now c.args.first c.args.place c.args.progress prior items c.requires.within so_far byte c.step-settled.result refl
    (c.step-settled.ensures.settles seen so_far.lexemes so_far.read)))))

pub returns-clause-read : goal.returns-clause-read
returns-clause-read c = λ prior items so_far.
    let byte = get_or c.args.bytes.now c.args.place 0 in
    let seen = prior ++ take c.args.place c.args.bytes.now in
    let lexemes = so_far.lexemes ++ settled_lexemes (seen ++ byte ∷ []) c.step-settled.result in
    more_says _ _ items (λ all. IsDivided (seen ++ byte ∷ []) lexemes all c.in_ok-division.division.begins c.in_ok-division.division.inside) _
    (c.in_ok-division.ensures.taken (seen ++ byte ∷ []) so_far.lexemes items
    (settled_next c.args.bytes.now c.args.first c.args.place c.args.progress prior items c.requires.within so_far byte c.step-settled.result refl
    (c.step-settled.ensures.settles seen so_far.lexemes so_far.read)))
    (λ all divided. progressed c.args.bytes.now c.args.first c.args.place c.args.progress prior items c.requires.within so_far byte c.step-settled.result c.step-settled.new.self
    c.in_ok-division.division all refl c.in_ok-division.ensures.forward (sym c.step-settled.ensures.fault ∙ c.in_ok-division.ensures.sound) (c.step-settled.ensures.reads seen so_far.lexemes so_far.read) divided)
