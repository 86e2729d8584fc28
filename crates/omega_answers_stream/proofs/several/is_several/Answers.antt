-- `is_several`: a text has one list of items at most, and a refused one has none.
use Rattle.std.proofs.Common.{◌≡◌, ◌<◌, ◌≤◌, length, ap, arith}
use Rattle.std.proofs.lemmas.Bool.{leb-false}
use Rattle.omega_hoa.specs.Stream.{IsStreamRefusal}
use Rattle.omega_answers_stream.proofs.Pieces.{other_refusal}
use Rattle.omega_answers_stream.proofs.several.is_several.Goals as goal

pub returns-in-Ok-clause-few : goal.returns-in-Ok-clause-few
returns-in-Ok-clause-few c = λ few several.
    let same = c.streams_are_one.ensures c.args.text.now c.in-Ok.items.items several.items c.in-Ok.ensures.items several.read in
    let count : length c.in-Ok.items.items ≡ length several.items = ap length same in
    let some : 2 ≤ c.len.result = omega (arith, several.several, count, c.len.ensures, c.in-Ok.items.ok.0) in
    let less : c.len.result < 2 = leb-false 2 c.len.result few in
    omega (arith, less, some)

pub returns-in_default : goal.returns-in_default
returns-in_default c = record {
  several = λ is. cc;
  few = λ is several.
      c.streams_are_unrefused.ensures c.args.text.now several.items c.in-Err.refusal several.read
      (other_refusal (IsStreamRefusal c.args.text.now) c.in-Err.refusal c.in-Err.ensures.refused c.in_default.not-Memory);
  memory = tt;
}
