-- The word that was counted, and the byte after it.
use Rattle.std.proofs.Common.{◌≡◌, ◌≢◌, length, get_or, refl, ap, ◌∙◌, arith, length-drop}
use Rattle.std.proofs.lemmas.List.Sums.{prefix_len-le-length}
use Rattle.omega_text.specs.Bytes.{is_word_byte}
use Rattle.omega_text.specs.declared.hoa.kind.HoaKind.TheVariants.{Identifier}
use Rattle.omega_text.specs.private.hoa.scanning.Modes.{letter_kind}
use Rattle.omega_text.proofs.hoa_texts.Passing.{word_passes, word_simple}
use Rattle.omega_text.proofs.hoa.passing.pass_word.Goals as goal
use Rattle.omega_text.proofs.hoa.passing.pass_word.Goals.{then-count-eq1, else-count-eq1}

pub overflow_add-end : goal.overflow_add-end
overflow_add-end c =
    let size = length-drop c.args.place c.args.bytes.now in
    omega (arith, c.word_count-count.ensures, prefix_len-le-length is_word_byte c.tail-rest.result.now, ap length c.tail-rest.ensures, c.requires.within)

pub returns-then-ends_word : goal.returns-then-ends_word
returns-then-ends_word c =
    word_simple c.args.start c.args.bytes.now c.tail-rest.result.now c.args.place c.word_count-count.result c.requires.within c.tail-rest.ensures c.requires.letter c.word_count-count.ensures
    c.if-end-bytes.true (c.ends_word.ensures c.if-ends_word.true)

pub returns : goal.returns
returns c =
    let kind = c.if-count-eq1.kind in
    let count = c.word_count-count.result in
    let one : count ≡ 1 → kind ≡ letter_kind (get_or c.tail-rest.result.now 0 0) = elim c.if-count-eq1.branch [
      | then-count-eq1 w ↦ λ _. w.kind-is ∙ w.letter_kind-kind.ensures
      | else-count-eq1 w ↦ λ same. absurd (w.if-count-eq1.false same)
    ] in
    let more : count ≢ 1 → kind ≡ Identifier = elim c.if-count-eq1.branch [
      | then-count-eq1 w ↦ λ other. absurd (other w.if-count-eq1.true)
      | else-count-eq1 w ↦ λ _. w.kind-is
    ] in
    word_passes c.args.bytes.now c.tail-rest.result.now c.args.place c.args.start count c.requires.within c.tail-rest.ensures
    kind (record { mode = c.new.result; start = c.args.start; value = 0 }) c.requires.letter c.word_count-count.ensures one more c.new.ensures refl
