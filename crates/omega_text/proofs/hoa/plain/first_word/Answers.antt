-- The word that was counted, as it ends.
use Rattle.std.proofs.Common.{refl, arith}
use Rattle.omega_text.proofs.hoa_texts.Units.{first_header, first_word}
use Rattle.omega_text.proofs.hoa.plain.first_word.Goals as goal
use Rattle.omega_text.proofs.hoa.plain.first_word.Goals.{else-count-bytes-via-then-count-bytes+else-bytes-count-eq58, else-count-bytes-via-else-count-bytes}

pub returns-then-bytes-count-eq58 : goal.returns-then-bytes-count-eq58
returns-then-bytes-count-eq58 c =
    first_header c.args.bytes.now c.requires.some c.requires.letter c.word_count-count.result c.word_count-count.ensures c.if-count-bytes.true c.if-bytes-count-eq58.true

pub returns-then-count-eq1 : goal.returns-then-count-eq1
returns-then-count-eq1 c =
    first_word c.args.bytes.now c.requires.some c.requires.letter c.word_count-count.result c.word_count-count.ensures _
    (elim c.else-count-bytes.branch [
      | else-count-bytes-via-then-count-bytes+else-bytes-count-eq58 w ↦ λ _. w.if-bytes-count-eq58.false
      | else-count-bytes-via-else-count-bytes w ↦ λ inside. absurd (omega (arith, w.if-count-bytes.false))
    ])
    (λ _. c.letter_kind-kind.ensures)
    (λ more. absurd (more c.if-count-eq1.true))

pub returns-else-count-eq1 : goal.returns-else-count-eq1
returns-else-count-eq1 c =
    first_word c.args.bytes.now c.requires.some c.requires.letter c.word_count-count.result c.word_count-count.ensures _
    (elim c.else-count-bytes.branch [
      | else-count-bytes-via-then-count-bytes+else-bytes-count-eq58 w ↦ λ _. w.if-bytes-count-eq58.false
      | else-count-bytes-via-else-count-bytes w ↦ λ inside. absurd (omega (arith, w.if-count-bytes.false))
    ])
    (λ one. absurd (c.if-count-eq1.false one))
    (λ _. refl)
