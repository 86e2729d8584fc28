-- The longest word is one of the two words, or no token.
use Rattle.std.proofs.Common.{take, inr, refl, sym, subst, ◌∙◌}
use Rattle.std.specs.Cmp.Lexicographic.{bytes_decides}
use Rattle.omega_text.specs.Forms.{IsWord}
use Rattle.omega_text.specs.pg.Forms.{IsLongest}
use Rattle.omega_text.proofs.pg_texts.Classes.{both_ways}
use Rattle.omega_text.proofs.pg_texts.Longest.{longest_word}
use Rattle.omega_text.proofs.pg_texts.Numbers.{wrong_word}
use Rattle.omega_text.proofs.pg_texts.Tokens.{front_as}
use Rattle.omega_text.proofs.pg.token.first_word.Goals as goal
use Rattle.omega_text.proofs.pg.token.first_word.Goals.{After-word_count-count}

-- the bytes that were counted are the longest form
counted : (c : After-word_count-count) → IsLongest c.args.bytes.now c.word_count-count.result × IsWord (take c.word_count-count.result c.args.bytes.now)
counted c = subst (λ count. IsLongest c.args.bytes.now count × IsWord (take count c.args.bytes.now)) (sym c.word_count-count.ensures) (longest_word c.args.bytes.now c.requires.some c.requires.letter)

pub returns-then-eq-clause-form : goal.returns-then-eq-clause-form
returns-then-eq-clause-form c =
    let same = (bytes_decides _ _).0 (sym c.eq.ensures ∙ c.if-eq.true) ∙ c.as_slice.ensures in
    front_as _ _ _ _ _ _ c.plain_form.ensures.kind c.plain_form.ensures.value c.plain_form.ensures.count (counted (goal.at.returns-then-eq-clause-form c).After-word_count-count).0 (refl, same)

pub returns-then-eq-2-clause-form : goal.returns-then-eq-2-clause-form
returns-then-eq-2-clause-form c =
    let same = (bytes_decides _ _).0 (sym c.eq-else-eq.ensures ∙ c.if-eq-2.true) ∙ c.as_slice-else-eq.ensures in
    front_as _ _ _ _ _ _ c.plain_form-then-eq-2.ensures.kind c.plain_form-then-eq-2.ensures.value c.plain_form-then-eq-2.ensures.count (counted (goal.at.returns-then-eq-2-clause-form c).After-word_count-count).0 (refl, same)

pub returns-else-eq-2-clause-fault : goal.returns-else-eq-2-clause-fault
returns-else-eq-2-clause-fault c =
    let front = counted (goal.at.returns-else-eq-2-clause-fault c).After-word_count-count in (
      refl,
      inr (record {
        count = c.word_count-count.result;
        longest = front.0;
        word = front.1;
        wrong = wrong_word (take c.word_count-count.result c.args.bytes.now) front.1
            (λ same. both_ways _ ((bytes_decides _ _).1 (same ∙ sym c.as_slice.ensures)) (sym c.eq.ensures ∙ c.if-eq.false))
            (λ same. both_ways _ ((bytes_decides _ _).1 (same ∙ sym c.as_slice-else-eq.ensures)) (sym c.eq-else-eq.ensures ∙ c.if-eq-2.false));
      }),
    )
