-- The texts of the items of a stream, if their numbers do not matter.
use Rattle.std.proofs.Common.{◌≡◌, ℕ, ◌+◌, List, [], ◌∷◌, ◌++◌, Option, refl, ap, ◌∙◌}
use Rattle.omega_canon.specs.Stream.{canonical_item, canonical_stream}
use Rattle.omega_answers_stream.specs.Telling.{IsTelling, texts_from}
use Rattle.omega_hoa.specs.declared.item.Item.{Item}
use Rattle.omega_io.specs.Reading.{ReadsWhole}
use Rattle.omega_answers_stream.specs.Canon.{IsStreamCanonAnswer}

-- the canonical texts of items, one after the other, are those of the stream
canonical-reported : (number : ℕ) (items : List Item) → texts_from (λ _ item. canonical_item item) number items ≡ canonical_stream items
canonical-reported number [] = refl
canonical-reported number (item ∷ items) = ap (λ rest. canonical_item item ++ rest) (canonical-reported (number + 1) items)

-- so the text written for a stream that an input gives is the answer
pub canon-reported : (before after : Option (List ℕ)) (output : List ℕ) → ReadsWhole before after (λ text. IsTelling (λ _ item. canonical_item item) text output)
    → ReadsWhole before after (λ text. IsStreamCanonAnswer text output)
canon-reported before after output reads = record {
  text = reads.text;
  read = reads.read;
  end = reads.end;
  holds = record { items = reads.holds.items; read = reads.holds.read; written = reads.holds.all ∙ canonical-reported 0 reads.holds.items };
}
