-- A segment that is read at once.
use Rattle.std.proofs.Common.{◌≡◌, ℕ, ◌+◌, ◌<◌, ◌≤◌, false, None, List, [], ◌∷◌, ◌++◌, length, map, take, drop, refl, sym, ap, subst, ◌∙◌, arith, append_assoc, append-nil, length-append, length-drop, length-take-le}
use Rattle.std.proofs.Math.Seq.{drop-append-add}
use Rattle.std.proofs.lemmas.List.{drop-drop, take-append-drop}
use Rattle.std.specs.List.{AllByRecursion}
use Rattle.omega_text.specs.Cursor.{next_place}
use Rattle.omega_text.specs.Cut.{Cuts}
use Rattle.omega_text.specs.Format.{GoesOneWay}
use Rattle.omega_text.specs.Lexeme.{Lexeme}
use Rattle.omega_text.specs.Reading.{IsTokenOf}
use Rattle.omega_text.specs.contracts.hoa.tokenizer.HoaTokenizerByteTokenizer.TheImpl.{ghosts as hoa_tokenizer}
use Rattle.omega_text.specs.declared.hoa.kind.HoaKind.{HoaKind}
use Rattle.omega_text.specs.declared.hoa.kind.HoaKind.TheVariants.{End}
use Rattle.omega_text.specs.declared.hoa.tokenizer.HoaTokenizer.{HoaTokenizer}
use Rattle.omega_text.specs.hoa.Cut.{Follows}
use Rattle.omega_text.specs.hoa.Format.{hoa_format}
use Rattle.omega_text.specs.hoa.Laws.{is_closed}
use Rattle.omega_text.specs.hoa.Pieces.{EndsClosed, Settles}
use Rattle.omega_hoa_syntax.specs.Grammar.{ReadsAutomaton}
use Rattle.omega_hoa_syntax.specs.declared.raw_automaton.RawAutomaton.{RawAutomaton}
use Rattle.omega_hoa_automaton.specs.Automaton.{Description}
use Rattle.omega_hoa_automaton.specs.Meaning.{Means}
use Rattle.omega_hoa.specs.Feeding.{IsDivided}
use Rattle.omega_hoa.specs.Stream.{IsItemOf, IsSegment, NoneEnds}
use Rattle.omega_hoa.specs.private.Ahead.{BeginsAutomatonTo, IsFront}
use Rattle.omega_hoa.specs.private.Places.{counted_from}
use Rattle.omega_hoa.specs.private.dividing.Next.{IsProgress}
use Rattle.omega_hoa.specs.declared.item.Item.{Item}
use Rattle.omega_hoa.specs.declared.item.Item.TheVariants.{Automaton as AutomatonItem}
use Rattle.omega_hoa.specs.declared.progress.ReadProgress.{ReadProgress}
use Rattle.omega_hoa.proofs.Cutting.{cuts_last}
use Rattle.omega_hoa.proofs.Dividing.{stream_push}
use Rattle.omega_hoa.proofs.Filling.{segment_filled}
use Rattle.omega_hoa.proofs.Fronts.{front_cuts, nothing_after_end}
use Rattle.omega_hoa.proofs.Written.{AreLike, automaton_same}
use Rattle.omega_text.proofs.formats.Cutting.{cuts_end, cuts_forward, cuts_join}

-- the tokens of a cut are tokens of texts
tokens_of : (source : List ℕ) (from to : ℕ) (lexemes : List (Lexeme HoaKind)) → Cuts hoa_format source from lexemes to → AllByRecursion (IsTokenOf hoa_format) lexemes
tokens_of source from to [] cuts = tt
tokens_of source from to (lexeme ∷ lexemes) cuts = ((source, from, cuts.0), tokens_of source lexeme.span.end to lexemes cuts.1)

-- an automaton that is read of a front is that of a whole segment
pub front_read : (bytes : List ℕ) (to end long : ℕ) (lexemes rest : List (Lexeme HoaKind)) (raw : RawAutomaton) (automaton : Description) → IsFront bytes false 0 lexemes to
    → ReadsAutomaton lexemes raw rest → long ≡ to → end ≡ next_place rest long → Means raw automaton → BeginsAutomatonTo bytes end automaton
front_read bytes to end long lexemes rest raw automaton front reads same place means =
    let cuts = front_cuts bytes false 0 to lexemes front in
    let fills = segment_filled lexemes rest raw (tokens_of bytes 0 to lexemes cuts) reads in
    let whole = fills.whole in
    let split : lexemes ≡ whole.inside ++ whole.last ∷ rest = fills.split ∙ ap (λ all. all ++ rest) whole.split ∙ append_assoc whole.inside (whole.last ∷ []) rest in
    let none : rest ≡ [] = nothing_after_end bytes false 0 to whole.inside rest whole.last whole.ends (subst (λ ls. IsFront bytes false 0 ls to) split front) in
    let all : lexemes ≡ fills.segment = fills.split ∙ ap (λ ls. fills.segment ++ ls) none ∙ append-nil fills.segment in
    let stop : to ≡ end = sym same ∙ sym (place ∙ ap (λ ls. next_place ls long) none) in
    record {
      lexemes = fills.segment;
      cuts = subst (λ n. Cuts hoa_format bytes 0 fills.segment n) stop (subst (λ ls. Cuts hoa_format bytes 0 ls to) all cuts);
      segment = whole;
      value = record { raw = raw; written = fills.written; means = means };
    }

-- tokens of the bytes from a place on are those of all
counted_follows : (source : List ℕ) (base from : ℕ) (lexeme : Lexeme HoaKind) → Follows (drop base source) from lexeme → Follows source (from + base) (counted_from base lexeme)
counted_follows source base from lexeme follows =
    let place : base + from ≡ from + base = omega arith in
    record {
      gap = follows.gap;
      rest = follows.rest;
      split = ap (λ n. drop n source) (sym place) ∙ sym (drop-drop from base source) ∙ follows.split;
      passed = follows.passed;
      spells = follows.spells;
      longest = follows.longest;
      start = omega (arith, follows.start);
      end = omega (arith, follows.end);
    }

counted_cuts : (source : List ℕ) (base from to : ℕ) (lexemes : List (Lexeme HoaKind)) → Cuts hoa_format (drop base source) from lexemes to
    → Cuts hoa_format source (from + base) (map (counted_from base) lexemes) (to + base)
counted_cuts source base from to [] cuts = ap (λ n. n + base) cuts
counted_cuts source base from to (lexeme ∷ lexemes) cuts = (counted_follows source base from lexeme cuts.0, counted_cuts source base lexeme.span.end to lexemes cuts.1)

like_counted : (base : ℕ) (lexemes : List (Lexeme HoaKind)) → AreLike lexemes (map (counted_from base) lexemes)
like_counted base [] = tt
like_counted base (lexeme ∷ lexemes) = (record { kind = refl; value = refl; bytes = refl }, like_counted base lexemes)

none_ends_counted : (base : ℕ) (lexemes : List (Lexeme HoaKind)) → NoneEnds lexemes → NoneEnds (map (counted_from base) lexemes)
none_ends_counted base [] none = tt
none_ends_counted base (lexeme ∷ lexemes) none = (none.0, none_ends_counted base lexemes none.1)

map_counted : (base : ℕ) (front : List (Lexeme HoaKind)) (last : Lexeme HoaKind) → map (counted_from base) (front ++ last ∷ []) ≡ map (counted_from base) front ++ counted_from base last ∷ []
map_counted base [] last = refl
map_counted base (first ∷ front) last = ap (λ all. counted_from base first ∷ all) (map_counted base front last)

segment_counted : (base : ℕ) (mark : HoaKind) (lexemes : List (Lexeme HoaKind)) → IsSegment mark lexemes → IsSegment mark (map (counted_from base) lexemes)
segment_counted base mark lexemes segment = record {
  inside = map (counted_from base) segment.inside;
  last = counted_from base segment.last;
  split = ap (map (counted_from base)) segment.split ∙ map_counted base segment.inside segment.last;
  before = record {
    first = counted_from base segment.before.first;
    rest = map (counted_from base) segment.before.rest;
    split = ap (map (counted_from base)) segment.before.split;
    opens = record { kind = segment.before.opens.kind; text = segment.before.opens.text };
    unended = none_ends_counted base segment.before.rest segment.before.unended;
  };
  ends = segment.ends;
}

module _ (exact : GoesOneWay hoa_format) (bytes : List ℕ) (place count : ℕ) (automaton : Description) (within : place < length bytes) (begun : BeginsAutomatonTo (drop place bytes) count automaton) where
  -- a segment has some bytes, and they are there
  pub front_size : (0 < count) × (place + count ≤ length bytes)
  front_size =
      let all = cuts_forward hoa_format exact (drop place bytes) 0 count begun.lexemes (omega arith) begun.cuts in
      let parts = cuts_last hoa_format (drop place bytes) 0 count begun.segment.inside begun.segment.last
      (subst (λ ls. Cuts hoa_format (drop place bytes) 0 ls count) begun.segment.split begun.cuts) in
      let last = exact.following (drop place bytes) parts.0 begun.segment.last parts.2 in
      (omega (arith, last.nonempty, parts.3), omega (arith, all.1, within, length-drop place bytes))

  module _ (first : ℕ) (progress : ReadProgress) (prior : List ℕ) (items : List Item) (so_far : IsProgress bytes first place progress prior items)
      (there : first + place ≡ progress.division.begins) where
    abbrev base : ℕ
    base = progress.division.begins

    abbrev seen : List ℕ
    seen = prior ++ take (place + count) bytes

    abbrev source : List ℕ
    source = prior ++ bytes

    abbrev segment : List (Lexeme HoaKind)
    segment = map (counted_from base) begun.lexemes

    abbrev item : Item
    item = AutomatonItem automaton

    abbrev front : List (Lexeme HoaKind)
    front = so_far.divided.front ++ segment

    -- the bytes seen then, and those after them
    seen_size : length seen ≡ count + base
    seen_size = let size = front_size in
        let prior_is = so_far.there in
        omega (arith, length-append prior (take (place + count) bytes), length-take-le (place + count) bytes size.1)

    seen_on : seen ++ drop (place + count) bytes ≡ source
    seen_on = append_assoc prior (take (place + count) bytes) (drop (place + count) bytes) ∙ ap (λ bs. prior ++ bs) (take-append-drop (place + count) bytes)

    from_base : drop base source ≡ drop place bytes
    from_base = let begins : length prior + place ≡ base = omega (arith, there, so_far.there) in
        ap (λ n. drop n source) (sym begins) ∙ drop-append-add prior bytes place

    -- the tokens of the segment are the text's
    segment_cuts : Cuts hoa_format source base segment (count + base)
    segment_cuts = let from : 0 + base ≡ base = omega arith in
        subst (λ n. Cuts hoa_format source n segment (count + base)) from (counted_cuts source base 0 count begun.lexemes (subst (λ bs. Cuts hoa_format bs 0 begun.lexemes count) (sym from_base) begun.cuts))

    before : Cuts hoa_format source 0 so_far.divided.front base
    before = subst (λ bs. Cuts hoa_format bs 0 so_far.divided.front base)
        (append_assoc prior (take place bytes) (drop place bytes) ∙ ap (λ bs. prior ++ bs) (take-append-drop place bytes)) (so_far.divided.cuts (drop place bytes))

    whole : Cuts hoa_format source 0 front (count + base)
    whole = cuts_join hoa_format source 0 base (count + base) so_far.divided.front segment before segment_cuts

    counted : IsSegment End segment
    counted = segment_counted base End begun.lexemes begun.segment

    ends_closed : EndsClosed seen front
    ends_closed = record {
      front = so_far.divided.front ++ counted.inside;
      last = counted.last;
      rest = drop (place + count) bytes;
      split = ap (λ ls. so_far.divided.front ++ ls) counted.split ∙ sym (append_assoc so_far.divided.front counted.inside (counted.last ∷ []));
      closed = ap is_closed counted.ends;
      cuts = subst (λ n. Cuts hoa_format (seen ++ drop (place + count) bytes) 0 front n) (sym seen_size)
          (subst (λ bs. Cuts hoa_format bs 0 front (count + base)) (sym seen_on) whole);
    }

    of_item : IsItemOf segment item
    of_item = (counted, automaton_same begun.lexemes segment automaton (like_counted base begun.lexemes) begun.value)

    module _ (stop : ℕ) (tokenizer : HoaTokenizer) (stop_is : stop ≡ first + (place + count)) (sound : hoa_tokenizer.fault tokenizer ≡ None)
        (read : (text : List ℕ) (lexemes : List (Lexeme HoaKind)) → stop ≡ length text → EndsClosed text lexemes → hoa_tokenizer.read tokenizer text lexemes)
        (settles : (text : List ℕ) (lexemes : List (Lexeme HoaKind)) → hoa_tokenizer.read tokenizer text lexemes → Settles text lexemes) where
      stop_there : stop ≡ count + base
      stop_there = omega (arith, stop_is, there)

      read_there : hoa_tokenizer.read tokenizer seen front
      read_there = read seen front (stop_there ∙ sym seen_size) ends_closed

      -- all are whole segments then
      divided : IsDivided seen front (items ++ item ∷ []) stop false
      divided =
          let settled = settles seen front read_there in
          let end : settled.end ≡ stop =
          cuts_end hoa_format source 0 settled.end stop front (subst (λ bs. Cuts hoa_format bs 0 front settled.end) seen_on (settled.cuts (drop (place + count) bytes)))
          (subst (λ n. Cuts hoa_format source 0 front n) (sym stop_there) whole) in
          record {
            front = front;
            rest = [];
            split = sym (append-nil front);
            before = stream_push so_far.divided.front segment items item so_far.divided.before of_item;
            following = refl;
            cuts = λ more. subst (λ n. Cuts hoa_format (seen ++ more) 0 front n) end (settled.cuts more);
          }

      -- so the segment was read
      pub whole_read : IsProgress bytes first (place + count) (record { tokenizer = tokenizer; division = record { begins = stop; inside = false } }) prior (items ++ item ∷ [])
      whole_read = record {
        there = so_far.there;
        lexemes = front;
        read = read_there;
        sound = sound;
        divided = divided;
        from = omega (arith, stop_is);
        short = so_far.short;
      }
