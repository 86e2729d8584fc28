-- No text is neither read nor refused.
use Rattle.std.proofs.Common.{zero, suc, ◌≡◌, ℕ, ◌≤◌, ◌⊎◌, true, false, Some, None, List, [], ◌∷◌, ◌++◌, length, refl, sym, ap, subst, ◌∙◌, inl, inr, arith, append_assoc, append-nil, length-append}
use Rattle.std.proofs.lemmas.Bool.{cases_lt}
use Rattle.omega_text.specs.Cut.{CutOrFault, Cuts, IsCut}
use Rattle.omega_text.specs.Format.{GoesOneWay, IsLexical}
use Rattle.omega_text.specs.Lexeme.{Lexeme}
use Rattle.omega_text.specs.Limits.{most_text}
use Rattle.omega_text.specs.hoa.Format.{hoa_format}
use Rattle.omega_text.specs.declared.hoa.kind.HoaKind.{HoaKind}
use Rattle.omega_text.specs.declared.hoa.kind.HoaKind.TheVariants.{Abort, End}
use Rattle.omega_text.specs.declared.refusal.Refusal.{Refusal}
use Rattle.omega_text.specs.declared.refusal.Refusal.TheVariants.{Automaton as AutomatonRefusal, Text}
use Rattle.omega_text.specs.declared.refusal.text.TextFault.{TextFault}
use Rattle.omega_text.specs.declared.refusal.text.TextFault.TheVariants.{Lex, Number, Syntax, TooLong}
use Rattle.omega_hoa_automaton.specs.Automaton.{Description}
use Rattle.omega_hoa_automaton.specs.Faults.{automaton_fault_of}
use Rattle.omega_hoa_automaton.specs.Laws.{MeaningsAreThere}
use Rattle.omega_hoa.specs.Alone.{AreRefused, IsAutomatonRefusal, IsAutomatonText}
use Rattle.omega_hoa.specs.Segment.{IsAutomatonOf, IsSegmentFault}
use Rattle.omega_hoa.specs.Stream.{IsOpen, IsSegment, IsStream, IsStreamFault, IsStreamRefusal, IsStreamText, NoneEnds, Opens, is_end}
use Rattle.omega_hoa.specs.declared.item.Item.{Item}
use Rattle.omega_hoa.specs.declared.item.Item.TheVariants.{Automaton as AutomatonItem, Aborted}
use Rattle.omega_hoa.proofs.Dividing.{ended, stream_push}
use Rattle.omega_hoa.proofs.Places.{segment_refused}
use Rattle.omega_text.proofs.formats.Cutting.{cuts_split}

-- a mark that ends a segment, and the tokens before and after it
record Marked (lexemes : List (Lexeme HoaKind)) : Type 0 where
  inside : List (Lexeme HoaKind)
  last : Lexeme HoaKind
  rest : List (Lexeme HoaKind)
  split : lexemes ≡ inside ++ last ∷ rest
  unended : NoneEnds inside
  ends : is_end last.kind ≡ true

-- a mark is among the tokens or none is
marked_or_not : (lexemes : List (Lexeme HoaKind)) → NoneEnds lexemes ⊎ Marked lexemes
marked_or_not [] = inl tt
marked_or_not (lexeme ∷ lexemes) =
    elim (is_end lexeme.kind) as (λ ends. is_end lexeme.kind ≡ ends → NoneEnds (lexeme ∷ lexemes) ⊎ Marked (lexeme ∷ lexemes)) [
      | true ↦ λ is. inr (record { inside = []; last = lexeme; rest = lexemes; split = refl; unended = tt; ends = is })
      | false ↦ λ is. elim (marked_or_not lexemes) [
        | inl none ↦ inl (is, none)
        | inr mark ↦ inr (record {
          inside = lexeme ∷ mark.inside;
          last = mark.last;
          rest = mark.rest;
          split = ap (λ all. lexeme ∷ all) mark.split;
          unended = (is, mark.unended);
          ends = mark.ends;
        })
      ]
    ] refl

-- a mark is one of two
end_or_abort : (kind : HoaKind) → is_end kind ≡ true → (kind ≡ End) ⊎ (kind ≡ Abort)
end_or_abort End is = inl refl
end_or_abort Abort is = inr refl
end_or_abort kind is = let clash : false ≡ true = is in cc

-- the tokens after `HOA:` are a segment so far, or a whole one and others
module _ (first : Lexeme HoaKind) (rest : List (Lexeme HoaKind)) (opens : Opens first) where
  begun : NoneEnds rest → IsOpen (first ∷ rest)
  begun none = record { first = first; rest = rest; split = refl; opens = opens; unended = none }

  begun_before : (mark : Marked rest) → IsOpen (first ∷ mark.inside)
  begun_before mark = record { first = first; rest = mark.inside; split = refl; opens = opens; unended = mark.unended }

  split_after : (mark : Marked rest) → first ∷ rest ≡ ((first ∷ mark.inside) ++ mark.last ∷ []) ++ mark.rest
  split_after mark = ap (λ all. first ∷ all) (mark.split ∙ sym (append_assoc mark.inside (mark.last ∷ []) mark.rest))

-- a segment that is no automaton and has no fault is none
module _ (there : MeaningsAreThere) (lexemes : List (Lexeme HoaKind)) (whole : IsSegment End lexemes) where
  judged : ((automaton : Description) → IsAutomatonOf lexemes automaton → ⊥) → ((refusal : Refusal) → IsSegmentFault lexemes refusal → ⊥) → ⊥
  judged no_automaton no_fault = segment_refused lexemes whole
      (λ raw written.
      (elim (automaton_fault_of raw) as (λ said. automaton_fault_of raw ≡ said → ⊥) [
        | None ↦ λ none. let means = there raw none in no_automaton means.0 (record { raw = raw; written = written; means = means.1 })
        | Some fault ↦ λ has. no_fault (AutomatonRefusal fault) (record { raw = raw; written = written; has = has })
      ]) refl)
      (λ place first. no_fault (Text (Syntax place)) first)

-- a text within the limit is that of an automaton or refused
module _ (there : MeaningsAreThere) (source : List ℕ) (short : length source ≤ most_text)
    (no_automaton : (automaton : Description) → IsAutomatonText source automaton → ⊥) (no_refusal : (refusal : Refusal) → IsAutomatonRefusal source refusal → ⊥) where
  module _ (lexemes : List (Lexeme HoaKind)) (cut : IsCut hoa_format source lexemes) where
    tokens_refused : (refusal : Refusal) → AreRefused (length source) lexemes refusal → ⊥
    tokens_refused refusal refused = no_refusal refusal (inr (short, inr (lexemes, cut, refused)))

    -- a segment that others follow
    followed : (segment more : List (Lexeme HoaKind)) (next : Lexeme HoaKind) → IsSegment End segment → lexemes ≡ segment ++ next ∷ more → ⊥
    followed segment more next whole split = segment_refused segment whole
        (λ raw written. tokens_refused (Text (Syntax next.span.start)) (inr (record {
          segment = segment;
          rest = next ∷ more;
          split = split;
          whole = whole;
          refused = inr ((raw, written), (next, more, refl, refl));
        })))
        (λ place first. tokens_refused (Text (Syntax place)) (inr (record {
          segment = segment;
          rest = next ∷ more;
          split = split;
          whole = whole;
          refused = inl (first, inl refl);
        })))

    -- a segment alone
    alone : (segment : List (Lexeme HoaKind)) → IsSegment End segment → lexemes ≡ segment ++ [] → ⊥
    alone segment whole split =
        let same : segment ≡ lexemes = sym (append-nil segment) ∙ sym split in
        judged there segment whole
        (λ automaton is. no_automaton automaton (record {
          short = short;
          lexemes = lexemes;
          cut = cut;
          segment = subst (IsSegment End) same whole;
          value = subst (λ ls. IsAutomatonOf ls automaton) same is;
        }))
        (λ refusal fault. tokens_refused refusal (inr (record { segment = segment; rest = []; split = split; whole = whole; refused = inl (fault, inr refl) })))

    whole_segment : (segment rest : List (Lexeme HoaKind)) → IsSegment End segment → lexemes ≡ segment ++ rest → ⊥
    whole_segment segment [] whole split = alone segment whole split
    whole_segment segment (next ∷ more) whole split = followed segment more next whole split

    -- after `HOA:`
    opened : (first : Lexeme HoaKind) (rest : List (Lexeme HoaKind)) → lexemes ≡ first ∷ rest → Opens first → ⊥
    opened first rest split opens = elim (marked_or_not rest) [
      | inl none ↦ tokens_refused (Text (Syntax (length source))) (inl (length source, refl, inr (inr (inl (subst IsOpen (sym split) (begun first rest opens none), refl)))))
      | inr mark ↦
          let before = begun_before first rest opens mark in
          elim (end_or_abort mark.last.kind mark.ends) [
            | inl end ↦ whole_segment ((first ∷ mark.inside) ++ mark.last ∷ []) mark.rest (ended (first ∷ mark.inside) mark.last End before end) (split ∙ split_after first rest opens mark)
            | inr abort ↦ tokens_refused (Text (Syntax mark.last.span.start))
                (inl (mark.last.span.start, refl, inr (inr (inr (first ∷ mark.inside, mark.last, mark.rest, split ∙ ap (λ all. first ∷ all) mark.split, before, abort, refl)))))
          ]
    ]

    by_tokens : (tokens : List (Lexeme HoaKind)) → lexemes ≡ tokens → ⊥
    by_tokens [] is = tokens_refused (Text (Syntax (length source))) (inl (length source, refl, inl (is, refl)))
    by_tokens (first ∷ rest) is =
        tokens_refused (Text (Syntax first.span.start)) (inl (first.span.start, refl, inr (inl (first, rest, is, opened first rest is, refl))))

  some_way : CutOrFault hoa_format → ⊥
  some_way cut_or_fault = elim (cut_or_fault source) [
    | inl cut ↦ by_tokens cut.0 cut.1 cut.0 refl
    | inr fault ↦ no_refusal (Text fault.0) (inr (short, inl (fault.0, refl, fault.1)))
  ]

pub automaton_or_refused : MeaningsAreThere → CutOrFault hoa_format → (source : List ℕ) → ((automaton : Description) → IsAutomatonText source automaton → ⊥)
    → ((refusal : Refusal) → IsAutomatonRefusal source refusal → ⊥) → ⊥
automaton_or_refused there cut_or_fault source no_automaton no_refusal = elim (cases_lt most_text (length source)) [
  | inl over ↦ no_refusal (Text TooLong) (inl (refl, over))
  | inr short ↦ some_way there source short no_automaton no_refusal cut_or_fault
]

-- a cut, and a cut from where it ends
joined_cuts : (source : List ℕ) (from middle to : ℕ) (front back : List (Lexeme HoaKind)) → Cuts hoa_format source from front middle → Cuts hoa_format source middle back to
    → Cuts hoa_format source from (front ++ back) to
joined_cuts source from middle to [] back front_cuts cuts = subst (λ n. Cuts hoa_format source n back to) (sym front_cuts) cuts
joined_cuts source from middle to (lexeme ∷ front) back front_cuts cuts = (front_cuts.0, joined_cuts source lexeme.span.end middle to front back front_cuts.1 cuts)

-- a text ends at a place, or goes on with a fault
abbrev Stops : List ℕ → ℕ → Type 0
Stops source end = hoa_format.ends source end ⊎ ((fault : TextFault) × hoa_format.faults source end fault)

-- a text within the limit is a stream or refused
module _ (there : MeaningsAreThere) (exact : GoesOneWay hoa_format) (source : List ℕ) (short : length source ≤ most_text)
    (no_stream : (items : List Item) → IsStreamText source items → ⊥) (no_fault : (items : List Item) (refusal : Refusal) → IsStreamFault source items refusal → ⊥) where
  -- a fault of tokens outside segments
  lexical_outside : (front : List (Lexeme HoaKind)) (items : List Item) (at : ℕ) (fault : TextFault) → IsStream front items → Cuts hoa_format source 0 (front ++ []) at → hoa_format.faults source at fault
      → IsLexical fault → ⊥
  lexical_outside front items at (Lex place) stream cuts faults lexical =
      no_fault items (Text (Lex place)) (record { front = front; rest = []; from = at; cuts = cuts; before = stream; refused = inl (refl, faults) })
  lexical_outside front items at (Number place) stream cuts faults lexical =
      no_fault items (Text (Number place)) (record { front = front; rest = []; from = at; cuts = cuts; before = stream; refused = inl (refl, faults) })
  lexical_outside front items at (Syntax place) stream cuts faults lexical = lexical
  lexical_outside front items at TooLong stream cuts faults lexical = lexical

  -- inside one
  lexical_inside : (front rest : List (Lexeme HoaKind)) (items : List Item) (at : ℕ) (fault : TextFault) → IsStream front items → Cuts hoa_format source 0 (front ++ rest) at → IsOpen rest
      → hoa_format.faults source at fault → IsLexical fault → ⊥
  lexical_inside front rest items at (Lex place) stream cuts begun faults lexical =
      no_fault items (Text (Lex place)) (record { front = front; rest = rest; from = at; cuts = cuts; before = stream; refused = inr (inl (begun, faults)) })
  lexical_inside front rest items at (Number place) stream cuts begun faults lexical =
      no_fault items (Text (Number place)) (record { front = front; rest = rest; from = at; cuts = cuts; before = stream; refused = inr (inl (begun, faults)) })
  lexical_inside front rest items at (Syntax place) stream cuts begun faults lexical = lexical
  lexical_inside front rest items at TooLong stream cuts begun faults lexical = lexical

  -- if the tokens end outside segments
  stops_outside : (front : List (Lexeme HoaKind)) (items : List Item) (at : ℕ) → IsStream front items → Cuts hoa_format source 0 front at → Stops source at → ⊥
  stops_outside front items at stream cuts stops = elim stops [
    | inl ends ↦ no_stream items (record { short = short; lexemes = front; cut = record { end = at; cuts = cuts; rest = ends }; stream = stream })
    | inr fault ↦ lexical_outside front items at fault.0 stream (subst (λ ls. Cuts hoa_format source 0 ls at) (sym (append-nil front)) cuts) fault.1 (exact.lexical source at fault.0 fault.1)
  ]

  -- inside one
  stops_inside : (front rest : List (Lexeme HoaKind)) (items : List Item) (at : ℕ) → IsStream front items → Cuts hoa_format source 0 (front ++ rest) at → IsOpen rest → Stops source at → ⊥
  stops_inside front rest items at stream cuts begun stops = elim stops [
    | inl ends ↦ no_fault items (Text (Syntax (length source))) (record { front = front; rest = rest; from = at; cuts = cuts; before = stream; refused = inr (inl (begun, (ends, refl))) })
    | inr fault ↦ lexical_inside front rest items at fault.0 stream cuts begun fault.1 (exact.lexical source at fault.0 fault.1)
  ]

  -- a token other than `HOA:`
  stray_outside : (front : List (Lexeme HoaKind)) (items : List Item) (at : ℕ) (first : Lexeme HoaKind) → IsStream front items → Cuts hoa_format source 0 front at → hoa_format.follows source at first
      → (Opens first → ⊥) → ⊥
  stray_outside front items at first stream cuts follows other = no_fault items (Text (Syntax first.span.start)) (record {
    front = front;
    rest = [];
    from = at;
    cuts = subst (λ ls. Cuts hoa_format source 0 ls at) (sym (append-nil front)) cuts;
    before = stream;
    refused = inl (refl, (first, follows, other, refl));
  })

  -- a segment that ends with `--END--`
  automaton_or_fault : (front segment : List (Lexeme HoaKind)) (items : List Item) (at : ℕ) → IsStream front items → Cuts hoa_format source 0 (front ++ segment) at → IsSegment End segment
      → ((automaton : Description) → IsStream (front ++ segment) (items ++ AutomatonItem automaton ∷ []) → ⊥) → ⊥
  automaton_or_fault front segment items at stream cuts whole onward = judged there segment whole
      (λ automaton is. onward automaton (stream_push front segment items (AutomatonItem automaton) stream (whole, is)))
      (λ refusal fault. no_fault items refusal (record { front = front; rest = segment; from = at; cuts = cuts; before = stream; refused = inr (inr (whole, fault)) }))

  -- at most this number of tokens is left after whole segments
  walked : (count : ℕ) (front : List (Lexeme HoaKind)) (items : List Item) (at end : ℕ) (tokens : List (Lexeme HoaKind)) → length tokens ≤ count → IsStream front items
      → Cuts hoa_format source 0 front at → Cuts hoa_format source at tokens end → Stops source end → ⊥
  walked count front items at end [] few stream cuts more stops = stops_outside front items at stream cuts (subst (Stops source) (sym more) stops)
  walked zero front items at end (first ∷ rest) few stream cuts more stops = absurd (omega (arith, few))
  walked (suc count) front items at end (first ∷ rest) few stream cuts more stops = stray_outside front items at first stream cuts more.0 (λ opens.
      elim (marked_or_not rest) [
        | inl none ↦ stops_inside front (first ∷ rest) items end stream (joined_cuts source 0 at end front (first ∷ rest) cuts more) (begun first rest opens none) stops
        | inr mark ↦
            let segment = (first ∷ mark.inside) ++ mark.last ∷ [] in
            let before = begun_before first rest opens mark in
            let halves = cuts_split hoa_format source at end segment mark.rest (subst (λ ls. Cuts hoa_format source at ls end) (split_after first rest opens mark) more) in
            let all = joined_cuts source 0 at halves.0 front segment cuts halves.1 in
            let fewer : length mark.rest ≤ count = omega (arith, few, ap length mark.split, length-append mark.inside (mark.last ∷ mark.rest)) in
            elim (end_or_abort mark.last.kind mark.ends) [
              | inl is ↦ automaton_or_fault front segment items halves.0 stream all (ended (first ∷ mark.inside) mark.last End before is) (λ automaton longer.
                  walked count (front ++ segment) (items ++ AutomatonItem automaton ∷ []) halves.0 end mark.rest fewer longer all halves.2 stops)
              | inr is ↦ walked count (front ++ segment) (items ++ Aborted ∷ []) halves.0 end mark.rest fewer
                  (stream_push front segment items Aborted stream (ended (first ∷ mark.inside) mark.last Abort before is)) all halves.2 stops
            ]
      ])

  pub some_stream : CutOrFault hoa_format → ⊥
  some_stream cut_or_fault = elim (cut_or_fault source) [
    | inl cut ↦ walked (length cut.0) [] [] 0 cut.1.end cut.0 (omega arith) refl refl cut.1.cuts (inl cut.1.rest)
    | inr fault ↦ walked (length fault.1.lexemes) [] [] 0 fault.1.end fault.1.lexemes (omega arith) refl refl fault.1.cuts (inr (fault.0, fault.1.faults))
  ]

pub stream_or_refused : MeaningsAreThere → GoesOneWay hoa_format → CutOrFault hoa_format → (source : List ℕ) → ((items : List Item) → IsStreamText source items → ⊥)
    → ((refusal : Refusal) → IsStreamRefusal source refusal → ⊥) → ⊥
stream_or_refused there exact cut_or_fault source no_stream no_refusal = elim (cases_lt most_text (length source)) [
  | inl over ↦ no_refusal (Text TooLong) (inl (refl, over))
  | inr short ↦ some_stream there exact source short no_stream (λ items refusal fault. no_refusal refusal (inr (short, (items, fault)))) cut_or_fault
]
