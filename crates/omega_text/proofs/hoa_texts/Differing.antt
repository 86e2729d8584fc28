-- Texts that differ only before a place, and a tokenizer that has read one of them.
use Rattle.std.proofs.Common.{◌≡◌, ℕ, ◌+◌, ◌-◌, ◌≤◌, None, List, [], ◌∷◌, ◌++◌, length, drop, sym, ap, subst, ◌∙◌, arith, append-nil}
use Rattle.std.proofs.lemmas.List.{drop-append-le, drop-drop}
use Rattle.omega_text.specs.Cut.{Cuts}
use Rattle.omega_text.specs.Format.{GoesOneWay}
use Rattle.omega_text.specs.Lexeme.{Lexeme}
use Rattle.omega_text.specs.contracts.hoa.tokenizer.HoaTokenizerByteTokenizer.TheImpl.{ghosts as hoa_tokenizer}
use Rattle.omega_text.specs.declared.hoa.kind.HoaKind.{HoaKind}
use Rattle.omega_text.specs.declared.hoa.tokenizer.HoaTokenizer.{HoaTokenizer}
use Rattle.omega_text.specs.hoa.Cut.{Follows}
use Rattle.omega_text.specs.hoa.Format.{hoa_format}
use Rattle.omega_text.specs.hoa.Pieces.{DiffersBefore, Settles}
use Rattle.omega_text.specs.private.hoa.scanning.Reading.{Any, HasRead, IsAt, IsKept}
use Rattle.omega_text.proofs.formats.Cutting.{cuts_end, cuts_forward, cuts_join, cuts_split}
use Rattle.omega_text.proofs.hoa_texts.Exact.{hoa_exact}
use Rattle.omega_text.proofs.hoa_texts.Pieces.{kept_settled}

-- what is the same from a place on is so from each place after it
same_further : (one other : List ℕ) (from to : ℕ) → from ≤ to → drop from one ≡ drop from other → drop to one ≡ drop to other
same_further one other from to further same =
    let place : from + (to - from) ≡ to = omega arith in
    sym (drop-drop (to - from) from one ∙ ap (λ n. drop n one) place) ∙ ap (drop (to - from)) same ∙ drop-drop (to - from) from other ∙ ap (λ n. drop n other) place

-- a token follows by the bytes from a place on
same_follows : (one other : List ℕ) (from : ℕ) (lexeme : Lexeme HoaKind) → drop from one ≡ drop from other → Follows one from lexeme → Follows other from lexeme
same_follows one other from lexeme same follows = record {
  gap = follows.gap;
  rest = follows.rest;
  split = sym same ∙ follows.split;
  passed = follows.passed;
  spells = follows.spells;
  longest = follows.longest;
  start = follows.start;
  end = follows.end;
}

-- and so do tokens one after the other
same_cuts : GoesOneWay hoa_format → (one other : List ℕ) (from to : ℕ) (lexemes : List (Lexeme HoaKind)) → drop from one ≡ drop from other
    → Cuts hoa_format one from lexemes to → Cuts hoa_format other from lexemes to
same_cuts exact one other from to [] same cuts = cuts
same_cuts exact one other from to (lexeme ∷ lexemes) same cuts =
    let place = exact.following one from lexeme cuts.0 in (
      same_follows one other from lexeme same cuts.0,
      same_cuts exact one other lexeme.span.end to lexemes (same_further one other from lexeme.span.end (omega (arith, place.forward, place.nonempty)) same) cuts.1,
    )

-- a tokenizer that has read one text, and another that differs from it only before a place where whole tokens end
module _ (place : ℕ) (one other : List ℕ) (front another rest : List (Lexeme HoaKind)) (tokenizer : HoaTokenizer) (sound : tokenizer.fault ≡ None)
    (differs : DiffersBefore place one front other another) (read : HasRead one (front ++ rest) tokenizer) where
  at : IsAt Any one (front ++ rest) tokenizer.pending
  at = subst (λ fault. IsKept fault one (front ++ rest) tokenizer.pending) sound read.kept

  same_with : (more : List ℕ) → drop place (one ++ more) ≡ drop place (other ++ more)
  same_with more = drop-append-le place one more differs.within ∙ ap (λ bytes. bytes ++ more) differs.same
      ∙ sym (drop-append-le place other more (omega (arith, differs.within, differs.long)))

  -- the tokens after the place are in both
  following : (more : List ℕ) → Cuts hoa_format (one ++ more) place rest at.end
  following more =
      let parts = cuts_split hoa_format (one ++ more) 0 at.end front rest (at.cuts more tt) in
      subst (λ n. Cuts hoa_format (one ++ more) n rest at.end)
      (cuts_end hoa_format (one ++ more) 0 parts.0 place front parts.1 (differs.cuts more)) parts.2

  further : place ≤ at.end
  further =
      let within : place ≤ length (one ++ []) = omega (arith, differs.within, ap length (append-nil one)) in
      (cuts_forward hoa_format hoa_exact (one ++ []) place at.end rest within (following [])).0

  cuts_on : (more : List ℕ) → Any more → Cuts hoa_format (other ++ more) 0 (another ++ rest) at.end
  cuts_on more any = cuts_join hoa_format (other ++ more) 0 place at.end another rest (differs.other_cuts more)
      (same_cuts hoa_exact (one ++ more) (other ++ more) place at.end rest (same_with more) (following more))

  has_read_other : HasRead other (another ++ rest) tokenizer
  has_read_other = record {
    place = omega (arith, read.place, differs.long);
    kept = subst (λ fault. IsKept fault other (another ++ rest) tokenizer.pending) (sym sound) (record {
      end = at.end;
      gap = at.gap;
      begun = at.begun;
      cuts = cuts_on;
      split = sym (same_further one other place at.end further differs.same) ∙ at.split;
      within = omega (arith, at.within, differs.long);
      passed = at.passed;
      start = at.start;
      reached = at.reached;
      unfinished = at.unfinished;
    });
  }

-- a tokenizer that has read the one has read the other
pub read_differing : (place : ℕ) (one other : List ℕ) (front another rest : List (Lexeme HoaKind)) (tokenizer : HoaTokenizer) → hoa_tokenizer.fault tokenizer ≡ None
    → DiffersBefore place one front other another → hoa_tokenizer.read tokenizer one (front ++ rest) → hoa_tokenizer.read tokenizer other (another ++ rest)
read_differing place one other front another rest tokenizer sound differs read = has_read_other place one other front another rest tokenizer sound differs read

-- what a tokenizer has read without a fault is settled
pub read_settled : (seen : List ℕ) (lexemes : List (Lexeme HoaKind)) (tokenizer : HoaTokenizer) → hoa_tokenizer.read tokenizer seen lexemes → hoa_tokenizer.fault tokenizer ≡ None → Settles seen lexemes
read_settled seen lexemes tokenizer read sound =
    kept_settled None seen lexemes tokenizer.pending (subst (λ fault. IsKept fault seen lexemes tokenizer.pending) sound read.kept)
