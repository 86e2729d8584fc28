-- The lines of starts, one by one.
use Rattle.std.proofs.Common.{◌≡◌, ℕ, ◌+◌, ◌<◌, List, [], ◌∷◌, ◌++◌, codes, decimal, length, get_or, map, take, ap, sym, ◌∙◌, append_assoc}
use Rattle.std.specs.List.{flat_map}
use Rattle.std.proofs.lemmas.Grind.{flat_map-append}
use Rattle.std.proofs.lemmas.List.{append-nil, map_more}
use Rattle.omega_canon.specs.HeaderText.{start_line}

module _ (f : ℕ → ℕ) (starts : List (List ℕ)) (index : ℕ) (start : List ℕ) (state : ℕ) where
  line : start ≡ state ∷ [] → start_line (map f start) ≡ codes "Start: " ++ (decimal (f state) ++ codes "\n")
  line alone =
      ap (λ (x : List ℕ). start_line (map f x)) alone ∙ ap (λ (x : List ℕ). codes "Start: " ++ (x ++ codes "\n")) (append-nil (decimal (f state)))

  -- one start more
  pub start_more : (out before after : List ℕ) → index < length starts → start ≡ get_or starts index start → start ≡ state ∷ []
      → before ≡ out ++ flat_map start_line (map (λ start. map f start) (take index starts))
      → after ≡ before ++ (codes "Start: " ++ (decimal (f state) ++ codes "\n"))
      → after ≡ out ++ flat_map start_line (map (λ start. map f start) (take (index + 1) starts))
  start_more out before after below here alone so_far is =
      let lines : List ℕ = flat_map start_line (map (λ start. map f start) (take index starts)) in
      let text : List ℕ = codes "Start: " ++ (decimal (f state) ++ codes "\n") in
      let more : flat_map start_line (map (λ start. map f start) (take (index + 1) starts)) ≡ lines ++ text =
      ap (flat_map start_line) (map_more (λ (s : List ℕ). map f s) starts index start below)
      ∙ flat_map-append start_line (map (λ start. map f start) (take index starts)) (map f (get_or starts index start) ∷ [])
      ∙ ap (λ (x : List ℕ). lines ++ x)
      (append-nil (start_line (map f (get_or starts index start))) ∙ (ap (λ (x : List ℕ). start_line (map f x)) (sym here) ∙ line alone)) in
      is ∙ ap (λ (x : List ℕ). x ++ text) so_far ∙ append_assoc out lines text ∙ ap (λ (x : List ℕ). out ++ x) (sym more)
