-- The figures of all planes: the output filled plane after plane.
use mathlib.Core.Path.{◌≡◌, refl, sym, ap, ◌∙◌}
use mathlib.Core.List.{List, [], ◌∷◌, ◌++◌, append_assoc}
use Prim.Native.Nat.{ℕ, zero, suc, ◌+◌, ◌*◌, ◌<◌}
use native.Mathlib.Numerals.{add-one}
use native.Mathlib.Omega.{arith}
use lib.IntN.{ℤ}
use lib.ListN.{length, get_or, drop, set, length-append}
use lib.Seq.{drop-cons, set_at}
use Rattle.figures.specs.declared.Figures.{Figures}
use Rattle.figures.specs.Figures.{figures_of, four_numbers, figures_below}

-- one number more, and four
put_one : (X held : List ℕ) (q v : ℕ) → length X ≡ q → q < length held
    → set (X ++ drop q held) q v ≡ (X ++ (v ∷ [])) ++ drop (suc q) held
put_one X held q v e h =
    ap (λ (l : List ℕ). set (X ++ l) q v) (drop-cons held q v h)
    ∙ set_at X (get_or held q v) (drop (suc q) held) v q e
    ∙ sym (append_assoc X (v ∷ []) (drop (suc q) held))

one_longer : (X : List ℕ) (q v : ℕ) → length X ≡ q → length (X ++ (v ∷ [])) ≡ suc q
one_longer X q v e = omega (arith, length-append X (v ∷ []))

put_four : (X held : List ℕ) (q a b c d : ℕ) → length X ≡ q → q + 3 < length held
    → set (set (set (set (X ++ drop q held) q a) (q + 1) b) (q + 2) c) (q + 3) d ≡ (X ++ (a ∷ b ∷ c ∷ d ∷ [])) ++ drop (q + 4) held
put_four X held q a b c d e h =
    let e1 : q + 1 ≡ suc q = omega arith in
    let e2 : q + 2 ≡ suc (suc q) = omega arith in
    let e3 : q + 3 ≡ suc (suc (suc q)) = omega arith in
    let e4 : q + 4 ≡ suc (suc (suc (suc q))) = omega arith in
    let l1 = one_longer X q a e in
    let l2 = one_longer (X ++ (a ∷ [])) (suc q) b l1 in
    let l3 = one_longer (X ++ (a ∷ []) ++ (b ∷ [])) (suc (suc q)) c l2 in
    rw (
      e1,
      e2,
      e3,
      e4,
      put_one X held q a e (omega arith),
      put_one (X ++ (a ∷ [])) held (suc q) b l1 (omega arith),
      put_one (X ++ (a ∷ []) ++ (b ∷ [])) held (suc (suc q)) c l2 (omega arith),
      put_one (X ++ (a ∷ []) ++ (b ∷ []) ++ (c ∷ [])) held (suc (suc (suc q))) d l3 (omega arith),
    )
    (ap (λ (l : List ℕ). l ++ drop (suc (suc (suc (suc q)))) held) joined)
  where
    joined : X ++ (a ∷ []) ++ (b ∷ []) ++ (c ∷ []) ++ (d ∷ []) ≡ X ++ (a ∷ b ∷ c ∷ d ∷ [])
    joined =
        ap (λ (l : List ℕ). l ++ (c ∷ []) ++ (d ∷ [])) (append_assoc X (a ∷ []) (b ∷ []))
        ∙ ap (λ (l : List ℕ). l ++ (d ∷ [])) (append_assoc X (a ∷ b ∷ []) (c ∷ []))
        ∙ append_assoc X (a ∷ b ∷ c ∷ []) (d ∷ [])

-- the output, plane after plane
module _ (N L : ℕ) (A : List ℤ) where
  pub below_length : (b : ℕ) → length (figures_below N L A b) ≡ 4 * b
  unfolding figures_below
  below_length zero = refl
  below_length (suc b) = omega (arith, length-append (figures_below N L A b) (four_numbers (figures_of N L A b)), below_length b)

  pub below_none : (held : List ℕ) → held ≡ figures_below N L A 0 ++ drop (4 * 0) held
  unfolding figures_below
  below_none held = refl

  pub next_plane : (b : ℕ) (held out : List ℕ) (f : Figures) → f ≡ figures_of N L A b → out ≡ figures_below N L A b ++ drop (4 * b) held → 4 * b + 3 < length held
      → set (set (set (set out (4 * b) f.parts) (4 * b + 1) f.splits) (4 * b + 2) f.bits) (4 * b + 3) f.found
      ≡ figures_below N L A (b + 1) ++ drop (4 * (b + 1)) held
  unfolding figures_below
  next_plane b held out f e o h =
      let q : 4 * (b + 1) ≡ 4 * b + 4 = omega arith in
      rw (o, e, q, add-one b) (put_four (figures_below N L A b) held (4 * b) (figures_of N L A b).parts (figures_of N L A b).splits (figures_of N L A b).bits (figures_of N L A b).found (below_length b) h)
