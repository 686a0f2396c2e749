-- What each way through a visit of the decoder leaves, from what the code's calls have done.
use Prim.Native.Nat.{ℕ, ◌+◌, ◌*◌, ◌/◌, ◌≤◌, ◌<◌}
use mathlib.Core.Path.{◌≡◌, refl, sym, ap, subst, ◌∙◌}
use mathlib.Core.Bool.{Bool, true, false, ◌&&◌}
use mathlib.Core.List.{List}
use native.Mathlib.Omega.{arith}
use borrow.Author.Tests.{eq-eqb, ne_eqb, le-leb, lt-leb, lt-ltb, leb-true, ltb-true}
use lib.Dec.{ltb, leb}
use lib.IntN.{ℤ}
use lib.ListN.{length, set, get_or}
use Rattle.std.specs.Prelude.{Ok, Err}
use Rattle.sizes.specs.Sizes.{most_n, most_planes, all_of}
use Rattle.sizes.proofs.Laws.{both_left, both_right}
use Rattle.bits.specs.declared.Why.{Why}
use Rattle.bits.specs.Bits.{bit_at, Next}
use Rattle.view.specs.View.{viewed}
use Rattle.view.proofs.Laws.{viewed_bit, viewed_within, viewed_past}
use Rattle.coef.specs.Coef.{at}
use Rattle.nls.specs.Scan.{Question, bit_of, sign_of, in_desc, in_grand, pixels, sets}
use Rattle.marking.specs.Marking.{skip_of, set_skip_of, desc_split_marks, grand_split_marks}
use Rattle.marking.proofs.Laws.{skip_low, skip_in, set_skip_in}
use Rattle.walk.specs.Scans.{Seen, halt, refuse, move}
use Rattle.walk.specs.Visits.{Source, got, Sv, sv, one_seen, test_seen, pixels_seen, sets_seen, refining_seen, visit_seen}
use Rattle.walk.proofs.VisitLaws.{one_none, one_zero, one_bad, one_cut, one_one, test_none, test_zero, test_bad, test_one, pixels_own, pixels_skip, refining_none, refining_own, refining_new, refining_skip, sets_one, sets_desc, sets_grand, sets_skip, visit_pixels, visit_sets, visit_refining}
use Rattle.reading.specs.Reading.{Read, read, new_code, more_code, keep, child_clash, grand_clash, last_clash, root_clash, desc_clash, bars_at, bars_fit, reader, st, Does, Sizes}
use Rattle.reading.specs.declared.Turn.{Turn}
use Rattle.reading.specs.declared.Turn.TheVariants.{Stop, Bad, Go}

-- ---- the tests of refusal 12

module _ (D P b used t : ℕ) where
  pub desc_1 : (m : List ℕ) (z : Bool) → 4 * D ≤ t → z ≡ last_clash t m → z ≡ desc_clash D P b used t m
  unfolding desc_clash
  desc_1 m z h w = rw (le-leb (4 * D) t h) w

  pub desc_2 : (m : List ℕ) (z : Bool) → t < 4 * D → z ≡ root_clash D P b used t → z ≡ desc_clash D P b used t m
  unfolding desc_clash
  desc_2 m z h w = rw (lt-leb (4 * D) t h) w

-- ---- the same by the mark, for the stepped decoder

module _ (I D P b used t : ℕ) (m : List ℕ) where
  pub at_1 : (z : Bool) → get_or m t 0 ≡ 4 → z ≡ child_clash I t m → z ≡ bars_at I D P b used t m
  unfolding bars_at
  at_1 z e w = rw (eq-eqb (get_or m t 0) 4 e) w

  module _ (x : get_or m t 0 ≡ 4 → ⊥) where
    pub at_2 : (z : Bool) → get_or m t 0 ≡ 5 → z ≡ desc_clash D P b used t m → z ≡ bars_at I D P b used t m
    unfolding bars_at
    at_2 z e w = rw (ne_eqb (get_or m t 0) 4 x, eq-eqb (get_or m t 0) 5 e) w

    module _ (y : get_or m t 0 ≡ 5 → ⊥) where
      pub at_3 : (z : Bool) → get_or m t 0 ≡ 6 → z ≡ grand_clash t m → z ≡ bars_at I D P b used t m
      unfolding bars_at
      at_3 z e w = rw (ne_eqb (get_or m t 0) 4 x, ne_eqb (get_or m t 0) 5 y, eq-eqb (get_or m t 0) 6 e) w

      pub at_4 : (get_or m t 0 ≡ 6 → ⊥) → false ≡ bars_at I D P b used t m
      unfolding bars_at
      at_4 z = rw (ne_eqb (get_or m t 0) 4 x, ne_eqb (get_or m t 0) 5 y, ne_eqb (get_or m t 0) 6 z)

-- what the sizes and the place have to be
module _ (I D P left t : ℕ) where
  module _ (near : I ≤ all_of most_n) (wide : 4 ≤ D) (room : 4 * D ≤ I) (tops : P ≤ most_planes) (some : 1 ≤ left) (most : left ≤ most_planes) where
    pub fit_7 : ltb t I ≡ bars_fit I D P left t
    unfolding bars_fit
    fit_7 = rw (le-leb I (all_of most_n) near, le-leb 4 D wide, le-leb (4 * D) I room, le-leb P most_planes tops, le-leb 1 left some, le-leb left most_planes most)

    pub fit_true : t < I → bars_fit I D P left t ≡ true
    fit_true h = sym fit_7 ∙ lt-ltb t I h

  pub fit_all : bars_fit I D P left t ≡ true → Sizes I D P × (1 ≤ left) × (left ≤ most_planes) × (t < I)
  unfolding bars_fit
  fit_all e =
      let e1 = both_right (leb I (all_of most_n)) (leb 4 D && (leb (4 * D) I && (leb P most_planes && (leb 1 left && (leb left most_planes && ltb t I))))) e in
      let e2 = both_right (leb 4 D) (leb (4 * D) I && (leb P most_planes && (leb 1 left && (leb left most_planes && ltb t I)))) e1 in
      let e3 = both_right (leb (4 * D) I) (leb P most_planes && (leb 1 left && (leb left most_planes && ltb t I))) e2 in
      let e4 = both_right (leb P most_planes) (leb 1 left && (leb left most_planes && ltb t I)) e3 in
      let e5 = both_right (leb 1 left) (leb left most_planes && ltb t I) e4 in (
        record {
          near = leb-true I (all_of most_n) (both_left (leb I (all_of most_n)) _ e);
          wide = leb-true 4 D (both_left (leb 4 D) _ e1);
          room = leb-true (4 * D) I (both_left (leb (4 * D) I) _ e2);
          tops = leb-true P most_planes (both_left (leb P most_planes) _ e3);
        },
        leb-true 1 left (both_left (leb 1 left) _ e4),
        leb-true left most_planes (both_left (leb left most_planes) _ e5),
        ltb-true t I (both_right (leb left most_planes) (ltb t I) e5),
      )

-- ---- visits

-- ---- what a read through the view tells, where no more bits are usable than there are

module _ (body : List ℕ) (n usable : ℕ) {r : Next} (is : r ≡ viewed body n usable) where
  pub told_bit : (x : Bool) → r ≡ Ok x → (n < usable) × (x ≡ bit_at body n)
  told_bit x e =
      let h = viewed_within body n usable x (sym is ∙ e) in
      let z : Ok x ≡ Ok (bit_at body n) = sym e ∙ is ∙ viewed_bit body n usable h in
      (omega (arith, h), cc)

  pub told_none : usable ≤ 8 * length body → {why : Why} → r ≡ Err why → usable ≤ n
  told_none h {why} e = omega (arith, h, viewed_past body n usable why (sym is ∙ e))

by_way : (s t : Seen (Sv Read)) (usable place n : ℕ) (r : Turn) (m : List ℕ) (v : List ℤ) → s ≡ t → Does t usable place n r m v → Does s usable place n r m v
by_way s t usable place n r m v e d = subst (λ (x : Seen (Sv Read)). Does x usable place n r m v) (sym e) d

-- a coefficient by itself
module _ (body : List ℕ) (usable I D P b i : ℕ) (bar : Bool) (m : List ℕ) (v : List ℤ) (n : ℕ) where
  abbrev K : Source Read
  K = reader body usable I D P

  abbrev One : Turn → List ℕ → List ℤ → Type 0
  One r m₁ v₁ = Does (one_seen (reader body usable I D P) pixels b i bar m (read v n)) usable i n r m₁ v₁

  pub coefficient_none : usable ≤ n → n ≤ usable → One (Stop n i) m v
  coefficient_none h l =
      by_way _ (halt (st m v n)) usable i n (Stop n i) m v (one_none K pixels b i bar m (read v n) h) (record { answered = refl; marked = refl; valued = refl; falls = (omega arith, omega arith) })

  module _ (x : Bool) (ex : x ≡ bit_at body n) (h : n < usable) where
    pub coefficient_cut : x ≡ true → usable ≤ n + 1 → One (Stop (n + 1) i) m v
    coefficient_cut e k =
        by_way _ (halt (st m v (n + 1))) usable i n (Stop (n + 1) i) m v (one_cut K pixels b i bar m (read v n) h (sym ex ∙ e) k)
        (record { answered = refl; marked = refl; valued = refl; falls = (omega arith, omega arith) })

    pub coefficient_one : x ≡ true → n + 1 < usable → (s : Bool) → s ≡ bit_at body (n + 1) → (v₁ : List ℤ) → v₁ ≡ set v i (new_code s b) → One (Go (n + 1 + 1) (i + 1)) (set m i 2) v₁
    coefficient_one e k s es v₁ ev =
        by_way _ (move (i + 1) (st (set m i 2) (set v i (new_code s b)) (n + 1 + 1))) usable i n (Go (n + 1 + 1) (i + 1)) (set m i 2) v₁
        (one_one K pixels b i bar m (read v n) h (sym ex ∙ e) k
        ∙ ap (λ (y : Bool). move (i + 1) (st (set m i 2) (set v i (new_code y b)) (n + 1 + 1))) (sym es))
        (record { answered = refl; marked = refl; valued = ev; falls = (omega arith, omega arith, omega arith, omega arith) })

    pub coefficient_bad : x ≡ false → (z : Bool) → z ≡ bar → z ≡ true → One (Bad n i) m v
    coefficient_bad e z ez et =
        by_way _ (refuse (st m v n)) usable i n (Bad n i) m v (one_bad K pixels b i bar m (read v n) h (sym ex ∙ e) (sym ez ∙ et))
        (record { answered = refl; marked = refl; valued = refl; falls = (omega arith, omega arith) })

    pub coefficient_zero : x ≡ false → (z : Bool) → z ≡ bar → z ≡ false → One (Go (n + 1) (i + 1)) (set m i 1) v
    coefficient_zero e z ez ef =
        by_way _ (move (i + 1) (st (set m i 1) v (n + 1))) usable i n (Go (n + 1) (i + 1)) (set m i 1) v
        (one_zero K pixels b i bar m (read v n) h (sym ex ∙ e) (sym ez ∙ ef))
        (record { answered = refl; marked = refl; valued = refl; falls = (omega arith, omega arith, omega arith, omega arith) })

-- the pixel pass and the refinement pass
module _ (body : List ℕ) (usable I D P b i : ℕ) (m : List ℕ) (v : List ℤ) (n : ℕ) where
  abbrev pub Pixel : Turn → List ℕ → List ℤ → Type 0
  Pixel r m₁ v₁ = Does (pixels_seen (reader body usable I D P) b i (get_or m i 0) m (read v n)) usable i n r m₁ v₁

  pub pixel_own : (r : Turn) (m₁ : List ℕ) (v₁ : List ℤ) → get_or m i 0 ≡ 1 → Does (one_seen (reader body usable I D P) pixels b i false m (read v n)) usable i n r m₁ v₁ → Pixel r m₁ v₁
  pixel_own r m₁ v₁ e d = by_way _ _ usable i n r m₁ v₁ (pixels_own (reader body usable I D P) b i (get_or m i 0) m (read v n) e) d

  pub pixel_skip : (far : ℕ) → (get_or m i 0 ≡ 1 → ⊥) → far ≡ skip_of (get_or m i 0) → n ≤ usable → Pixel (Go n (i + far)) m v
  pixel_skip far e f l =
      by_way _ _ usable i n (Go n (i + far)) m v (pixels_skip (reader body usable I D P) b i (get_or m i 0) m (read v n) e)
      (record { answered = ap (λ (k : ℕ). Go n (i + k)) f; marked = refl; valued = refl; falls = (omega arith, omega arith, l, omega (arith, f, skip_in (get_or m i 0))) })

  abbrev pub Refining : Turn → List ℕ → List ℤ → Type 0
  Refining r m₁ v₁ = Does (refining_seen (reader body usable I D P) b i (get_or m i 0) m (read v n)) usable i n r m₁ v₁

  pub refine_none : get_or m i 0 ≡ 3 → usable ≤ n → n ≤ usable → Refining (Stop n i) m v
  refine_none e h l =
      by_way _ _ usable i n (Stop n i) m v (refining_none (reader body usable I D P) b i (get_or m i 0) m (read v n) e h)
      (record { answered = refl; marked = refl; valued = refl; falls = (omega arith, omega arith) })

  pub refine_own : (x : Bool) (v₁ : List ℤ) → get_or m i 0 ≡ 3 → n < usable → x ≡ bit_at body n → v₁ ≡ set v i (more_code x b (at v i)) → Refining (Go (n + 1) (i + 1)) m v₁
  refine_own x v₁ e h ex ev =
      by_way _ _ usable i n (Go (n + 1) (i + 1)) m v₁ (refining_own (reader body usable I D P) b i (get_or m i 0) m (read v n) e h)
      (record {
        answered = refl;
        marked = refl;
        valued = ev ∙ ap (λ (y : Bool). set v i (more_code y b (at v i))) ex;
        falls = (omega arith, omega arith, omega arith, omega arith);
      })

  pub refine_new : (get_or m i 0 ≡ 3 → ⊥) → get_or m i 0 ≡ 2 → n ≤ usable → Refining (Go n (i + 1)) (set m i 3) v
  refine_new d e l =
      by_way _ _ usable i n (Go n (i + 1)) (set m i 3) v (refining_new (reader body usable I D P) b i (get_or m i 0) m (read v n) d e)
      (record { answered = refl; marked = refl; valued = refl; falls = (omega arith, omega arith, l, omega arith) })

  -- a mark above 3
  pub refine_skip : (far : ℕ) → 3 < get_or m i 0 → far ≡ skip_of (get_or m i 0) → n ≤ usable → Refining (Go n (i + far)) m v
  refine_skip far h f l =
      by_way _ _ usable i n (Go n (i + far)) m v (refining_skip (reader body usable I D P) b i (get_or m i 0) m (read v n) (λ e. omega (arith, h, e)) (λ e. omega (arith, h, e)))
      (record { answered = ap (λ (k : ℕ). Go n (i + k)) f; marked = refl; valued = refl; falls = (omega arith, omega arith, l, omega (arith, f, skip_in (get_or m i 0))) })

  -- mark 0 or 1: there the skip is 1
  pub refine_small : (get_or m i 0 ≡ 3 → ⊥) → get_or m i 0 ≤ 3 → (get_or m i 0 ≡ 2 → ⊥) → n ≤ usable → Refining (Go n (i + 1)) m v
  refine_small d h e l =
      by_way _ _ usable i n (Go n (i + 1)) m v (refining_skip (reader body usable I D P) b i (get_or m i 0) m (read v n) d e)
      (record { answered = ap (λ (k : ℕ). Go n (i + k)) (sym (skip_low (get_or m i 0) (omega (arith, h)))); marked = refl; valued = refl; falls = (omega arith, omega arith, l, omega arith) })

-- a set's test: what is known stays
abbrev pub Set : Question → Type 0
Set (bit_of i b) = ⊥
Set (sign_of i) = ⊥
Set (in_desc g b) = Unit {0}
Set (in_grand g b) = Unit {0}

module _ (body : List ℕ) (usable I D P b i : ℕ) (q : Question) (far : ℕ) (bar : Bool) (new m : List ℕ) (n : ℕ) (set_question : Set q) where
  same : (q : Question) → Set q → (x : Bool) (k : List ℤ) → keep sets b q x k ≡ k
  same (bit_of j c) z x k = absurd z
  same (sign_of j) z x k = absurd z
  same (in_desc g c) z x k = refl
  same (in_grand g c) z x k = refl

  kept : (v : List ℤ) → got (reader body usable I D P) sets b q (read v n) ≡ read v (n + 1)
  kept v = ap (λ (k : List ℤ). read k (n + 1)) (same q set_question (bit_at body n) v)

  abbrev Tested : Turn → List ℕ → List ℤ → Type 0
  Tested r m₁ v = Does (test_seen (reader body usable I D P) b i q far bar new m (read v n)) usable i n r m₁ v

  pub tested_none : usable ≤ n → n ≤ usable → (v : List ℤ) → Tested (Stop n i) m v
  tested_none h l v =
      by_way _ _ usable i n (Stop n i) m v (test_none (reader body usable I D P) b i q far bar new m (read v n) h)
      (record { answered = refl; marked = refl; valued = refl; falls = (omega arith, omega arith) })

  module _ (x : Bool) (ex : x ≡ bit_at body n) (h : n < usable) where
    pub tested_one : (m₁ : List ℕ) → x ≡ true → m₁ ≡ new → (v : List ℤ) → Tested (Go (n + 1) i) m₁ v
    tested_one m₁ e em v =
        by_way _ (move i (st new v (n + 1))) usable i n (Go (n + 1) i) m₁ v
        (test_one (reader body usable I D P) b i q far bar new m (read v n) h (sym ex ∙ e) ∙ ap (λ (o : Read). move i (sv new o)) (kept v))
        (record { answered = refl; marked = em; valued = refl; falls = (omega arith, omega arith, omega arith, omega arith) })

    pub tested_bad : x ≡ false → (z : Bool) → z ≡ bar → z ≡ true → (v : List ℤ) → Tested (Bad n i) m v
    tested_bad e z ez et v =
        by_way _ (refuse (st m v n)) usable i n (Bad n i) m v (test_bad (reader body usable I D P) b i q far bar new m (read v n) h (sym ex ∙ e) (sym ez ∙ et))
        (record { answered = refl; marked = refl; valued = refl; falls = (omega arith, omega arith) })

    pub tested_zero : 1 ≤ far → x ≡ false → (z : Bool) → z ≡ bar → z ≡ false → (v : List ℤ) → Tested (Go (n + 1) (i + far)) m v
    tested_zero l e z ez ef v =
        by_way _ (move (i + far) (st m v (n + 1))) usable i n (Go (n + 1) (i + far)) m v
        (test_zero (reader body usable I D P) b i q far bar new m (read v n) h (sym ex ∙ e) (sym ez ∙ ef) ∙ ap (λ (o : Read). move (i + far) (sv m o)) (kept v))
        (record { answered = refl; marked = refl; valued = refl; falls = (omega arith, omega arith, omega arith, omega arith) })

-- the set pass, and a visit: the sizes matter only to the tests that look at them
module _ (body : List ℕ) (usable I D P b i : ℕ) (m : List ℕ) (v : List ℤ) (n : ℕ) where
  abbrev pub Sets : Turn → List ℕ → List ℤ → Type 0
  Sets r m₁ v₁ = Does (sets_seen (reader body usable I D P) I b i (get_or m i 0) m (read v n)) usable i n r m₁ v₁

  -- a coefficient is kept alike in both passes
  alike : (bar : Bool) → one_seen (reader body usable I D P) sets b i bar m (read v n) ≡ one_seen (reader body usable I 0 0) pixels b i bar m (read v n)
  unfolding one_seen
  alike bar = refl

  pub set_one : (r : Turn) (m₁ : List ℕ) (v₁ : List ℤ) → get_or m i 0 ≡ 4
      → Does (one_seen (reader body usable I 0 0) pixels b i (true && child_clash I i m) m (read v n)) usable i n r m₁ v₁ → Sets r m₁ v₁
  set_one r m₁ v₁ e d = by_way _ _ usable i n r m₁ v₁ (sets_one (reader body usable I D P) I b i (get_or m i 0) m (read v n) e ∙ alike (child_clash I i m)) d

  pub set_desc : (r : Turn) (m₁ : List ℕ) → (get_or m i 0 ≡ 4 → ⊥) → get_or m i 0 ≡ 5
      → ((v : List ℤ) → Does (test_seen (reader body usable I D P) b i (in_desc (i / 4) b) 4 (desc_clash D P b n i m) (desc_split_marks I i m) m (read v n)) usable i n r m₁ v) → Sets r m₁ v
  set_desc r m₁ e f d = by_way _ _ usable i n r m₁ v (sets_desc (reader body usable I D P) I b i (get_or m i 0) m (read v n) e f) (d v)

  grand_alone : test_seen (reader body usable I D P) b i (in_grand (i / 16) b) 16 (grand_clash i m) (grand_split_marks I i m) m (read v n) ≡ test_seen (reader body usable I 0 0) b i (in_grand (i / 16) b) 16 (grand_clash i m) (grand_split_marks I i m) m (read v n)
  unfolding test_seen
  grand_alone = refl

  pub set_grand : (r : Turn) (m₁ : List ℕ) → (get_or m i 0 ≡ 4 → ⊥) → (get_or m i 0 ≡ 5 → ⊥) → get_or m i 0 ≡ 6
      → ((v : List ℤ) → Does (test_seen (reader body usable I 0 0) b i (in_grand (i / 16) b) 16 (grand_clash i m) (grand_split_marks I i m) m (read v n)) usable i n r m₁ v) → Sets r m₁ v
  set_grand r m₁ e f g d = by_way _ _ usable i n r m₁ v (sets_grand (reader body usable I D P) I b i (get_or m i 0) m (read v n) e f g ∙ grand_alone) (d v)

  pub set_skip : (far : ℕ) → (get_or m i 0 ≡ 4 → ⊥) → (get_or m i 0 ≡ 5 → ⊥) → (get_or m i 0 ≡ 6 → ⊥) → far ≡ set_skip_of (get_or m i 0) → n ≤ usable → Sets (Go n (i + far)) m v
  set_skip far e f k z l =
      by_way _ _ usable i n (Go n (i + far)) m v (sets_skip (reader body usable I D P) I b i (get_or m i 0) m (read v n) e f k)
      (record { answered = ap (λ (k : ℕ). Go n (i + k)) z; marked = refl; valued = refl; falls = (omega arith, omega arith, l, omega (arith, z, set_skip_in (get_or m i 0))) })

  pixel_plain : pixels_seen (reader body usable I D P) b i (get_or m i 0) m (read v n) ≡ pixels_seen (reader body usable I 0 0) b i (get_or m i 0) m (read v n)
  unfolding pixels_seen one_seen
  pixel_plain = refl

  refining_plain : refining_seen (reader body usable I D P) b i (get_or m i 0) m (read v n) ≡ refining_seen (reader body usable I 0 0) b i (get_or m i 0) m (read v n)
  unfolding refining_seen
  refining_plain = refl

  abbrev pub Visit : ℕ → Turn → List ℕ → List ℤ → Type 0
  Visit pass r m₁ v₁ = Does (visit_seen (reader body usable I D P) I b pass i (st m v n)) usable i n r m₁ v₁

  pub visited_pixels : (pass : ℕ) (r : Turn) (m₁ : List ℕ) (v₁ : List ℤ) → pass ≡ 0
      → Does (pixels_seen (reader body usable I 0 0) b i (get_or m i 0) m (read v n)) usable i n r m₁ v₁ → Visit pass r m₁ v₁
  visited_pixels pass r m₁ v₁ e h = by_way _ _ usable i n r m₁ v₁ (visit_pixels (reader body usable I D P) I b pass i (st m v n) e ∙ pixel_plain) h

  pub visited_sets : (pass : ℕ) (r : Turn) (m₁ : List ℕ) (v₁ : List ℤ) → (pass ≡ 0 → ⊥) → pass ≡ 1 → Sets r m₁ v₁ → Visit pass r m₁ v₁
  visited_sets pass r m₁ v₁ e f h = by_way _ _ usable i n r m₁ v₁ (visit_sets (reader body usable I D P) I b pass i (st m v n) e f) h

  pub visited_refining : (pass : ℕ) (r : Turn) (m₁ : List ℕ) (v₁ : List ℤ) → (pass ≡ 0 → ⊥) → (pass ≡ 1 → ⊥)
      → Does (refining_seen (reader body usable I 0 0) b i (get_or m i 0) m (read v n)) usable i n r m₁ v₁ → Visit pass r m₁ v₁
  visited_refining pass r m₁ v₁ e f h = by_way _ _ usable i n r m₁ v₁ (visit_refining (reader body usable I D P) I b pass i (st m v n) e f ∙ refining_plain) h
