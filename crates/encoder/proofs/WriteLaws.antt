-- What each way through a visit of the encoder leaves, from what the code's calls have done.
use Prim.Native.Nat.{ℕ, ◌+◌, ◌/◌, ◌≤◌, ◌<◌}
use mathlib.Core.Path.{◌≡◌, refl, sym, ap, subst, ◌∙◌}
use mathlib.Core.Bool.{Bool, true, false}
use mathlib.Core.List.{List, []}
use native.Mathlib.Omega.{arith}
use lib.IntN.{ℤ}
use lib.ListN.{set, get_or}
use Rattle.bits.specs.Bits.{bit, with_bit}
use Rattle.coef.specs.Coef.{at, mag_at, negative}
use Rattle.nls.specs.Scan.{Question, in_desc, in_grand, pixels, sets}
use Rattle.walk.specs.Scans.{Seen, halt}
use Rattle.marking.specs.Marking.{skip_of, set_skip_of, desc_split_marks, grand_split_marks}
use Rattle.walk.specs.Visits.{Source, Sv, one_seen, test_seen, pixels_seen, sets_seen, refining_seen, visit_seen}
use Rattle.encoder.specs.Writing.{Bytes, bytes, replies, writer, plain, st, Does}
use Rattle.encoder.specs.declared.Step.{Step}
use Rattle.encoder.specs.declared.Step.TheVariants.{Stop, Go}
use Rattle.marking.proofs.Laws.{skip_low, skip_in, set_skip_in}
use Rattle.walk.proofs.VisitLaws.{one_none, one_zero, one_cut, one_one, test_none, test_zero, test_one, pixels_own, pixels_skip, refining_none, refining_own, refining_new, refining_skip, sets_one, sets_desc, sets_grand, sets_skip, visit_pixels, visit_sets, visit_refining}

-- a visit that is s is as the code has it where it does what s does
by_way : (s t : Seen (Sv Bytes)) (budget place n : ℕ) (r : Step) (m o : List ℕ) → s ≡ t → Does t budget place n r m o → Does s budget place n r m o
by_way s t budget place n r m o e d = subst (λ (x : Seen (Sv Bytes)). Does x budget place n r m o) (sym e) d

-- a coefficient by itself
module _ (A : List ℤ) (budget b i : ℕ) (m o : List ℕ) (n : ℕ) where
  abbrev K : Source Bytes
  K = plain A budget

  pub coefficient_none : budget ≤ n → n ≤ budget → Does (one_seen (plain A budget) pixels b i false m (bytes o n)) budget i n (Stop n i) m o
  coefficient_none h l =
      by_way _ (halt (st m o n)) budget i n (Stop n i) m o (one_none K pixels b i false m (bytes o n) h) (record { answered = refl; marked = refl; wrote = refl; falls = (omega arith, omega arith); clean = tt })

  module _ (x : Bool) (ex : x ≡ bit (mag_at A i) b) (h : n < budget) (o₁ : List ℕ) (eo : o₁ ≡ with_bit o n x) where
    is : bit (mag_at A i) b ≡ x
    is = sym ex

    put_one : o₁ ≡ with_bit o n (bit (mag_at A i) b)
    put_one = eo ∙ ap (λ (y : Bool). with_bit o n y) (sym is)

    pub coefficient_zero : x ≡ false → Does (one_seen (plain A budget) pixels b i false m (bytes o n)) budget i n (Go (n + 1) (i + 1)) (set m i 1) o₁
    coefficient_zero e =
        by_way _ _ budget i n (Go (n + 1) (i + 1)) (set m i 1) o₁ (one_zero K pixels b i false m (bytes o n) h (is ∙ e) refl)
        (record { answered = refl; marked = refl; wrote = put_one; falls = (omega arith, omega arith, omega arith, omega arith); clean = tt })

    pub coefficient_cut : x ≡ true → budget ≤ n + 1 → Does (one_seen (plain A budget) pixels b i false m (bytes o n)) budget i n (Stop (n + 1) i) m o₁
    coefficient_cut e k =
        by_way _ _ budget i n (Stop (n + 1) i) m o₁ (one_cut K pixels b i false m (bytes o n) h (is ∙ e) k)
        (record { answered = refl; marked = refl; wrote = put_one; falls = (omega arith, omega arith); clean = tt })

    pub coefficient_one : x ≡ true → n + 1 < budget → (s : Bool) → s ≡ negative (at A i) → (o₂ : List ℕ) → o₂ ≡ with_bit o₁ (n + 1) s
        → Does (one_seen (plain A budget) pixels b i false m (bytes o n)) budget i n (Go (n + 1 + 1) (i + 1)) (set m i 2) o₂
    coefficient_one e k s en o₂ et =
        by_way _ _ budget i n (Go (n + 1 + 1) (i + 1)) (set m i 2) o₂ (one_one K pixels b i false m (bytes o n) h (is ∙ e) k)
        (record { answered = refl; marked = refl; wrote = et ∙ rw (put_one, en); falls = (omega arith, omega arith, omega arith, omega arith); clean = tt })

-- the three passes
module _ (A : List ℤ) (budget b i : ℕ) (m o : List ℕ) (n : ℕ) where
  pub pixel_own : (r : Step) (m₁ o₁ : List ℕ) → get_or m i 0 ≡ 1 → Does (one_seen (plain A budget) pixels b i false m (bytes o n)) budget i n r m₁ o₁
      → Does (pixels_seen (plain A budget) b i (get_or m i 0) m (bytes o n)) budget i n r m₁ o₁
  pixel_own r m₁ o₁ e d = by_way _ _ budget i n r m₁ o₁ (pixels_own (plain A budget) b i (get_or m i 0) m (bytes o n) e) d

  pub pixel_skip : (far : ℕ) → (get_or m i 0 ≡ 1 → ⊥) → far ≡ skip_of (get_or m i 0) → n ≤ budget
      → Does (pixels_seen (plain A budget) b i (get_or m i 0) m (bytes o n)) budget i n (Go n (i + far)) m o
  pixel_skip far e f l =
      by_way _ _ budget i n (Go n (i + far)) m o (pixels_skip (plain A budget) b i (get_or m i 0) m (bytes o n) e)
      (record { answered = ap (λ (k : ℕ). Go n (i + k)) f; marked = refl; wrote = refl; falls = (omega arith, omega arith, l, omega (arith, f, skip_in (get_or m i 0))); clean = tt })

  pub refine_none : get_or m i 0 ≡ 3 → budget ≤ n → n ≤ budget → Does (refining_seen (plain A budget) b i (get_or m i 0) m (bytes o n)) budget i n (Stop n i) m o
  refine_none e h l =
      by_way _ _ budget i n (Stop n i) m o (refining_none (plain A budget) b i (get_or m i 0) m (bytes o n) e h)
      (record { answered = refl; marked = refl; wrote = refl; falls = (omega arith, omega arith); clean = tt })

  pub refine_own : (x : Bool) (o₁ : List ℕ) → get_or m i 0 ≡ 3 → n < budget → x ≡ bit (mag_at A i) b → o₁ ≡ with_bit o n x
      → Does (refining_seen (plain A budget) b i (get_or m i 0) m (bytes o n)) budget i n (Go (n + 1) (i + 1)) m o₁
  refine_own x o₁ e h ex eo =
      by_way _ _ budget i n (Go (n + 1) (i + 1)) m o₁ (refining_own (plain A budget) b i (get_or m i 0) m (bytes o n) e h)
      (record { answered = refl; marked = refl; wrote = eo ∙ ap (λ (y : Bool). with_bit o n y) ex; falls = (omega arith, omega arith, omega arith, omega arith); clean = tt })

  pub refine_new : (get_or m i 0 ≡ 3 → ⊥) → get_or m i 0 ≡ 2 → n ≤ budget → Does (refining_seen (plain A budget) b i (get_or m i 0) m (bytes o n)) budget i n (Go n (i + 1)) (set m i 3) o
  refine_new d e l =
      by_way _ _ budget i n (Go n (i + 1)) (set m i 3) o (refining_new (plain A budget) b i (get_or m i 0) m (bytes o n) d e)
      (record { answered = refl; marked = refl; wrote = refl; falls = (omega arith, omega arith, l, omega arith); clean = tt })

  refine_skip : (far : ℕ) → (get_or m i 0 ≡ 3 → ⊥) → (get_or m i 0 ≡ 2 → ⊥) → far ≡ skip_of (get_or m i 0) → n ≤ budget
      → Does (refining_seen (plain A budget) b i (get_or m i 0) m (bytes o n)) budget i n (Go n (i + far)) m o
  refine_skip far d e f l =
      by_way _ _ budget i n (Go n (i + far)) m o (refining_skip (plain A budget) b i (get_or m i 0) m (bytes o n) d e)
      (record { answered = ap (λ (k : ℕ). Go n (i + k)) f; marked = refl; wrote = refl; falls = (omega arith, omega arith, l, omega (arith, f, skip_in (get_or m i 0))); clean = tt })

  pub refine_far : (far : ℕ) → 3 < get_or m i 0 → far ≡ skip_of (get_or m i 0) → n ≤ budget → Does (refining_seen (plain A budget) b i (get_or m i 0) m (bytes o n)) budget i n (Go n (i + far)) m o
  refine_far far h f l = refine_skip far (λ (z : get_or m i 0 ≡ 3). omega arith) (λ (z : get_or m i 0 ≡ 2). omega arith) f l

  -- a mark below 3 that is not 2 skips 1
  pub refine_low : (get_or m i 0 ≡ 3 → ⊥) → (get_or m i 0 ≡ 2 → ⊥) → get_or m i 0 ≤ 3 → n ≤ budget
      → Does (refining_seen (plain A budget) b i (get_or m i 0) m (bytes o n)) budget i n (Go n (i + 1)) m o
  refine_low d e h l = refine_skip 1 d e (sym (skip_low (get_or m i 0) (omega arith))) l

-- a set's test
module _ (A : List ℤ) (d g : List ℕ) (budget b i : ℕ) (q : Question) (far : ℕ) (new m o : List ℕ) (n : ℕ) where
  pub tested_none : budget ≤ n → n ≤ budget → Does (test_seen (writer A d g budget) b i q far false new m (bytes o n)) budget i n (Stop n i) m o
  tested_none h l =
      by_way _ _ budget i n (Stop n i) m o (test_none (writer A d g budget) b i q far false new m (bytes o n) h)
      (record { answered = refl; marked = refl; wrote = refl; falls = (omega arith, omega arith); clean = tt })

  module _ (x : Bool) (ex : x ≡ replies A d g q) (h : n < budget) (o₁ : List ℕ) (eo : o₁ ≡ with_bit o n x) where
    pub tested_zero : x ≡ false → Does (test_seen (writer A d g budget) b i q far false new m (bytes o n)) budget i n (Go (n + 1) (i + far)) m o₁
    tested_zero e =
        by_way _ _ budget i n (Go (n + 1) (i + far)) m o₁ (test_zero (writer A d g budget) b i q far false new m (bytes o n) h (sym ex ∙ e) refl)
        (record { answered = refl; marked = refl; wrote = eo ∙ ap (λ (y : Bool). with_bit o n y) ex; falls = (omega arith, omega arith, omega arith, omega arith); clean = tt })

    pub tested_one : (m₁ : List ℕ) → x ≡ true → m₁ ≡ new → Does (test_seen (writer A d g budget) b i q far false new m (bytes o n)) budget i n (Go (n + 1) i) m₁ o₁
    tested_one m₁ e em =
        by_way _ _ budget i n (Go (n + 1) i) m₁ o₁ (test_one (writer A d g budget) b i q far false new m (bytes o n) h (sym ex ∙ e))
        (record { answered = refl; marked = em; wrote = eo ∙ ap (λ (y : Bool). with_bit o n y) ex; falls = (omega arith, omega arith, omega arith, omega arith); clean = tt })

-- the set pass: what is asked of one table does not hang on the others
module _ (A : List ℤ) (d g : List ℕ) (I budget b i : ℕ) (m o : List ℕ) (n : ℕ) where
  one_plain : one_seen (writer A d g budget) sets b i false m (bytes o n) ≡ one_seen (plain A budget) pixels b i false m (bytes o n)
  unfolding one_seen
  one_plain = refl

  desc_alone : test_seen (writer A d g budget) b i (in_desc (i / 4) b) 4 false (desc_split_marks I i m) m (bytes o n) ≡ test_seen (writer [] d [] budget) b i (in_desc (i / 4) b) 4 false (desc_split_marks I i m) m (bytes o n)
  unfolding test_seen
  desc_alone = refl

  grand_alone : test_seen (writer A d g budget) b i (in_grand (i / 16) b) 16 false (grand_split_marks I i m) m (bytes o n) ≡ test_seen (writer [] [] g budget) b i (in_grand (i / 16) b) 16 false (grand_split_marks I i m) m (bytes o n)
  unfolding test_seen
  grand_alone = refl

  pub set_one : (r : Step) (m₁ o₁ : List ℕ) → get_or m i 0 ≡ 4 → Does (one_seen (plain A budget) pixels b i false m (bytes o n)) budget i n r m₁ o₁
      → Does (sets_seen (writer A d g budget) I b i (get_or m i 0) m (bytes o n)) budget i n r m₁ o₁
  set_one r m₁ o₁ e h = by_way _ _ budget i n r m₁ o₁ (sets_one (writer A d g budget) I b i (get_or m i 0) m (bytes o n) e ∙ one_plain) h

  pub set_desc : (r : Step) (m₁ o₁ : List ℕ) → (get_or m i 0 ≡ 4 → ⊥) → get_or m i 0 ≡ 5 → Does (test_seen (writer [] d [] budget) b i (in_desc (i / 4) b) 4 false (desc_split_marks I i m) m (bytes o n)) budget i n r m₁ o₁
      → Does (sets_seen (writer A d g budget) I b i (get_or m i 0) m (bytes o n)) budget i n r m₁ o₁
  set_desc r m₁ o₁ e f h = by_way _ _ budget i n r m₁ o₁ (sets_desc (writer A d g budget) I b i (get_or m i 0) m (bytes o n) e f ∙ desc_alone) h

  pub set_grand : (r : Step) (m₁ o₁ : List ℕ) → (get_or m i 0 ≡ 4 → ⊥) → (get_or m i 0 ≡ 5 → ⊥) → get_or m i 0 ≡ 6
      → Does (test_seen (writer [] [] g budget) b i (in_grand (i / 16) b) 16 false (grand_split_marks I i m) m (bytes o n)) budget i n r m₁ o₁
      → Does (sets_seen (writer A d g budget) I b i (get_or m i 0) m (bytes o n)) budget i n r m₁ o₁
  set_grand r m₁ o₁ e f k h = by_way _ _ budget i n r m₁ o₁ (sets_grand (writer A d g budget) I b i (get_or m i 0) m (bytes o n) e f k ∙ grand_alone) h

  pub set_skip : (far : ℕ) → (get_or m i 0 ≡ 4 → ⊥) → (get_or m i 0 ≡ 5 → ⊥) → (get_or m i 0 ≡ 6 → ⊥) → far ≡ set_skip_of (get_or m i 0) → n ≤ budget
      → Does (sets_seen (writer A d g budget) I b i (get_or m i 0) m (bytes o n)) budget i n (Go n (i + far)) m o
  set_skip far e f k z l =
      by_way _ _ budget i n (Go n (i + far)) m o (sets_skip (writer A d g budget) I b i (get_or m i 0) m (bytes o n) e f k)
      (record { answered = ap (λ (k : ℕ). Go n (i + k)) z; marked = refl; wrote = refl; falls = (omega arith, omega arith, l, omega (arith, z, set_skip_in (get_or m i 0))); clean = tt })

  pixel_plain : pixels_seen (writer A d g budget) b i (get_or m i 0) m (bytes o n) ≡ pixels_seen (plain A budget) b i (get_or m i 0) m (bytes o n)
  unfolding pixels_seen one_seen
  pixel_plain = refl

  refining_plain : refining_seen (writer A d g budget) b i (get_or m i 0) m (bytes o n) ≡ refining_seen (plain A budget) b i (get_or m i 0) m (bytes o n)
  unfolding refining_seen
  refining_plain = refl

  -- a visit
  pub visited_pixels : (pass : ℕ) (r : Step) (m₁ o₁ : List ℕ) → pass ≡ 0 → Does (pixels_seen (plain A budget) b i (get_or m i 0) m (bytes o n)) budget i n r m₁ o₁
      → Does (visit_seen (writer A d g budget) I b pass i (st m o n)) budget i n r m₁ o₁
  visited_pixels pass r m₁ o₁ e h = by_way _ _ budget i n r m₁ o₁ (visit_pixels (writer A d g budget) I b pass i (st m o n) e ∙ pixel_plain) h

  pub visited_sets : (pass : ℕ) (r : Step) (m₁ o₁ : List ℕ) → (pass ≡ 0 → ⊥) → pass ≡ 1 → Does (sets_seen (writer A d g budget) I b i (get_or m i 0) m (bytes o n)) budget i n r m₁ o₁
      → Does (visit_seen (writer A d g budget) I b pass i (st m o n)) budget i n r m₁ o₁
  visited_sets pass r m₁ o₁ e f h = by_way _ _ budget i n r m₁ o₁ (visit_sets (writer A d g budget) I b pass i (st m o n) e f) h

  pub visited_refining : (pass : ℕ) (r : Step) (m₁ o₁ : List ℕ) → (pass ≡ 0 → ⊥) → (pass ≡ 1 → ⊥) → Does (refining_seen (plain A budget) b i (get_or m i 0) m (bytes o n)) budget i n r m₁ o₁
      → Does (visit_seen (writer A d g budget) I b pass i (st m o n)) budget i n r m₁ o₁
  visited_refining pass r m₁ o₁ e f h = by_way _ _ budget i n r m₁ o₁ (visit_refining (writer A d g budget) I b pass i (st m o n) e f ∙ refining_plain) h
