-- The marks at the start, and one plane of the scan over a table: it writes what the magnitudes say.
use Prim.Native.Nat.{ℕ, zero, suc, ◌+◌, ◌*◌, ◌-◌, ◌^◌, ◌/◌, ◌≤◌, ◌<◌}
use mathlib.Core.Path.{◌≡◌, refl, sym, subst, ◌∙◌}
use mathlib.Core.Bool.{Bool, true, false, ◌||◌, cond}
use mathlib.Core.List.{List, ◌++◌}
use native.Mathlib.Omega.{arith}
use borrow.Author.Tests.{lt-ltb, eqb-true, eqb-false, lt-leb}
use lib.Dec.{T, ltb, eqb, ltb→lt}
use Rattle.nls.proofs.Counting.Tree.{Size, D, Q, I, desc_zero, grand_zero}
use Rattle.nls.proofs.Counting.Parts.{ι, big, split_desc, split_grand, plane}
use Rattle.nls.proofs.Counting.Bound.{none_big}
use Rattle.nls.proofs.Counting.Tiles.{down}
use Rattle.nls.proofs.Counting.Steps.{Table, go, pixel_step, refine_step, set_step, pushed, code, Marks}
use Rattle.nls.proofs.Counting.Passes.{rest, pixel_pass, refine_pass}
use Rattle.nls.proofs.Counting.Opens.{pushed_hit, pushed_miss, down_ge}
use Rattle.nls.proofs.Counting.SetPass.{set_pass}

or_no : (s t : Bool) → t ≡ false → T (s || t) → T s
or_no true t e h = tt
or_no false t e h = rw e at h

down_four : (k a : ℕ) → 1 ≤ k → 4 * a ≤ down k a
unfolding down
down_four zero a h = absurd (omega arith)
down_four (suc k) a h = omega (arith, down_ge k a)

module _ (z : Size) where
  -- the marks at the start, when n of the sets have been pushed
  unfoldable pub start_from : ℕ → Table
  start_from zero = λ x. cond (ltb x (D z)) 1 0
  start_from (suc n) = pushed z (start_from n) (4 * (z.e + n))

  unfoldable pub start : Table
  start = start_from (3 * z.e)

  -- ---- the marks at the start
  roots_apart : (k k' a a' : ℕ) → z.e ≤ a → a < 4 * z.e → z.e ≤ a' → a' < 4 * z.e → down k a ≡ down k' a' → a ≡ a'
  unfolding down
  roots_apart zero zero a a' p r p' r' e = e
  roots_apart zero (suc k') a a' p r p' r' e = absurd (omega (arith, down_ge k' a'))
  roots_apart (suc k) zero a a' p r p' r' e = absurd (omega (arith, down_ge k a))
  roots_apart (suc k) (suc k') a a' p r p' r' e = roots_apart k k' a a' p r p' r' (omega arith)

  start_low : (n x : ℕ) → x < D z → start_from n x ≡ 1
  unfolding start_from
  start_low zero x h = rw (lt-ltb x (D z) h)
  start_low (suc n) x h =
      pushed_miss z (start_from n) (z.e + n) x (λ k r e. omega (arith, down_four k (z.e + n) r)) ∙ start_low n x h

  start_hit : (n c k : ℕ) → n ≤ 3 * z.e → c < n → 1 ≤ k → down k (z.e + c) < I z → start_from n (down k (z.e + c)) ≡ code false k
  unfolding start_from
  start_hit zero c k l p r u = absurd (omega arith)
  start_hit (suc n) c k l p r u = tell (λ v. start_hit n c k (omega arith) v r u) (eqb c n) refl
    where
      tell : (c < n → start_from n (down k (z.e + c)) ≡ code false k) → (t : Bool) → eqb c n ≡ t
          → pushed z (start_from n) (4 * (z.e + n)) (down k (z.e + c)) ≡ code false k
      tell ih true e = let s : c ≡ n = eqb-true c n e in rw (← s) (pushed_hit z (start_from c) (z.e + c) k (omega arith) r u)
      tell ih false e =
          let ne : c ≡ n → ⊥ = eqb-false c n e in
          pushed_miss z (start_from n) (z.e + n) (down k (z.e + c))
          (λ k' r' e'. ne (omega (arith, roots_apart k k' (z.e + c) (z.e + n) (omega arith) (omega arith) (omega arith) (omega arith) e')))
          ∙ ih (omega (arith, ne))

module _ (z : Size) (mag : ℕ → ℕ) (neg : ℕ → Bool) where
  -- one plane: the three passes
  unfoldable pub scan_plane : ℕ → Table → (List Bool) × Table
  scan_plane b m =
      let one = go z (pixel_step mag neg b) (I z) m 0 in
      let two = go z (set_step z mag neg b) (z.e + 12 * Q z) one.1 0 in
      let three = go z (refine_step mag b) (I z) two.1 0 in
      (one.0 ++ (two.0 ++ three.0), three.1)

  pub plane_scan : (b : ℕ) (m : Table) → Marks z (split_desc z mag (suc b)) (split_grand z mag (suc b)) (λ x. rest z mag (suc b) x) m
      → ((scan_plane b m).0 ≡ plane z mag neg b) × Marks z (split_desc z mag b) (split_grand z mag b) (λ x. rest z mag b x) (scan_plane b m).1
  unfolding scan_plane plane
  plane_scan b m w =
      let p1 = pixel_pass z mag neg b m w in
      let p2 = set_pass z mag neg b (go z (pixel_step mag neg b) (I z) m 0).1 p1.1 in
      let p3 = refine_pass z mag neg b (go z (set_step z mag neg b) (z.e + 12 * Q z) (go z (pixel_step mag neg b) (I z) m 0).1 0).1 p2.1 in
      (rw (p1.0, p2.0, p3.0), p3.1)

  module _ (n : ℕ) (small : (i : ℕ) → i < I z → mag i < 2 ^ n) where
    no_big : (x : ℕ) → x < I z → big mag n x ≡ false
    unfolding big
    no_big x u = lt-leb (2 ^ n) (mag x) (small x u)

    no_desc : (y : ℕ) → split_desc z mag n y ≡ false
    unfolding split_desc
    no_desc y = rw (desc_zero z (λ c. ι (big mag n c)) (none_big z mag n small) y)

    no_grand : (y : ℕ) → split_grand z mag n y ≡ false
    unfolding split_grand
    no_grand y = rw (grand_zero z (λ c. ι (big mag n c)) (none_big z mag n small) y)

    low : (x : ℕ) (t : Bool) → t ≡ false → T (ltb x (D z) || t) → x < D z
    low x t e h = ltb→lt x (D z) (or_no (ltb x (D z)) t e h)

    pub start_marks : Marks z (split_desc z mag n) (split_grand z mag n) (λ x. rest z mag n x) (start z)
    unfolding start rest
    start_marks =
        record {
          coef = λ x u t. start_low z (3 * z.e) x (low x (split_desc z mag n (x / 4)) (no_desc (x / 4)) t) ∙ sym (rw (no_big x u));
          desc = λ k a p v s u.
              let l : a < D z = low a (split_grand z mag n (a / 4)) (no_grand (a / 4)) s.1 in
              let back : z.e + (a - z.e) ≡ a = omega arith in
              subst (λ (i : ℕ). down k i < I z → start_from z (3 * z.e) (down k i) ≡ code false k) back
              (λ o. start_hit z (3 * z.e) (a - z.e) k (omega arith) (omega arith) p o) u;
          grand = λ k a p v s u. absurd (rw (no_desc a) at s.0);
        }
