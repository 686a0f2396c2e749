-- The table at the start, and that the invariant of the scan holds there.
use mathlib.Core.Path.{◌≡◌, sym, ap, subst, ◌∙◌}
use mathlib.Core.Bool.{true, false, false≢true, or-false}
use mathlib.Core.Logic.{◌⊎◌, inl, inr}
use mathlib.Core.List.{List, ◌++◌}
use Prim.Native.Nat.{ℕ, zero, suc, ◌+◌, ◌*◌, ◌-◌, ◌/◌, ◌%◌, ◌≤◌, ◌<◌}
use native.Mathlib.Omega.{arith}
use lib.ListN.{length, get_or, replicate, length-append, length-replicate, get_or-replicate, get_or-append}
use lib.Seq.{get_or-append-add}
use lib.Dec.{ltb, lit<, lit≤}
use borrow.Author.Tests.{ltb-true}
use Rattle.nls.specs.Marks.{push_roots, start_marks}
use Rattle.nls.specs.Scan.{state_at, pixels, start}
use Rattle.nls.proofs.Tiled.{Tiled}
use Rattle.nls.proofs.Arrays.{Bits}
use Rattle.nls.proofs.Machine.Table.{Cfg, up, alone, stands, Table, no_alone, no_stands, up_low}
use Rattle.nls.proofs.Machine.Push.{Done, done_0, done_roots, Head, Line, down, On, on?, line_mod, kinds, line_ge}
use Rattle.nls.proofs.Machine.Cover.{Pix, Preds}
use Rattle.nls.proofs.Machine.Steps.{Fam, preds, Good, good_settle}

abbrev pub c0 : Cfg
c0 = record { s_d = λ h. false; s_g = λ q. false; al = λ j. 1 }

module _ {D I : ℕ} (sz : Tiled D I) where
  abbrev pub base : List ℕ
  base = replicate D 1 ++ replicate (I - D) 0

  abbrev pub first : List ℕ
  first = push_roots I (3 * D / 4) D base

  base_len : length base ≡ I
  base_len = omega (arith, length-append {A = ℕ} (replicate D 1) (replicate (I - D) 0), length-replicate {A = ℕ} D 1, length-replicate {A = ℕ} (I - D) 0)

  base_1 : (j : ℕ) → j < D → get_or base j 0 ≡ 1
  base_1 j h = get_or-append (replicate D 1) (replicate (I - D) 0) 0 j (omega (arith, length-replicate {A = ℕ} D 1)) ∙ get_or-replicate D j 1 0 h

  base_0 : (j : ℕ) → D ≤ j → j < I → get_or base j 0 ≡ 0
  base_0 j h k = ap (λ (x : ℕ). get_or base x 0) {x = j} {y = length (replicate D 1) + (j - D)} (omega (arith, length-replicate {A = ℕ} D 1))
      ∙ get_or-append-add (replicate D 1) (replicate (I - D) 0) (j - D) 0 ∙ get_or-replicate (I - D) (j - D) 0 0 (omega arith)

  dn : Done I D sz.fours (omega arith) (3 * D / 4) base first
  dn = subst (λ (x : ℕ). Done I D sz.fours (omega arith) (3 * D / 4) base (push_roots I (3 * D / 4) x base)) {x = D + 4 * 0} {y = D} (omega arith)
      (subst (λ (x : ℕ). Done I D sz.fours (omega arith) x base (push_roots I (3 * D / 4) (D + 4 * 0) base)) {x = 0 + 3 * D / 4} {y = 3 * D / 4} (omega arith)
      (done_roots I D sz.fours (omega arith) (3 * D / 4) 0 base base (omega arith) (omega arith) (done_0 I D sz.fours (omega arith) base base_len)))

  al_0 : (j : ℕ) → alone D I c0 j ≡ true → j < D
  unfolding alone
  al_0 j a = ltb-true j D (sym (or-false (ltb j D)) ∙ a)

  st_0 : (h : ℕ) → stands D I c0 h ≡ true → h < D
  unfolding stands
  st_0 h a = ltb-true h D (sym (or-false (ltb h D)) ∙ a)

  abbrev Is : ℕ → Type 0
  Is k = On I D sz.fours (omega arith) (3 * D / 4) k

  same : (j : ℕ) → (Is j → ⊥) → get_or first j 0 ≡ get_or base j 0
  same j n = dn.off j (λ h a z. n (h, a, z))

  table_0 : Table D I c0 (λ j. get_or first j 0)
  table_0 = record {
    solo = λ j h a. same j (λ z. omega (arith, al_0 j a, line_ge z.0 j z.2, z.1)) ∙ base_1 j (al_0 j a);
    odd = λ j h a n. same j (λ z. n (line_mod D (3 * D / 4) z.0 j z.1 z.2)) ∙ base_0 j (no_alone D I c0 j a).0 h;
    head = λ j h a e s. dn.top j ((no_alone D I c0 j a).0, omega (arith, st_0 (j / 4) s), e);
    side = λ j h a s n. same j (λ z. side' j s n z (kinds D (3 * D / 4) j z.0 z.1 z.2)) ∙ base_0 j (no_alone D I c0 j a).0 h;
    mid = λ j h a e s w d. absurd (false≢true d);
    deep = λ j h a e s w d. deep' j h a e s (on? I D sz.fours (omega arith) (3 * D / 4) j j (omega arith));
  }
    where
      side' : (j : ℕ) → stands D I c0 (j / 4) ≡ false → (j / 4 % 4 ≡ 0 → ⊥) → (z : Is j) → (Head D (3 * D / 4) j) ⊎ ((j ≡ z.0 → ⊥) × Line z.0 (j / 4)) → ⊥
      side' j s n z (inl a) = omega (arith, (no_stands D I c0 (j / 4) s).0)
      side' j s n z (inr y) = n (line_mod D (3 * D / 4) z.0 (j / 4) z.1 y.1)

      deep' : (j : ℕ) → j < I → alone D I c0 j ≡ false → j % 4 ≡ 0 → stands D I c0 (j / 4) ≡ false → Dec (Is j) → get_or first j 0 ≡ up (get_or first (j / 4) 0)
      deep' j h a e s (yes z) = go (kinds D (3 * D / 4) j z.0 z.1 z.2)
        where
          go : (Head D (3 * D / 4) j) ⊎ ((j ≡ z.0 → ⊥) × Line z.0 (j / 4)) → get_or first j 0 ≡ up (get_or first (j / 4) 0)
          go (inl b) = absurd (omega (arith, (no_stands D I c0 (j / 4) s).0))
          go (inr b) = dn.line z.0 j z.1 z.2 b.0 h
      deep' j h a e s (no z) =
          let lo : D ≤ j / 4 = (no_stands D I c0 (j / 4) s).0 in
          same j z ∙ base_0 j (omega arith) h ∙ sym (ap up (same (j / 4) (λ y. z (y.0, y.1, down e y.2)) ∙ base_0 (j / 4) lo (omega arith)) ∙ up_low 0 (lit< tt))

  pub pix_0 : (R : Preds) (X : ℕ → Type 0) → ((j : ℕ) → R.Z j → ⊥) → Pix sz R X 0 c0 first
  pix_0 R X n = record {
    more = record { sg = λ j h a l u. absurd (omega arith); q_d = λ h e. absurd (false≢true e); q_g = λ h e. absurd (false≢true e); zs = λ j h e. absurd (n j e) };
    core = record {
      len = dn.len;
      ok = record { gd = λ q e. absurd (false≢true e); dg = λ h e. absurd (false≢true e); lo = λ h e. absurd (false≢true e); hi = λ h e. absurd (false≢true e) };
      tab = table_0;
      rng = λ j h a. (lit≤ tt, lit≤ tt);
    };
    two = λ j h a e. absurd (omega arith);
    no4 = λ j h a e. omega arith;
    done = λ j h a b e. absurd (omega arith);
  }

  -- before and after the silent moves that lead to the first bit
  pub good_first : (P : ℕ) (F : Fam) → ((j : ℕ) → F.Z j → ⊥) → Good sz P F (state_at P pixels 0 (start_marks I D))
  unfolding start_marks
  good_first zero F n = ((λ e h1 h2. absurd (omega arith)), λ j hj z. absurd (n j z))
  good_first (suc b) F n = ((λ e h1 h2. absurd (omega arith)), (c0, pix_0 (preds F b) (F.X b) n))

  pub good_start : (P : ℕ) (F : Fam) → ((j : ℕ) → F.Z j → ⊥) → Good sz P F (start I D P)
  unfolding start
  good_start P F n = good_settle sz P F (state_at P pixels 0 (start_marks I D)) (good_first P F n)

abbrev pub nothing : Bits
nothing = record { has = λ i b. false; neg = λ i. false }
