-- Blocks of the table: each begins at a mark and is 0 inside, and where one ends another begins.
use mathlib.Core.Path.{◌≡◌, refl, sym, ap, subst, ◌∙◌}
use mathlib.Core.Bool.{Bool, true, false, true≢false}
use mathlib.Core.List.{List}
use mathlib.Core.Logic.{◌⊎◌, inl, inr}
use Prim.Native.Nat.{ℕ, zero, suc, ◌+◌, ◌*◌, ◌/◌, ◌%◌, ◌^◌, ◌≤◌, ◌<◌}
use native.Mathlib.Omega.{arith}
use native.Mathlib.Nat.{pow-suc, pow-succ', one-le-pow}
use native.Mathlib.Decide.{dec_lt, ℕ_discrete}
use lib.ListN.{get_or}
use lib.Dec.{lit<, lit≤}
use Rattle.nls.specs.Marks.{skip}
use Rattle.nls.proofs.Tiled.{Tiled}
use Rattle.nls.proofs.Machine.Table.{Cfg, up, alone, stands, Table, alone_no, no_alone, stands_no, no_stands, no_dg, low, gap, skip_5, skip_up, up_big, up_5, up_7, alone_low, alone_kid, alone_yes}
use Rattle.nls.proofs.Machine.Split.{kind_no}
use Rattle.nls.proofs.Machine.Cover.{Core, not_alone, is_desc_at, skip_1}

-- j is a multiple of 4^d
abbrev pub Even : ℕ → ℕ → Type 0
Even zero j = Unit {0}
Even (suc d) j = (j % 4 ≡ 0) × Even d (j / 4)

module _ {D I : ℕ} (sz : Tiled D I) (c : Cfg) (l : List ℕ) (k : Core sz c l) where
  abbrev m : ℕ → ℕ
  m j = get_or l j 0

  -- a set's skip is a power of 4, and its place a multiple of it
  abbrev pub Lies : ℕ → Type 0
  Lies j = (d : ℕ) × (skip (m j) ≡ 4 ^ suc d) × Even (suc d) j × (m j ≡ 5 → d ≡ 0) × ((m j ≡ 5 → ⊥) → 1 ≤ d)

  lies_fuel : (n j : ℕ) → j ≤ n → j < I → alone D I c j ≡ false → 5 ≤ m j → Lies j
  lies_fuel zero j jn ji a big = absurd (omega (arith, (no_alone D I c j a).0, sz.least))
  lies_fuel (suc n) j jn ji a big = split (ℕ_discrete (j % 4) 0) (stands D I c (j / 4)) refl (ℕ_discrete (j / 4 % 4) 0) (c.s_d (j / 4 / 4)) refl (lies_fuel n (j / 4))
    where
      t : Table D I c m
      t = k.tab

      split : Dec (j % 4 ≡ 0) → (x : Bool) → stands D I c (j / 4) ≡ x → Dec (j / 4 % 4 ≡ 0) → (y : Bool) → c.s_d (j / 4 / 4) ≡ y
          → (j / 4 ≤ n → j / 4 < I → alone D I c (j / 4) ≡ false → 5 ≤ m (j / 4) → Lies (j / 4)) → Lies j
      split (no z) x ex w y ey ih = absurd (omega (arith, t.odd j ji a z))
      split (yes z) true ex w y ey ih =
          let e : m j ≡ 5 = t.head j ji a z ex in
          (0, ap skip e ∙ skip_5 5 (lit≤ tt) (lit< tt), (z, tt), λ q. refl, λ q. absurd (q e))
      split (yes z) false ex (no w) y ey ih = absurd (omega (arith, t.side j ji a ex w))
      split (yes z) false ex (yes w) true ey ih =
          let e : m j ≡ 6 = t.mid j ji a z ex w ey in
          (1, ap skip e ∙ skip_5 6 (lit≤ tt) (lit< tt), (z, (w, tt)), λ q. absurd (omega (arith, e, q)), λ q. lit≤ tt)
      split (yes z) false ex (yes w) false ey ih =
          let e : m j ≡ up (m (j / 4)) = t.deep j ji a z ex w ey in
          let big' : 5 ≤ m (j / 4) = up_big (m (j / 4)) (omega (arith, e)) in
          let r : Lies (j / 4) = ih (omega arith) (omega arith) (alone_no D I c (j / 4) (no_stands D I c (j / 4) ex).0 ey) big' in
          (suc r.0, ap skip e ∙ skip_up (m (j / 4)) big' ∙ ap (λ (x : ℕ). 4 * x) r.1 ∙ sym (pow-succ' 4 (suc r.0)), (z, r.2), λ q. absurd (omega (arith, e, q, up_7_no (m (j / 4)) big')), λ q. omega arith)
        where
          up_7_no : (x : ℕ) → 5 ≤ x → 7 ≤ up x
          up_7_no x h = go (dec_lt x 7)
            where
              go : Dec (x < 7) → 7 ≤ up x
              go (yes y) = omega (arith, up_5 x h y)
              go (no y) = omega (arith, up_7 x (omega arith))

  pub lies : (j : ℕ) → j < I → 5 ≤ m j → Lies j
  lies j ji big = lies_fuel j j (omega arith) ji (not_alone sz c l k j ji big) big

  -- a place without a mark lies inside a block
  abbrev Within : ℕ → Type 0
  Within j = (t : ℕ) × (t < j) × (5 ≤ m t) × (j < t + skip (m t))

  four_end : (d t : ℕ) → Even (suc d) t → (t + 4 ^ suc d) % 4 ≡ 0
  four_end d t e = omega (arith, e.0, pow-suc 4 d)

  sixteen_end : (d t : ℕ) → 1 ≤ d → Even (suc d) t → ((t + 4 ^ suc d) % 16 ≡ 0) × (t % 16 ≡ 0)
  sixteen_end zero t h e = absurd (omega arith)
  sixteen_end (suc d) t h e =
      let t16 : t ≡ 16 * (t / 4 / 4) = omega (arith, e.0, e.1.0) in
      let p16 : 4 ^ suc (suc d) ≡ 16 * 4 ^ d = omega (arith, pow-suc 4 d, pow-suc 4 (suc d)) in
      (sixteens (t / 4 / 4) (4 ^ d) t (4 ^ suc (suc d)) t16 p16, omega (arith, t16))
    where
      sixteens : (x y p q : ℕ) → p ≡ 16 * x → q ≡ 16 * y → (p + q) % 16 ≡ 0
      sixteens x y p q a b = omega (arith, a, b)

  within_fuel : (n j : ℕ) → j ≤ n → j < I → m j ≡ 0 → Within j
  within_fuel zero j jn ji z = absurd (omega (arith, zero_alone))
    where
      a0 : alone D I c j ≡ true
      a0 = alone_low D I c j (omega (arith, sz.least))

      zero_alone : 1 ≤ m j
      zero_alone = omega (arith, k.tab.solo j ji a0, k.rng j ji a0)
  within_fuel (suc n) j jn ji z = by (alone D I c j) refl (ℕ_discrete (j % 4) 0) (stands D I c (j / 4)) refl (ℕ_discrete (j / 4 % 4) 0) (c.s_d (j / 4 / 4)) refl (within_fuel n)
    where
      t : Table D I c m
      t = k.tab

      none : (i : ℕ) → i < I → alone D I c i ≡ false → (m i ≡ 0) ⊎ (5 ≤ m i)
      none i hi a = kind_no sz c k.ok m t i hi a

      -- the first of the four at j, and of the sixteen
      in_four : alone D I c j ≡ false → (j % 4 ≡ 0 → ⊥) → ((i : ℕ) → i ≤ n → i < I → m i ≡ 0 → Within i) → Within j
      in_four a y ih = go (none f fi af)
        where
          f : ℕ
          f = 4 * (j / 4)

          fi : f < I
          fi = omega arith

          af : alone D I c f ≡ false
          af = alone_no D I c f (omega (arith, (no_alone D I c j a).0, sz.fours)) (subst (λ (h : ℕ). c.s_d h ≡ false) {x = j / 4} {y = f / 4} (omega arith) (no_alone D I c j a).1)

          go : (m f ≡ 0) ⊎ (5 ≤ m f) → Within j
          go (inr big) = let r : Lies f = lies f fi big in (f, omega arith, big, omega (arith, r.1, pow-suc 4 r.0, one-le-pow r.0 4 (lit< tt)))
          go (inl q) =
              let w : Within f = ih f (omega arith) fi q in
              let r : Lies w.0 = lies w.0 (omega (arith, w.1)) w.2 in
              (w.0, omega (arith, w.1), w.2, omega (arith, w.3, r.1, four_end r.0 w.0 r.2))

      in_sixteen : alone D I c j ≡ false → j % 4 ≡ 0 → stands D I c (j / 4) ≡ false → (j / 4 % 4 ≡ 0 → ⊥) → ((i : ℕ) → i ≤ n → i < I → m i ≡ 0 → Within i) → Within j
      in_sixteen a j4 s y ih = go (none f fi af)
        where
          f : ℕ
          f = 16 * (j / 4 / 4)

          fi : f < I
          fi = omega arith

          lt : f < j
          lt = pick (dec_lt f j)
            where
              pick : Dec (f < j) → f < j
              pick (yes q) = q
              pick (no q) = absurd (y (omega arith))

          lo : D ≤ j / 4
          lo = (no_stands D I c (j / 4) s).0

          f4 : f / 4 ≡ 4 * (j / 4 / 4)
          f4 = omega arith

          lo4 : D ≤ 4 * (j / 4 / 4)
          lo4 = omega (arith, lo, sz.fours)

          sf : stands D I c (f / 4) ≡ false
          sf = stands_no D I c (f / 4) (omega (arith, f4, lo4)) (subst (λ (h : ℕ). c.s_g h ≡ false) {x = j / 4 / 4} {y = f / 4 / 4} (omega arith) (no_stands D I c (j / 4) s).1)

          af : alone D I c f ≡ false
          af = alone_no D I c f (omega (arith, lo, sz.fours, sz.least)) (no_dg D I c k.ok (f / 4) sf)

          not_5 : (i : ℕ) → i < I → m i ≡ 5 → stands D I c (i / 4) ≡ true
          not_5 i hi e = (is_desc_at sz c l k i hi e).1

          go : (m f ≡ 0) ⊎ (5 ≤ m f) → Within j
          go (inr big) =
              let r : Lies f = lies f fi big in
              let d1 : 1 ≤ r.0 = r.4 (λ e. true≢false (sym (not_5 f fi e) ∙ sf)) in
              (f, lt, big, omega (arith, r.1, big_16 r.0 d1))
            where
              big_16 : (d : ℕ) → 1 ≤ d → 16 ≤ 4 ^ suc d
              big_16 zero h = absurd (omega arith)
              big_16 (suc d) h = omega (arith, pow-suc 4 d, pow-suc 4 (suc d), one-le-pow d 4 (lit< tt))
          go (inl q) =
              let w : Within f = ih f (omega (arith, lt)) fi q in
              let r : Lies w.0 = lies w.0 (omega (arith, w.1)) w.2 in
              (w.0, omega (arith, w.1, lt), w.2, far w.0 (ℕ_discrete (m w.0) 5) w.1 w.3 r)
            where
              apart : (v s : ℕ) → v < f → f < v + s → s ≡ 4 → v % 4 ≡ 0 → ⊥
              apart v s a b e q = omega (arith, a, b, e, q)

              past : (h v s : ℕ) → j < 16 * h + 16 → 16 * h < v + s → (v + s) % 16 ≡ 0 → j < v + s
              past h v s a b q = omega (arith, a, b, q)

              far : (w0 : ℕ) → Dec (m w0 ≡ 5) → w0 < f → f < w0 + skip (m w0) → Lies w0 → j < w0 + skip (m w0)
              far w0 (yes e) a1 a2 r =
                  let four : skip (m w0) ≡ 4 = r.1 ∙ ap (λ (x : ℕ). 4 ^ suc x) (r.3 e) in
                  absurd (apart w0 (skip (m w0)) a1 a2 four r.2.0)
              far w0 (no e) a1 a2 r = past (j / 4 / 4) w0 (skip (m w0)) (omega arith) a2 (subst (λ (x : ℕ). (w0 + x) % 16 ≡ 0) (sym r.1) (sixteen_end r.0 w0 (r.4 e) r.2).0)

      below : alone D I c j ≡ false → j % 4 ≡ 0 → stands D I c (j / 4) ≡ false → j / 4 % 4 ≡ 0 → c.s_d (j / 4 / 4) ≡ false → ((i : ℕ) → i ≤ n → i < I → m i ≡ 0 → Within i) → Within j
      below a j4 s j16 d ih = go (none (j / 4) (omega arith) aq)
        where
          lo : D ≤ j / 4
          lo = (no_stands D I c (j / 4) s).0

          aq : alone D I c (j / 4) ≡ false
          aq = alone_no D I c (j / 4) lo d

          e : m j ≡ up (m (j / 4))
          e = t.deep j ji a j4 s j16 d

          go : (m (j / 4) ≡ 0) ⊎ (5 ≤ m (j / 4)) → Within j
          go (inr big) = absurd (omega (arith, e, z, up_pos (m (j / 4)) big))
            where
              up_pos : (x : ℕ) → 5 ≤ x → 1 ≤ up x
              up_pos x h = pick (dec_lt x 7)
                where
                  pick : Dec (x < 7) → 1 ≤ up x
                  pick (yes y) = omega (arith, up_5 x h y)
                  pick (no y) = omega (arith, up_7 x (omega arith))
          go (inl q) = step (ih (j / 4) (omega (arith, sz.least)) (omega arith) q)
            where
              step : Within (j / 4) → Within j
              step w = (4 * w.0, omega (arith, w.1), big', omega (arith, w.3, size, j4))
                where
                  v : ℕ
                  v = w.0

                  vi : v < I
                  vi = omega (arith, w.1)

                  av : alone D I c v ≡ false
                  av = not_alone sz c l k v vi w.2

                  r : Lies v
                  r = lies v vi w.2

                  lw : (stands D I c (4 * v / 4) ≡ false) × (alone D I c (4 * v) ≡ false)
                  lw = low D I c k.ok (4 * v) (omega (arith, (no_alone D I c v av).0)) (subst (λ (x : ℕ). alone D I c x ≡ false) {x = v} {y = 4 * v / 4} (omega arith) av)

                  ed : m (4 * v) ≡ up (m v)
                  ed = t.deep (4 * v) (omega (arith, w.1)) lw.1 (omega arith) lw.0 (omega (arith, r.2.0)) (subst (λ (x : ℕ). c.s_d x ≡ false) {x = v / 4} {y = 4 * v / 4 / 4} (omega arith) (no_alone D I c v av).1)
                      ∙ ap (λ (x : ℕ). up (m x)) {x = 4 * v / 4} {y = v} (omega arith)

                  size : skip (m (4 * v)) ≡ 4 * skip (m v)
                  size = ap skip ed ∙ skip_up (m v) w.2

                  big' : 5 ≤ m (4 * v)
                  big' = pick (dec_lt (m v) 7)
                    where
                      pick : Dec (m v < 7) → 5 ≤ m (4 * v)
                      pick (yes y) = omega (arith, ed, w.2, up_5 (m v) w.2 y)
                      pick (no y) = omega (arith, ed, w.2, up_7 (m v) (omega arith))

      by : (x : Bool) → alone D I c j ≡ x → Dec (j % 4 ≡ 0) → (y : Bool) → stands D I c (j / 4) ≡ y → Dec (j / 4 % 4 ≡ 0) → (d : Bool) → c.s_d (j / 4 / 4) ≡ d
          → ((i : ℕ) → i ≤ n → i < I → m i ≡ 0 → Within i) → Within j
      by true a w y s v d ed ih = absurd (omega (arith, z, k.tab.solo j ji a, k.rng j ji a))
      by false a (no w) y s v d ed ih = in_four a w ih
      by false a (yes w) true s v d ed ih = absurd (omega (arith, z, t.head j ji a w s))
      by false a (yes w) false s (no v) d ed ih = in_sixteen a w s v ih
      by false a (yes w) false s (yes v) true ed ih = absurd (omega (arith, z, t.mid j ji a w s v ed))
      by false a (yes w) false s (yes v) false ed ih = below a w s v ed ih

  within : (j : ℕ) → j < I → m j ≡ 0 → Within j
  within j = within_fuel j j (omega arith)

  -- place j has a mark, or lies past the table
  abbrev pub Marked : ℕ → Type 0
  Marked j = j < I → m j ≡ 0 → ⊥

  bare_at : (t j : ℕ) → t < I → 5 ≤ m t → t < j → j < t + skip (m t) → j < I → m j ≡ 0
  bare_at t j ti big a b ji = (gap sz c m k.ok k.tab t ti (not_alone sz c l k t ti big) big j a b ji).1

  -- after a block another begins
  pub after_block : (t : ℕ) → t < I → (m t ≡ 0 → ⊥) → Marked (t + skip (m t))
  after_block t ti n ji z = go (within (t + skip (m t)) ji z)
    where
      at_size : Dec (m t < 5) → (w : ℕ) → t < w → w < t + skip (m t) → 5 ≤ m w → w < I → ⊥
      at_size (yes s) w a b big wi = omega (arith, skip_1 (m t) s)
      at_size (no s) w a b big wi = omega (arith, big, bare_at t w ti (omega arith) a b wi)

      order : (w : ℕ) → Dec (w < t) → Dec (w ≡ t) → w < t + skip (m t) → 5 ≤ m w → t + skip (m t) < w + skip (m w) → w < I → ⊥
      order w (yes a) b c1 big c2 wi = n (bare_at w t wi big a (omega (arith, c2)) ti)
      order w (no a) (yes b) c1 big c2 wi = omega (arith, c2, ap (λ (x : ℕ). x + skip (m x)) b)
      order w (no a) (no b) c1 big c2 wi = at_size (dec_lt (m t) 5) w (omega arith) c1 big wi

      go : Within (t + skip (m t)) → ⊥
      go w = order w.0 (dec_lt w.0 t) (ℕ_discrete w.0 t) w.1 w.2 w.3 (omega (arith, w.1))

  -- and after four coefficients that stand alone
  pub after_four : (t : ℕ) → t < I → t % 4 ≡ 0 → alone D I c t ≡ true → Marked (t + 4)
  after_four t ti t4 a ji z = go (within (t + 4) ji z)
    where
      same : (w : ℕ) → t ≤ w → w < t + 4 → w < I → alone D I c w ≡ true
      same w h1 h2 wi = pick (dec_lt t D)
        where
          pick : Dec (t < D) → alone D I c w ≡ true
          pick (yes y) = alone_low D I c w (omega (arith, sz.fours))
          pick (no y) = alone_kid D I c w (subst (λ (x : ℕ). c.s_d x ≡ true) {x = t / 4} {y = w / 4} (omega arith) (alone_yes D I c t (omega arith) a))

      order : (w : ℕ) → Dec (w < t) → w < t + 4 → 5 ≤ m w → t + 4 < w + skip (m w) → w < I → ⊥
      order w (yes y) c1 big c2 wi = omega (arith, bare_at w t wi big y (omega (arith, c2)) ti, k.tab.solo t ti a, k.rng t ti a)
      order w (no y) c1 big c2 wi =
          let b : alone D I c w ≡ true = same w (omega arith) c1 wi in
          omega (arith, big, k.tab.solo w wi b, k.rng w wi b)

      go : Within (t + 4) → ⊥
      go w = order w.0 (dec_lt w.0 t) w.1 w.2 w.3 (omega (arith, w.1))

  -- the first place has one
  pub at_0 : Marked 0
  at_0 h z = omega (arith, z, k.tab.solo 0 h a, k.rng 0 h a)
    where
      a : alone D I c 0 ≡ true
      a = alone_low D I c 0 (omega (arith, sz.least))
